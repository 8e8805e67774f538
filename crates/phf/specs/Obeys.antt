-- What demand 1 asks of a call: with bad input the first cause that holds, with its number, and every lent list unchanged; with no
-- cause its work.
use Rattle.std.specs.Prelude.{ℕ, ◌-◌, ◌≤◌, true, false, cond, ltb, List, [], ◌∷◌, ◌++◌, map, get_or, ◌≡◌}
use Rattle.reader.specs.declared.refusal.Refusal.{Refusal}
use Rattle.reader.specs.declared.refusal.Refusal.TheVariants.{Mark, PeptideCount, LeafCount, RegionCount, Layout, LeafLengths, Misplaced, Misordered, Crossing, TooDeep, PathLength, OffTheLine, Repeated, Selection, Fraction, Room, RowCount, Row, Rule, PValueCount, PValue, Deviation, Level, ListLength, Tally, LevelCounts, Levels}
use Rattle.reader.specs.Causes.{Cause, first_cause}
use Rattle.reduction.specs.declared.PairRefusal.{PairRefusal}
use Rattle.reduction.specs.declared.PairRefusal.TheVariants.{First, Second}

-- the numbers of the causes, in the order in which they are tried
abbrev pub numbers : List Cause → List ℕ
numbers cs = map (λ c. c.number) cs

abbrev pub NoneHolds : List Cause → Type 0
NoneHolds [] = Unit {0}
NoneHolds (c ∷ cs) = (c.holds ≡ false) × NoneHolds cs

-- the refusals by their numbers, from 1 on; the one with 13 has this place
abbrev pub refusals : ℕ → List Refusal
refusals place = Mark ∷ PeptideCount ∷ LeafCount ∷ RegionCount ∷ Layout ∷ LeafLengths ∷ Misplaced ∷ Misordered ∷ Crossing ∷ TooDeep ∷ PathLength ∷ OffTheLine ∷ Repeated place ∷ Selection ∷ Fraction ∷ Room ∷ RowCount ∷ Row ∷ Rule ∷ PValueCount ∷ PValue ∷ Deviation ∷ Level ∷ ListLength ∷ Tally ∷ LevelCounts ∷ Levels ∷ []

-- the refusal with this number, and with this place where it has one
unfoldable pub refusal_of : ℕ → ℕ → Refusal
refusal_of place n = get_or (refusals place) (n - 1) Levels

-- the same of two families: from 101 on it is that of the second
unfoldable pub pair_refusal_of : ℕ → PairRefusal
pair_refusal_of n = cond (ltb n 101) (First (refusal_of 0 n)) (Second (refusal_of 0 (n - 100)))

-- none of the numbers is 0, which stands for no cause
abbrev pub NoZero : List ℕ → Type 0
NoZero [] = Unit {0}
NoZero (n ∷ ns) = (1 ≤ n) × NoZero ns

-- a cause with number n holds, and none before it
pub record FirstHolds (cs : List Cause) (n : ℕ) : Type 0 where
  pub earlier : List Cause
  pub first : Cause
  pub later : List Cause
  pub split : cs ≡ earlier ++ (first ∷ later)
  pub none_earlier : NoneHolds earlier
  pub holds : first.holds ≡ true
  pub numbered : first.number ≡ n

-- A call with these causes: its answer is its refusal with the number of the first that holds, and its lent lists hold after it what they
-- held before it; if none holds, the answer and the lists are those of its work.
pub record Obeys {A : Type 0} (cs : List Cause) (answer : A) (refusal : ℕ → A) (work : A) (after before written : List (List ℕ)) : Type 0 where
  pub declined : (first_cause cs ≡ 0 → ⊥) → (answer ≡ refusal (first_cause cs)) × (after ≡ before)
  pub done : first_cause cs ≡ 0 → (answer ≡ work) × (after ≡ written)
