-- What the calls of the libraries answer, told from the report of the answer.
--   told_again      a refusal is made again of its number and of what is beside it
--   plain_again     the same where nothing is beside it
--   pair_again      the same of two families
use Prim.Native.Nat.{ℕ, ◌+◌, ◌-◌}
use native.Mathlib.Omega.{arith}
use mathlib.Core.Bool.{true, false, cond}
use mathlib.Core.List.{List, [], ◌∷◌}
use mathlib.Core.Logic.{⊎_elim}
use mathlib.Core.Path.{◌≡◌, refl, ap, ◌∙◌}
use lib.ListN.{length, get_or}
use lib.Dec.{eqb, ltb}
use borrow.Author.Tests.{eqb-true, le-ltb}
use Rattle.reader.specs.declared.refusal.Refusal.{Refusal}
use Rattle.reader.specs.declared.refusal.Refusal.TheVariants.{Mark, PeptideCount, LeafCount, RegionCount, Layout, LeafLengths, Misplaced, Misordered, Crossing, TooDeep, PathLength, OffTheLine, Repeated, Selection, Fraction, Room, RowCount, Row, Rule, PValueCount, PValue, Deviation, Level, ListLength, Tally, LevelCounts, Levels}
use Rattle.reader.specs.Refusals.{number_of, beside}
use Rattle.reader.proofs.Bools.{test}
use Rattle.reader.proofs.Refusals.{number_some}
use Rattle.reduction.specs.declared.PairRefusal.{PairRefusal}
use Rattle.reduction.specs.declared.PairRefusal.TheVariants.{First, Second}
use Rattle.reduction.specs.Calls.{pair_number, pair_beside}
use Rattle.phf.specs.Obeys.{refusal_of, pair_refusal_of}

-- a refusal with number 13 has a place beside it
place_there : (e : Refusal) → number_of e ≡ 13 → beside e ≡ [] → ⊥
place_there Mark h none = omega arith
place_there PeptideCount h none = omega arith
place_there LeafCount h none = omega arith
place_there RegionCount h none = omega arith
place_there Layout h none = omega arith
place_there LeafLengths h none = omega arith
place_there Misplaced h none = omega arith
place_there Misordered h none = omega arith
place_there Crossing h none = omega arith
place_there TooDeep h none = omega arith
place_there PathLength h none = omega arith
place_there OffTheLine h none = omega arith
place_there (Repeated place) h none = omega (arith, ap length none)
place_there Selection h none = omega arith
place_there Fraction h none = omega arith
place_there Room h none = omega arith
place_there RowCount h none = omega arith
place_there Row h none = omega arith
place_there Rule h none = omega arith
place_there PValueCount h none = omega arith
place_there PValue h none = omega arith
place_there Deviation h none = omega arith
place_there Level h none = omega arith
place_there ListLength h none = omega arith
place_there Tally h none = omega arith
place_there LevelCounts h none = omega arith
place_there Levels h none = omega arith

-- a refusal with this place beside it if its number is 13, else with nothing
pub told_again : (place : ℕ) (e : Refusal) → beside e ≡ cond (eqb (number_of e) 13) (place ∷ []) [] → e ≡ refusal_of place (number_of e)
unfolding refusal_of
told_again place Mark h = refl
told_again place PeptideCount h = refl
told_again place LeafCount h = refl
told_again place RegionCount h = refl
told_again place Layout h = refl
told_again place LeafLengths h = refl
told_again place Misplaced h = refl
told_again place Misordered h = refl
told_again place Crossing h = refl
told_again place TooDeep h = refl
told_again place PathLength h = refl
told_again place OffTheLine h = refl
told_again place (Repeated p) h = ap Repeated (ap (λ (l : List ℕ). get_or l 0 0) h)
told_again place Selection h = refl
told_again place Fraction h = refl
told_again place Room h = refl
told_again place RowCount h = refl
told_again place Row h = refl
told_again place Rule h = refl
told_again place PValueCount h = refl
told_again place PValue h = refl
told_again place Deviation h = refl
told_again place Level h = refl
told_again place ListLength h = refl
told_again place Tally h = refl
told_again place LevelCounts h = refl
told_again place Levels h = refl

pub plain_again : (e : Refusal) → beside e ≡ [] → e ≡ refusal_of 0 (number_of e)
plain_again e none =
    told_again 0 e
    (⊎_elim
    (λ (t : eqb (number_of e) 13 ≡ true). absurd (place_there e (eqb-true (number_of e) 13 t) none))
    (λ (f : eqb (number_of e) 13 ≡ false). none ∙ rw f refl)
    (test (eqb (number_of e) 13)))

below_101 : (e : Refusal) → ltb (number_of e) 101 ≡ true
below_101 Mark = refl
below_101 PeptideCount = refl
below_101 LeafCount = refl
below_101 RegionCount = refl
below_101 Layout = refl
below_101 LeafLengths = refl
below_101 Misplaced = refl
below_101 Misordered = refl
below_101 Crossing = refl
below_101 TooDeep = refl
below_101 PathLength = refl
below_101 OffTheLine = refl
below_101 (Repeated place) = refl
below_101 Selection = refl
below_101 Fraction = refl
below_101 Room = refl
below_101 RowCount = refl
below_101 Row = refl
below_101 Rule = refl
below_101 PValueCount = refl
below_101 PValue = refl
below_101 Deviation = refl
below_101 Level = refl
below_101 ListLength = refl
below_101 Tally = refl
below_101 LevelCounts = refl
below_101 Levels = refl

pub pair_again : (e : PairRefusal) → pair_beside e ≡ [] → e ≡ pair_refusal_of (pair_number e)
unfolding pair_refusal_of
pair_again (First e) none = rw (below_101 e) (ap First (plain_again e none))
pair_again (Second e) none =
    let past : ltb (number_of e + 100) 101 ≡ false = le-ltb (number_of e + 100) 101 (omega (arith, number_some e)) in
    let back : (number_of e + 100) - 100 ≡ number_of e = omega arith in
    rw (past, back) (ap Second (plain_again e none))
