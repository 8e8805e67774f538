-- The leaf ends marked in a list of bytes, their number, the leaf lengths between them and the regions' numbers, one step at a time.
use Prim.Native.Nat.{ℕ, zero, suc, ◌+◌, ◌*◌, ◌-◌, ◌≤◌, ◌<◌}
use mathlib.Core.Bool.{Bool, true, false, ◌||◌}
use mathlib.Core.List.{List, [], ◌∷◌, ◌++◌, append-nil}
use mathlib.Core.Logic.{⊎_elim}
use mathlib.Core.Path.{◌≡◌, refl, sym, ap, ◌∙◌}
use native.Mathlib.Numerals.{add-one}
use native.Mathlib.Omega.{arith}
use lib.ListN.{length, get_or, set, replicate, length-append, length-set}
use lib.Seq.{get_or-set_same, get_or-set_other}
use lib.Dec.{eqb}
use borrow.Author.Tests.{eqb-true, eqb-false}
use Rattle.reader.specs.Lists.{some_below}
use Rattle.reader.specs.Bytes.{with_numbers}
use Rattle.reader.proofs.NumberRows.{numbers_none, numbers_join}
use Rattle.bounds.specs.Ranges.{Peptides, card}
use Rattle.bounds.proofs.Basics.Members.{test}
use Rattle.reduction.specs.Reduction.{rising, last_of, leaf_lengths}
use Rattle.reduction.specs.Private.Writing.{ends_at, Marks, marked_in, region_numbers}
use Rattle.reduction.proofs.Theory.Leaves.{leaves_count}

-- Marks.

-- nothing is marked
pub none_marked : (n p : ℕ) → get_or (replicate n false) p false ≡ false
none_marked zero p = refl
none_marked (suc n) zero = refl
none_marked (suc n) (suc p) = none_marked n p

-- one place more is marked
mark_more : (E : List Bool) (X : Peptides) (i : ℕ) → i < length E → Marks E X → Marks (set E i true) (λ p. eqb p i || X p)
mark_more E X i h marks p =
    ⊎_elim
    (λ t. let e = eqb-true p i t in rw (t, e) (get_or-set_same E i true false h))
    (λ f. rw f (get_or-set_other E i p true false (eqb-false p i f) ∙ marks p))
    (test (eqb p i))

module _ (m : ℕ) (A B : List ℕ) where
  -- the first mark is at m
  pub ends_first : (E : List Bool) → m < length E → ((p : ℕ) → get_or E p false ≡ false) → Marks (set E m true) (ends_at m 0 A B)
  unfolding ends_at some_below
  ends_first E h none = mark_more E (λ p. false) m h none

  -- the two ends of the k-th range
  pub ends_more : (E : List Bool) (k : ℕ) → get_or A k 0 - 1 < length E → get_or B k 0 < length E → Marks E (ends_at m k A B)
      → Marks (set (set E (get_or A k 0 - 1) true) (get_or B k 0) true) (ends_at m (k + 1) A B)
  unfolding ends_at some_below
  ends_more E k ha hb marks p =
      let a = get_or A k 0 - 1 in
      let b = get_or B k 0 in
      let both = mark_more (set E a true) (λ q. eqb q a || ends_at m k A B q) b (rw length-set hb) (mark_more E (ends_at m k A B) a ha marks) p in
      rw (add-one k) (both ∙ (turned (eqb p m) (some_below k (λ j. eqb p (get_or A j 0 - 1) || eqb p (get_or B j 0))) (eqb p a) (eqb p b)))
    where
      turned : (e s x y : Bool) → (y || (x || (e || s))) ≡ (e || (s || (x || y)))
      turned true true true true = refl
      turned true true true false = refl
      turned true true false true = refl
      turned true true false false = refl
      turned true false true true = refl
      turned true false true false = refl
      turned true false false true = refl
      turned true false false false = refl
      turned false true true true = refl
      turned false true true false = refl
      turned false true false true = refl
      turned false true false false = refl
      turned false false true true = refl
      turned false false true false = refl
      turned false false false true = refl
      turned false false false false = refl

-- the set that is marked is the set of the places that hold 1
pub marked_set_lem : (E : List Bool) (X : Peptides) → Marks E X → marked_in E ≡ X
unfolding marked_in
marked_set_lem E X marks = λ i p. marks p i

-- How many leaves end.

-- one more where the next peptide is marked
pub count_marked : (E : List Bool) (p : ℕ) → get_or E (p + 1) false ≡ true → card (p + 1) (marked_in E) ≡ card p (marked_in E) + 1
unfolding card marked_in
count_marked E p e = let here : get_or E (suc p) false ≡ true = rw (add-one p) at e in rw (add-one p, here)

pub count_unmarked : (E : List Bool) (p : ℕ) → get_or E (p + 1) false ≡ false → card (p + 1) (marked_in E) ≡ card p (marked_in E)
unfolding card marked_in
count_unmarked E p e = let here : get_or E (suc p) false ≡ false = rw (add-one p) at e in rw (add-one p, here) (omega arith)

-- from the first peptide on, they are all that end
pub count_all : (X : Peptides) (m r : ℕ) → r + card 0 X ≡ card m X → r ≡ card m X
unfolding card
count_all X m r e = omega arith

-- Leaf lengths.

module _ (X : Peptides) where
  -- the numbers up to p, where a leaf ends there
  pub record LeafEnds (p : ℕ) : Type 0 where
    pub lengths : leaf_lengths p X ≡ leaf_lengths (p - 1) X ++ ((p - last_of (p - 1) X) ∷ [])
    pub count : card p X ≡ card (p - 1) X + 1
    pub last : last_of p X ≡ p

  pub leaf_ends : (p : ℕ) → 1 ≤ p → X p ≡ true → LeafEnds p
  unfolding leaf_lengths rising card last_of
  leaf_ends zero h t = absurd (omega arith)
  leaf_ends (suc p) h t =
      let down : suc p - 1 ≡ p = omega arith in
      record { lengths = rw (t, down); count = rw (t, down); last = rw t }

  -- and where none does
  pub record LeafGoesOn (p : ℕ) : Type 0 where
    pub lengths : leaf_lengths p X ≡ leaf_lengths (p - 1) X
    pub count : card p X ≡ card (p - 1) X
    pub last : last_of p X ≡ last_of (p - 1) X

  pub leaf_goes_on : (p : ℕ) → 1 ≤ p → X p ≡ false → LeafGoesOn p
  unfolding leaf_lengths rising card last_of
  leaf_goes_on zero h t = absurd (omega arith)
  leaf_goes_on (suc p) h t =
      let down : suc p - 1 ≡ p = omega arith in
      record { lengths = rw (t, down) (append-nil (rising p _)); count = rw (t, down) (omega arith); last = rw (t, down) }

  pub lengths_more : (p : ℕ) (out : List ℕ) → LeafEnds p
      → with_numbers (with_numbers out 16 (leaf_lengths (p - 1) X)) (16 + 2 * card (p - 1) X) ((p - last_of (p - 1) X) ∷ []) ≡ with_numbers out 16 (leaf_lengths p X)
  lengths_more p out e =
      numbers_join out 16 (leaf_lengths (p - 1) X) ((p - last_of (p - 1) X) ∷ []) (16 + 2 * card (p - 1) X) (omega (arith, leaves_count X (p - 1)))
      ∙ ap (with_numbers out 16) (sym e.lengths)

pub lengths_none : (out : List ℕ) (X : Peptides) → with_numbers out 16 (leaf_lengths 0 X) ≡ out
unfolding leaf_lengths rising
lengths_none out X = numbers_none out 16

-- Regions.

module _ (X : Peptides) (A B Z : List ℕ) where
  pub region_numbers_none : region_numbers 0 X A B Z ≡ []
  unfolding region_numbers rising
  region_numbers_none = refl

  pub region_numbers_next : (k : ℕ)
      → region_numbers (k + 1) X A B Z
      ≡ region_numbers k X A B Z ++ ((card (get_or A k 0 - 1) X + 1) ∷ card (get_or B k 0) X ∷ get_or Z k 0 ∷ [])
  unfolding region_numbers rising
  region_numbers_next k =
      let down : suc k - 1 ≡ k = omega arith in
      rw (add-one k, down)

  region_numbers_length : (k : ℕ) → length (region_numbers k X A B Z) ≡ 3 * k
  unfolding region_numbers rising
  region_numbers_length zero = refl
  region_numbers_length (suc k) =
      let before = region_numbers_length k in
      rw length-append (omega arith)

  pub regions_more : (out : List ℕ) (at k : ℕ)
      → with_numbers (with_numbers out at (region_numbers k X A B Z)) (at + 6 * k) ((card (get_or A k 0 - 1) X + 1) ∷ card (get_or B k 0) X ∷ get_or Z k 0 ∷ [])
      ≡ with_numbers out at (region_numbers (k + 1) X A B Z)
  regions_more out at k =
      numbers_join out at (region_numbers k X A B Z) _ (at + 6 * k) (omega (arith, region_numbers_length k))
      ∙ ap (with_numbers out at) (sym (region_numbers_next k))
