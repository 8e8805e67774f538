-- Each cause as a fact: where it does not hold the fact does, and the other way round. The loops and the laws of a
-- well-formed family use these and open no cause again.
use Prim.Native.Nat.{ℕ, zero, suc, ◌+◌, ◌*◌, ◌-◌, ◌<◌, ◌≤◌}
use native.Mathlib.Omega.{arith}
use mathlib.Core.Bool.{Bool, true, false, not, cond, ◌&&◌, ◌||◌}
use mathlib.Core.List.{List}
use mathlib.Core.Path.{◌≡◌, refl}
use mathlib.Core.Logic.{◌⊎◌, inl, inr, ⊎_elim}
use lib.ListN.{length, take}
use lib.Dec.{ltb, eqb}
use borrow.Author.Tests.{ltb-true, ltb-false, eqb-true, eqb-false, lt-ltb, le-ltb, eq-eqb, ne_eqb, not-false}
use Rattle.reader.specs.Lists.{sum, same_list}
use Rattle.reader.specs.Bytes.{number_at}
use Rattle.reader.specs.Family.{Region, Family, leaves, region_count, region, family_of, mark, lengths_offset}
use Rattle.reader.specs.Nesting.{before}
use Rattle.reader.specs.Causes.{cause1, cause2, cause3, cause4, cause5, cause6, cause7, cause8, misplaced, first_cause, layout_causes, header_causes, listing_causes}
use Rattle.reader.proofs.Bools.{and_l, and_r, and_both, or_l, or_r, or_either, or_neither, or_fails_l, or_fails_r, not_fails}
use Rattle.reader.proofs.Below.{none_at, none_below}
use Rattle.reader.proofs.Lists.{same_equal, same_refl}
use Rattle.reader.proofs.Parsed.{leaves_read, regions_read}

-- Tests on numbers, as facts.

pub eq_if_same : (a b : ℕ) → not (eqb a b) ≡ false → a ≡ b
eq_if_same a b h = eqb-true a b (not-false (eqb a b) h)

pub same_if_eq : (a b : ℕ) → a ≡ b → not (eqb a b) ≡ false
same_if_eq a b h = not_fails (eqb a b) (eq-eqb a b h)

some_if : (a : ℕ) → eqb a 0 ≡ false → 1 ≤ a
some_if zero h = absurd (eqb-false 0 0 h refl)
some_if (suc a) h = omega arith

zero_unless : (a : ℕ) → 1 ≤ a → eqb a 0 ≡ false
zero_unless a h = ne_eqb a 0 (λ e. omega arith)

-- Causes 1 to 5.

module _ (wanted s : List ℕ) where
  pub mark_there : cause1 wanted s ≡ false → (16 ≤ length s) × (take 4 s ≡ wanted)
  unfolding cause1
  mark_there h = (
    ltb-false (length s) 16 (or_fails_l (ltb (length s) 16) (not (same_list (take 4 s) wanted)) h),
    same_equal (take 4 s) wanted (not-false _ (or_fails_r (ltb (length s) 16) (not (same_list (take 4 s) wanted)) h)),
  )

  pub from_marked : 16 ≤ length s → take 4 s ≡ wanted → cause1 wanted s ≡ false
  unfolding cause1
  from_marked h e = or_neither _ _ (le-ltb (length s) 16 h) (rw e (not_fails (same_list wanted wanted) (same_refl wanted)))

  -- the test for the mark, where the file has 16 bytes
  pub marked_so : 16 ≤ length s → cause1 wanted s ≡ not (same_list (take 4 s) wanted)
  unfolding cause1
  marked_so h = rw (le-ltb (length s) 16 h)

module _ (m : ℕ) where
  pub peptides_counted : cause2 m ≡ false → (1 ≤ m) × (m ≤ 4096)
  unfolding cause2
  peptides_counted h = (some_if _ (or_fails_l _ (ltb 4096 m) h), ltb-false 4096 _ (or_fails_r (eqb m 0) _ h))

  pub from_peptides_counted : 1 ≤ m → m ≤ 4096 → cause2 m ≡ false
  unfolding cause2
  from_peptides_counted a b = or_neither _ _ (zero_unless _ a) (le-ltb 4096 _ b)

module _ (F : Family) where
  pub leaves_counted : cause3 F ≡ false → (1 ≤ leaves F) × (leaves F ≤ 4096)
  unfolding cause3
  leaves_counted h = (some_if _ (or_fails_l _ (ltb 4096 (leaves F)) h), ltb-false 4096 _ (or_fails_r (eqb (leaves F) 0) _ h))

  pub from_leaves_counted : 1 ≤ leaves F → leaves F ≤ 4096 → cause3 F ≡ false
  unfolding cause3
  from_leaves_counted a b = or_neither _ _ (zero_unless _ a) (le-ltb 4096 _ b)

  pub regions_counted : cause4 F ≡ false → region_count F ≤ 2 * leaves F - 1
  unfolding cause4
  regions_counted h = ltb-false _ _ h

  pub from_regions_counted : region_count F ≤ 2 * leaves F - 1 → cause4 F ≡ false
  unfolding cause4
  from_regions_counted h = le-ltb _ _ h

-- the offsets and the length as laid down, with the leaf lengths from that byte on
pub record LaidDown (start : ℕ) (s : List ℕ) : Type 0 where
  pub lengths : number_at s 10 ≡ start
  pub regions : number_at s 12 ≡ start + 2 * number_at s 6
  pub total : number_at s 14 ≡ start + 2 * number_at s 6 + 6 * number_at s 8
  pub whole : length s ≡ start + 2 * number_at s 6 + 6 * number_at s 8

module _ (start : ℕ) (s : List ℕ) where
  pub laid_down : cause5 start s ≡ false → LaidDown start s
  unfolding cause5
  laid_down h =
      let N : ℕ = leaves (family_of s) in
      let K : ℕ = region_count (family_of s) in
      let a : Bool = not (eqb (number_at s 10) start) in
      let b : Bool = not (eqb (number_at s 12) (start + 2 * N)) in
      let c : Bool = not (eqb (number_at s 14) (start + 2 * N + 6 * K)) in
      let d : Bool = not (eqb (length s) (number_at s 14)) in
      let abc : (a || b || c) ≡ false = or_fails_l (a || b || c) d h in
      let ab : (a || b) ≡ false = or_fails_l (a || b) c abc in
      let n = leaves_read s in
      let k = regions_read s in
      let o = eq_if_same (number_at s 10) start (or_fails_l a b ab) in
      let r = eq_if_same (number_at s 12) (start + 2 * N) (or_fails_r a b ab) in
      let t = eq_if_same (number_at s 14) (start + 2 * N + 6 * K) (or_fails_r (a || b) c abc) in
      let w = eq_if_same (length s) (number_at s 14) (or_fails_r (a || b || c) d h) in
      record { lengths = o; regions = omega arith; total = omega arith; whole = omega arith }

  pub from_laid_down : LaidDown start s → cause5 start s ≡ false
  unfolding cause5
  from_laid_down l =
      let N : ℕ = leaves (family_of s) in
      let K : ℕ = region_count (family_of s) in
      let n = leaves_read s in
      let k = regions_read s in
      or_neither _ _
      (or_neither _ _
      (or_neither _ _ (same_if_eq (number_at s 10) start l.lengths) (same_if_eq (number_at s 12) (start + 2 * N) (omega arith)))
      (same_if_eq (number_at s 14) (start + 2 * N + 6 * K) (omega arith)))
      (same_if_eq (length s) (number_at s 14) (omega arith))

  -- the last test, where the others have failed
  pub length_laid_down :
      number_at s 10 ≡ start → number_at s 12 ≡ start + 2 * number_at s 6 → number_at s 14 ≡ start + 2 * number_at s 6 + 6 * number_at s 8
      → cause5 start s ≡ not (eqb (length s) (start + 2 * number_at s 6 + 6 * number_at s 8))
  unfolding cause5
  length_laid_down o r t =
      rw (leaves_read s, regions_read s, same_if_eq (number_at s 10) start o, same_if_eq (number_at s 12) _ r, same_if_eq (number_at s 14) _ t, t)

-- Causes 6 to 10.

module _ (F : Family) where
  pub lengths_clear : cause6 F ≡ false → sum F.lengths ≡ F.peptides
  unfolding cause6
  lengths_clear h = eq_if_same (sum F.lengths) F.peptides h

  pub from_lengths_clear : sum F.lengths ≡ F.peptides → cause6 F ≡ false
  unfolding cause6
  from_lengths_clear e = same_if_eq (sum F.lengths) F.peptides e

-- a region on the leaves 1 to n
pub record OnLeaves (n : ℕ) (r : Region) : Type 0 where
  pub first_some : 1 ≤ r.first
  pub first_last : r.first ≤ r.last
  pub last_leaf : r.last ≤ n

pub on_leaves : (n : ℕ) (r : Region) → misplaced n r ≡ false → OnLeaves n r
unfolding misplaced
on_leaves n r h =
    let a : Bool = eqb r.first 0 in
    let b : Bool = ltb r.last r.first in
    let c : Bool = ltb n r.last in
    let ab : (a || b) ≡ false = or_fails_l (a || b) c h in
    record {
      first_some = some_if r.first (or_fails_l a b ab);
      first_last = ltb-false r.last r.first (or_fails_r a b ab);
      last_leaf = ltb-false n r.last (or_fails_r (a || b) c h);
    }

pub from_on_leaves : (n : ℕ) (r : Region) → OnLeaves n r → misplaced n r ≡ false
unfolding misplaced
from_on_leaves n r o =
    or_neither (eqb r.first 0 || ltb r.last r.first) (ltb n r.last)
    (or_neither (eqb r.first 0) (ltb r.last r.first) (zero_unless r.first o.first_some) (le-ltb r.last r.first o.first_last))
    (le-ltb n r.last o.last_leaf)

-- the last test, where the others have failed
pub misplaced_last : (n : ℕ) (r : Region) → (r.first ≡ 0 → ⊥) → r.first ≤ r.last → misplaced n r ≡ ltb n r.last
unfolding misplaced
misplaced_last n r a b = rw (ne_eqb r.first 0 a, le-ltb r.last r.first b)

-- by first leaf rising; at equal first leaf, by last leaf falling
abbrev pub Before : Region → Region → Type 0
Before r q = (r.first < q.first) ⊎ ((r.first ≡ q.first) × (q.last < r.last))

pub is_before_lem : (r q : Region) → before r q ≡ true → Before r q
unfolding before
is_before_lem r q h =
    let e : Bool = eqb r.first q.first in
    let l : Bool = ltb q.last r.last in
    ⊎_elim
    (λ a. inl (ltb-true r.first q.first a))
    (λ b. inr (eqb-true r.first q.first (and_l e l b), ltb-true q.last r.last (and_r e l b)))
    (or_either (ltb r.first q.first) (e && l) h)

pub from_before : (r q : Region) → Before r q → before r q ≡ true
unfolding before
from_before r q h =
    let e : Bool = eqb r.first q.first in
    let l : Bool = ltb q.last r.last in
    ⊎_elim
    (λ a. or_l (ltb r.first q.first) (e && l) (lt-ltb r.first q.first a))
    (λ b. or_r (ltb r.first q.first) (e && l) (and_both e l (eq-eqb r.first q.first b.0) (lt-ltb q.last r.last b.1)))
    h

module _ (F : Family) where
  pub regions_placed : cause7 F ≡ false → (k : ℕ) → k < region_count F → OnLeaves (leaves F) (region F k)
  unfolding cause7
  regions_placed h k l = on_leaves (leaves F) (region F k) (none_at (λ k. misplaced (leaves F) (region F k)) (region_count F) k h l)

  pub from_regions_placed : ((k : ℕ) → k < region_count F → OnLeaves (leaves F) (region F k)) → cause7 F ≡ false
  unfolding cause7
  from_regions_placed h = none_below (λ k. misplaced (leaves F) (region F k)) (region_count F) (λ k l. from_on_leaves (leaves F) (region F k) (h k l))

  pub regions_rise : cause8 F ≡ false → (k : ℕ) → k + 1 < region_count F → Before (region F k) (region F (k + 1))
  unfolding cause8
  regions_rise h k l =
      is_before_lem (region F k) (region F (k + 1))
      (not-false (before (region F k) (region F (k + 1)))
      (none_at (λ k. not (before (region F k) (region F (k + 1)))) (region_count F - 1) k h (omega arith)))

  pub from_regions_rise : ((k : ℕ) → k + 1 < region_count F → Before (region F k) (region F (k + 1))) → cause8 F ≡ false
  unfolding cause8
  from_regions_rise h =
      none_below (λ k. not (before (region F k) (region F (k + 1)))) (region_count F - 1)
      (λ k l. not_fails (before (region F k) (region F (k + 1))) (from_before (region F k) (region F (k + 1)) (h k (omega arith))))

-- The first cause of the header that holds.

module _ (s : List ℕ) where
  pub header_1 : cause1 mark s ≡ true → first_cause (header_causes s) ≡ 1
  unfolding first_cause header_causes
  header_1 h = rw h

  pub header_rest : cause1 mark s ≡ false → first_cause (header_causes s) ≡ first_cause (layout_causes lengths_offset s)
  unfolding first_cause header_causes
  header_rest h = rw h

module _ (start : ℕ) (s : List ℕ) where
  pub layout_2 : cause2 (family_of s).peptides ≡ true → first_cause (layout_causes start s) ≡ 2
  unfolding first_cause
  layout_2 h = rw h

  pub layout_3 : cause2 (family_of s).peptides ≡ false → cause3 (family_of s) ≡ true → first_cause (layout_causes start s) ≡ 3
  unfolding first_cause
  layout_3 h2 h = rw (h2, h)

  -- causes 2 and 3 do not hold
  pub layout_5 :
      cause2 (family_of s).peptides ≡ false → cause3 (family_of s) ≡ false
      → first_cause (layout_causes start s) ≡ cond (cause4 (family_of s)) 4 (cond (cause5 start s) 5 0)
  unfolding first_cause
  layout_5 h2 h3 = rw (h2, h3)

-- The first of the causes 6 and 7.

module _ (F : Family) where
  pub listing_6 : cause6 F ≡ true → first_cause (listing_causes F) ≡ 6
  unfolding first_cause
  listing_6 h = rw h

  pub listing_7 : cause6 F ≡ false → first_cause (listing_causes F) ≡ cond (cause7 F) 7 0
  unfolding first_cause
  listing_7 h = rw h
