-- The regions of a level, one by one: their levels and first leaves, as the level counts put them.
--   leaf_before                the first leaf of the region before the i-th of a level; 0 for the first
--   leaf_next                 it is the first leaf of the last region that was looked at
--   other_level               a region of another level is not in its place
--   place_wrong               one whose first leaf does not come after that leaf is not
--   place_right               one of its level whose first leaf does is
--   counts_none, counts_more  the sum of the level counts so far
--   counts_all                and of all of them
--   level_fits                the regions of a level are among those listed, where the counts add to K
use Prim.Native.Nat.{ℕ, zero, suc, ◌+◌, ◌*◌, ◌-◌, ◌<◌, ◌≤◌}
use native.Mathlib.Omega.{arith}
use native.Mathlib.Numerals.{add-one}
use mathlib.Core.Bool.{true, false, not}
use mathlib.Core.List.{List}
use mathlib.Core.Path.{◌≡◌, refl, sym, ap, ◌∙◌}
use lib.Dec.{eqb}
use lib.ListN.{take}
use lib.Seq.{take_all}
use borrow.Author.Tests.{ne_eqb, eq-eqb, lt-ltb, le-ltb}
use Rattle.reader.specs.Lists.{sum}
use Rattle.reader.specs.Bytes.{number_at}
use Rattle.reader.specs.Family.{Family, region}
use Rattle.reader.proofs.Bools.{or_r}
use Rattle.reader.proofs.Lists.{sum_take, sum_take_suc}
use Rattle.levels.specs.Levels.{level_of, counts_in}
use Rattle.levels.specs.Causes.{in_level, misleveled}
use Rattle.levels.proofs.Files.Listed.{counts_length, count_at}

abbrev pub leaf_before : Family → ℕ → ℕ → ℕ
leaf_before F start zero = 0
leaf_before F start (suc i) = (region F (start + i)).first

pub leaf_next : (F : Family) (start i : ℕ) → (region F (start + i)).first ≡ leaf_before F start (i + 1)
leaf_next F start i = rw (add-one i)

module _ (C : List ℕ) (F : Family) (h start : ℕ) (begins : start ≡ sum (take h C)) where
  pub other_level : (i : ℕ) → (level_of F (region F (start + i)) ≡ suc h → ⊥) → misleveled C F h i ≡ true
  unfolding misleveled in_level
  other_level i n =
      let e : sum (take h C) ≡ start = sym begins in
      rw (e, ne_eqb (level_of F (region F (start + i))) (suc h) n)

  pub place_wrong : (i : ℕ) → 1 ≤ (region F (start + i)).first → (region F (start + i)).first ≤ leaf_before F start i → misleveled C F h i ≡ true
  unfolding misleveled in_level
  place_wrong zero some l = absurd (omega arith)
  place_wrong (suc i) some l =
      let e : sum (take h C) ≡ start = sym begins in
      let back : suc i - 1 ≡ i = omega arith in
      rw (e, back, le-ltb (region F (start + i)).first (region F (start + suc i)).first l, lt-ltb 0 (suc i) (omega arith))
      (or_r (not (eqb (level_of F (region F (start + suc i))) (suc h))) true refl)

  pub place_right : (i : ℕ) → level_of F (region F (start + i)) ≡ suc h → leaf_before F start i < (region F (start + i)).first → misleveled C F h i ≡ false
  unfolding misleveled in_level
  place_right zero level l =
      let e : sum (take h C) ≡ start = sym begins in
      rw (e, level, eq-eqb (suc h) (suc h) refl)
  place_right (suc i) level l =
      let e : sum (take h C) ≡ start = sym begins in
      let back : suc i - 1 ≡ i = omega arith in
      rw (e, back, level, eq-eqb (suc h) (suc h) refl, lt-ltb (region F (start + i)).first (region F (start + suc i)).first l, lt-ltb 0 (suc i) (omega arith))

module _ (s : List ℕ) where
  pub counts_none : 0 ≡ sum (take 0 (counts_in s))
  unfolding sum
  counts_none = refl

  pub counts_more : (h : ℕ) → h < 64 → sum (take (h + 1) (counts_in s)) ≡ sum (take h (counts_in s)) + number_at s (16 + 2 * h)
  counts_more h l = rw (add-one h) (sum_take_suc (counts_in s) h ∙ ap (λ (n : ℕ). sum (take h (counts_in s)) + n) (count_at s h l))

  pub counts_all : (h : ℕ) → 64 ≤ h → sum (take h (counts_in s)) ≡ sum (counts_in s)
  counts_all h l = ap sum (take_all h (counts_in s) (omega (arith, counts_length s)))

  pub level_fits : (h : ℕ) → h < 64 → sum (take h (counts_in s)) + number_at s (16 + 2 * h) ≤ sum (counts_in s)
  level_fits h l = omega (arith, counts_more h l, counts_all 64 (omega arith), sum_take (h + 1) 64 (counts_in s) (omega arith))
