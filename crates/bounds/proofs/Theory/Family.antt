-- The ranges of a family are laminar.
use Prim.Native.Nat.{ℕ, ◌+◌, ◌-◌, ◌≤◌, ◌<◌}
use mathlib.Core.List.{List, [], ◌∷◌, map}
use mathlib.Core.Logic.{⊎_elim}
use mathlib.Core.Path.{◌≡◌, refl, ap, ◌∙◌}
use native.Mathlib.Nat.{eq-or-lt_of_le}
use native.Mathlib.Omega.{arith}
use lib.ListN.{length, get_or, length-map, get_or-map}
use lib.Seq.{take-length}
use Rattle.reader.specs.Lists.{tabulate, sum}
use Rattle.reader.specs.Bytes.{IsBytes}
use Rattle.reader.specs.Causes.{Accepted}
use Rattle.reader.specs.WellFormed.{WellFormed}
use Rattle.reader.proofs.Lists.{sum_take, tabulate_same}
use Rattle.reader.proofs.Walk.{up_to_mono}
use Rattle.reader.proofs.Accepting.{well_formed_lem}
use Rattle.reader.specs.Family.{Region, Family, leaves, region_count, no_region, region, peptides_up_to, family_of}
use Rattle.bounds.specs.Ranges.{Range, range_of, ranges_of, In, range_at}
use Rattle.bounds.proofs.Basics.Members.{in_at, place}
use Rattle.bounds.proofs.Theory.Laminar.{Fit, is_around, is_before, Proper, Laminar, laminar_at}

pub up_to_most : (F : Family) (i : ℕ) → i ≤ leaves F → peptides_up_to F i ≤ sum F.lengths
unfolding peptides_up_to
up_to_most F i h = rw take-length at (sum_take i (leaves F) F.lengths h)

-- How the ranges of two regions lie, by their leaf numbers.

after_fit : (F : Family) (r q : Region) → r.last < q.first → Fit (range_of F r) (range_of F q)
unfolding range_of
after_fit F r q h = is_before h (up_to_mono F r.last (q.first - 1) (omega arith))

inside_fit : (F : Family) (r q : Region) → r.first ≤ q.first → q.last ≤ r.last → r.first + q.last < q.first + r.last
    → Fit (range_of F r) (range_of F q)
unfolding range_of
inside_fit F r q first last less =
    let low = up_to_mono F (r.first - 1) (q.first - 1) (omega arith) in
    is_around (record { left = first; right = last; less = less }) low (up_to_mono F q.last r.last last)

-- The range of the k-th region.

abbrev pub no_range : Family → Range
no_range F = range_of F no_region

pub ranges_length : (F : Family) → length (ranges_of F) ≡ region_count F
unfolding ranges_of
ranges_length F = length-map F.regions (range_of F)

pub range_at_lem : (F : Family) (k : ℕ) → get_or (ranges_of F) k (no_range F) ≡ range_of F (region F k)
unfolding ranges_of region
range_at_lem F k = get_or-map (range_of F) F.regions k no_region

pub map_tabulate : {A B : Type 0} (d : A) (f : A → B) (L : List A) → map f L ≡ tabulate (length L) (λ k. f (get_or L k d))
unfolding tabulate
map_tabulate d f [] = refl
map_tabulate d f (x ∷ L) = ap (λ M. f x ∷ M) (map_tabulate d f L)

-- a list over the ranges of a family, by its regions
pub over_regions : (F : Family) (f : Range → ℕ) → map f (ranges_of F) ≡ tabulate (region_count F) (λ k. f (range_at F k))
over_regions F f =
    map_tabulate (no_range F) f (ranges_of F)
    ∙ ap (λ (n : ℕ). tabulate n (λ k. f (get_or (ranges_of F) k (no_range F)))) (ranges_length F)
    ∙ tabulate_same (region_count F) (λ k. f (get_or (ranges_of F) k (no_range F))) (λ k. f (range_of F (region F k))) (λ k l. ap f (range_at_lem F k))

pub range_in : (F : Family) (k : ℕ) → k < region_count F → In (range_of F (region F k)) (ranges_of F)
range_in F k h = rw (range_at_lem F k) at (in_at (no_range F) (ranges_of F) k (omega (arith, ranges_length F)))

pub range_z : (F : Family) (k : ℕ) → (range_at F k).z ≡ (region F k).z
unfolding range_of
range_z F k = refl

-- a range of the family is that of a region
pub record OfRegion (F : Family) (r : Range) : Type 0 where
  pub at : ℕ
  pub few : at < region_count F
  pub is : r ≡ range_at F at

pub of_region : (F : Family) (r : Range) → In r (ranges_of F) → OfRegion F r
of_region F r i =
    let p = place (no_range F) (ranges_of F) r i in
    record { at = p.at; few = omega (arith, p.in_range, ranges_length F); is = p.there ∙ range_at_lem F p.at }

module _ {F : Family} (w : WellFormed F) where
  pub leaf_most : (j : ℕ) → j ≤ leaves F → peptides_up_to F j ≤ F.peptides
  leaf_most j h = omega (arith, up_to_most F j h, w.lengths_sum)

  region_fit : (i j : ℕ) → i < j → j < region_count F → Fit (range_of F (region F i)) (range_of F (region F j))
  region_fit i j less h = ⊎_elim (after_fit F (region F i) (region F j)) nest (w.nested i j less h)
    where
      nest : (region F j).last ≤ (region F i).last → Fit (range_of F (region F i)) (range_of F (region F j))
      nest last =
          let first = w.ordered.rising i j less h in
          let shorter : (region F i).first + (region F j).last < (region F j).first + (region F i).last =
          ⊎_elim (λ same. omega (arith, w.ordered.falling i j less h same)) (λ more. omega arith) (eq-or-lt_of_le first) in
          inside_fit F (region F i) (region F j) first last shorter

  region_proper : (k : ℕ) → k < region_count F → Proper F.peptides (range_of F (region F k))
  unfolding range_of
  region_proper k h = record { order = w.ordered.first_last k h; ends = rw w.lengths_sum at (up_to_most F (region F k).last (w.ordered.last_leaf k h)) }

  -- The ranges of a well-formed family are laminar.
  pub family_laminar : Laminar F.peptides (ranges_of F)
  family_laminar = laminar_at (no_range F) (ranges_of F) proper two
    where
      proper : (k : ℕ) → k < length (ranges_of F) → Proper F.peptides (get_or (ranges_of F) k (no_range F))
      proper k h = rw (range_at_lem F k) (region_proper k (omega (arith, ranges_length F)))

      two : (i j : ℕ) → i < j → j < length (ranges_of F) → Fit (get_or (ranges_of F) i (no_range F)) (get_or (ranges_of F) j (no_range F))
      two i j less h = rw (range_at_lem F i, range_at_lem F j) (region_fit i j less (omega (arith, ranges_length F)))

pub accepted_laminar : (s : List ℕ) → IsBytes s → Accepted s → Laminar (family_of s).peptides (ranges_of (family_of s))
accepted_laminar s bytes a = family_laminar (well_formed_lem s bytes a)
