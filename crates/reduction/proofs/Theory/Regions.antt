-- The regions of a family and the list of their ranges: from places to members, order, nesting and depth.
use Prim.Native.Nat.{ℕ, zero, suc, ◌+◌, ◌≤◌, ◌<◌}
use mathlib.Core.Bool.{Bool}
use mathlib.Core.List.{List, [], ◌∷◌, map}
use mathlib.Core.Logic.{◌⊎◌, inl, inr}
use mathlib.Core.Path.{◌≡◌, refl, sym, ◌∙◌}
use native.Mathlib.Omega.{arith}
use lib.ListN.{length, get_or}
use Rattle.reader.specs.Lists.{count_below}
use Rattle.reader.specs.Family.{Family, leaves, region_count, no_region, region}
use Rattle.reader.specs.Nesting.{regions_around}
use Rattle.reader.specs.Nesting
use Rattle.reader.specs.WellFormed.{Ordered, NestedBelow}
use Rattle.bounds.specs.Ranges.{Range, range_of, ranges_of, within, inside, sum_over, In}
use Rattle.bounds.proofs.Basics.Members.{place, in_at, bit}
use Rattle.bounds.proofs.Theory.Family.{ranges_length, range_at_lem, range_in}
use Rattle.reduction.proofs.Basics.Grid.{Precedes, before_le, before_same, FileOrder}
use Rattle.reduction.proofs.Basics.Plain.{Nest, apart, apart', within as inner, around}
use Rattle.reduction.proofs.Theory.Forest.{KeyOnLeaves, Planted}
use Rattle.reduction.proofs.Basics.Pigeonhole.{how_many}

-- a range of the list is that of a region
pub region_place : (F : Family) (r : Range) → In r (ranges_of F) → (k : ℕ) × (k < region_count F) × (r ≡ range_of F (region F k))
region_place F r i =
    let p = place (range_of F no_region) (ranges_of F) r i in
    (p.at, omega (arith, p.in_range, ranges_length F), p.there ∙ range_at_lem F p.at)

-- Order and nesting.

pub order_at : (d : Range) (L : List Range) → FileOrder L → (i j : ℕ) → i < j → j < length L → Precedes (get_or L i d) (get_or L j d)
order_at d [] o i j h k = absurd (omega arith)
order_at d (x ∷ L) o i zero h k = absurd (omega arith)
order_at d (x ∷ L) o zero (suc j) h k = o.0 (get_or L j d) (in_at d L j (omega arith))
order_at d (x ∷ L) o (suc i) (suc j) h k = order_at d L o.1 i j (omega arith) (omega arith)

-- a later range is after an earlier one, or inside it
later : (r t : Range) → r.from ≤ r.to → t.from ≤ t.to → Nest r t → Precedes r t → (r.to < t.from) ⊎ (t.to ≤ r.to)
later r t u v (apart h) b = inl h
later r t u v (apart' h) b = absurd (omega (arith, before_le r t b))
later r t u v (around h k) b = inr k
later r t u v (inner h k) (inl b) = absurd (omega arith)
later r t u v (inner h k) (inr b) = absurd (omega arith)

module _ (F : Family) (p : Planted (leaves F) (ranges_of F)) where
  regions_before : (i j : ℕ) → i < j → j < region_count F → Precedes (range_of F (region F i)) (range_of F (region F j))
  regions_before i j h k =
      rw (range_at_lem F i, range_at_lem F j) at (order_at (range_of F no_region) (ranges_of F) p.ordered i j h (omega (arith, ranges_length F)))

  regions_on : (k : ℕ) → k < region_count F → KeyOnLeaves (leaves F) (range_of F (region F k))
  regions_on k h = p.on (range_of F (region F k)) (range_in F k h)

  pub regions_ordered : Ordered F
  unfolding range_of
  regions_ordered =
      record {
        first_some = λ k h. (regions_on k h).starts;
        first_last = λ k h. (regions_on k h).order;
        last_leaf = λ k h. (regions_on k h).ends;
        rising = λ i j h k. before_le (range_of F (region F i)) (range_of F (region F j)) (regions_before i j h k);
        falling = λ i j h k e. before_same (range_of F (region F i)) (range_of F (region F j)) (regions_before i j h k) e;
      }

  pub regions_nested : NestedBelow F (region_count F)
  unfolding range_of
  regions_nested i j h k =
      let r = range_of F (region F i) in
      let t = range_of F (region F j) in
      let nest = p.nest r t (range_in F i (omega arith)) (range_in F j k) in
      later r t (regions_on i (omega arith)).order (regions_on j k).order nest (regions_before i j h k)

-- Depth.

count_shift : (n : ℕ) (p : ℕ → Bool) → count_below (suc n) p ≡ bit (p 0) + count_below n (λ i. p (suc i))
unfolding count_below
count_shift zero p = omega arith
count_shift (suc n) p = omega (arith, count_shift n p)

count_list : {A : Type 0} (t : A → Bool) (d : A) (L : List A) → count_below (length L) (λ i. t (get_or L i d)) ≡ how_many t L
unfolding count_below sum_over
count_list t d [] = refl
count_list t d (x ∷ L) = omega (arith, count_shift (length L) (λ i. t (get_or (x ∷ L) i d)), count_list t d L)

pub sum_map : {A B : Type 0} (f : B → ℕ) (g : A → B) (L : List A) → sum_over f (map g L) ≡ sum_over (λ x. f (g x)) L
unfolding sum_over
sum_map f g [] = refl
sum_map f g (x ∷ L) = omega (arith, sum_map f g L)

-- the regions around a region, counted in the list of ranges
pub regions_around_count : (F : Family) (k : ℕ) → regions_around F k ≡ how_many (inside (range_of F (region F k))) (ranges_of F)
unfolding region ranges_of range_of inside within Nesting.region_inside Nesting.region_within
regions_around_count F k =
    count_list (Nesting.region_inside (region F k)) no_region F.regions
    ∙ sym (sum_map (λ r. bit (inside (range_of F (region F k)) r)) (range_of F) F.regions)
