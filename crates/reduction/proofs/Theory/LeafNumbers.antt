-- The leaf numbers of a written list: in the order of its ranges, nested or disjoint as they are, and on the leaves.
use Prim.Native.Nat.{ℕ, ◌+◌, ◌≤◌, ◌<◌}
use mathlib.Core.List.{List, [], ◌∷◌, map}
use mathlib.Core.Logic.{inl, inr}
use mathlib.Core.Path.{refl}
use native.Mathlib.Omega.{arith}
use Rattle.bounds.specs.Ranges.{Range, card, range_of, In}
use Rattle.bounds.proofs.Basics.Nesting.{Inside}
use Rattle.reduction.specs.Reduction.{ends_leaf, region_of}
use Rattle.reduction.proofs.Basics.Unless.{le_unless, lt_unless}
use Rattle.reduction.proofs.Basics.Counts.{card_up, card_rise}
use Rattle.reduction.proofs.Basics.Grid.{Precedes, FileOrder}
use Rattle.reduction.proofs.Basics.Plain.{Plain, Nest, apart, apart', within, around, Tidy}
use Rattle.reduction.proofs.Theory.ReadBack.{in_map, again, ends_low, ends_high}
use Rattle.reduction.proofs.Theory.Forest.{KeyOnLeaves, Planted}

-- More leaves end up to a later peptide.

module _ (m : ℕ) (Q : List Range) where
  from_up : (q t : Range) → q.low ≤ t.low → (again m Q q).from ≤ (again m Q t).from
  unfolding again range_of region_of
  from_up q t h = omega (arith, card_up (ends_leaf m Q) q.low t.low h)

  to_up : (q t : Range) → q.high ≤ t.high → (again m Q q).to ≤ (again m Q t).to
  unfolding again range_of region_of
  to_up q t h = card_up (ends_leaf m Q) q.high t.high h

  to_from : (q t : Range) → q.high ≤ t.low → (again m Q q).to < (again m Q t).from
  unfolding again range_of region_of
  to_from q t h = omega (arith, card_up (ends_leaf m Q) q.high t.low h)

  -- strictly more, since a leaf ends just before a range and at its end
  from_rise : (q t : Range) → In t Q → q.low < t.low → (again m Q q).from < (again m Q t).from
  unfolding again range_of region_of
  from_rise q t j h = omega (arith, card_rise (ends_leaf m Q) q.low t.low h (ends_low m Q t j))

  to_rise : (q t : Range) → In t Q → q.high < t.high → (again m Q q).to < (again m Q t).to
  unfolding again range_of region_of
  to_rise q t j h = card_rise (ends_leaf m Q) q.high t.high h (ends_high m Q t j)

module _ {m : ℕ} {Q : List Range} (w : Tidy m Q) where
  again_on : (q : Range) → In q Q → KeyOnLeaves (card m (ends_leaf m Q)) (again m Q q)
  unfolding again range_of region_of
  again_on q i =
      let v = w.plain q i in
      record {
        starts = omega arith;
        order = omega (arith, card_rise (ends_leaf m Q) q.low q.high (omega arith) (ends_high m Q q i));
        ends = card_up (ends_leaf m Q) q.high m (omega arith);
      }

  again_before : (q t : Range) → In q Q → In t Q → Precedes q t → Precedes (again m Q q) (again m Q t)
  again_before q t i j b = go b
    where
      go : Precedes q t → Precedes (again m Q q) (again m Q t)
      go (inl h) = let u = w.plain q i in let v = w.plain t j in inl (from_rise m Q q t j (omega arith))
      go (inr h) =
          let u = w.plain q i in
          let v = w.plain t j in
          inr (omega (arith, from_up m Q q t (omega arith), from_up m Q t q (omega arith)), to_rise m Q t q i (omega arith))

  again_nest : (q t : Range) → In q Q → In t Q → Nest q t → Nest (again m Q q) (again m Q t)
  again_nest q t i j n = go (w.plain q i) (w.plain t j) n
    where
      go : Plain m q → Plain m t → Nest q t → Nest (again m Q q) (again m Q t)
      go u v (apart h) = apart (to_from m Q q t (omega arith))
      go u v (apart' h) = apart' (to_from m Q t q (omega arith))
      go u v (within h k) = within (from_up m Q t q (omega arith)) (to_up m Q q t (omega arith))
      go u v (around h k) = around (from_up m Q q t (omega arith)) (to_up m Q t q (omega arith))

  -- what is inside by leaf numbers is inside by peptides
  pub again_inside : (q t : Range) → In q Q → In t Q → Inside (again m Q q) (again m Q t) → Inside q t
  again_inside q t i j n =
      let u = w.plain q i in
      let v = w.plain t j in
      record { left = omega (arith, left); right = omega (arith, right); less = omega (arith, left, right, less) }
    where
      left : t.low ≤ q.low
      left = le_unless t.low q.low (λ h. omega (arith, n.left, from_rise m Q q t j h))

      right : q.high ≤ t.high
      right = le_unless q.high t.high (λ h. omega (arith, n.right, to_rise m Q t q i h))

      -- with the same peptides the leaf numbers would be the same
      less : t.low + q.high < q.low + t.high
      less =
          lt_unless (t.low + q.high) (q.low + t.high)
          (λ h. omega (arith, n.less, from_up m Q q t (omega (arith, right)), to_up m Q t q (omega (arith, left))))

  -- The leaf numbers of the whole list.

  map_order : (g : Range → Range) (L : List Range) → FileOrder L → ((x y : Range) → In x L → In y L → Precedes x y → Precedes (g x) (g y))
      → FileOrder (map g L)
  map_order g [] o h = tt
  map_order g (x ∷ L) o h = (first, map_order g L o.1 (λ u v i j. h u v (inr i) (inr j)))
    where
      first : (y : Range) → In y (map g L) → Precedes (g x) y
      first y i = let (z, j, e) = in_map g L y i in rw e (h x z (inl refl) (inr j) (o.0 z j))

  pub again_planted : Planted (card m (ends_leaf m Q)) (map (again m Q) Q)
  again_planted =
      record {
        ordered = map_order (again m Q) Q w.ordered again_before;
        on = λ x i. let (q, j, e) = in_map (again m Q) Q x i in rw e (again_on q j);
        nest = λ x y i j.
            let (q, k, e) = in_map (again m Q) Q x i in
            let (t, l, f) = in_map (again m Q) Q y j in
            rw (e, f) (again_nest q t k l (w.nest q t k l));
      }
