-- A family with the ranges of a well-formed one, and any z that fit, is well formed.
use Prim.Native.Nat.{ℕ, ◌<◌}
use native.Mathlib.Omega.{arith}
use mathlib.Core.Logic.{inl, inr, ⊎_elim}
use mathlib.Core.Path.{◌≡◌, sym, ap, ◌∙◌}
use lib.ListN.{length}
use Rattle.reader.specs.Lists.{sum, count_below}
use Rattle.reader.specs.Family.{Family, leaves, region_count, region}
use Rattle.reader.specs.Nesting.{region_within, region_inside, regions_around}
use Rattle.reader.specs.WellFormed.{Ordered, NestedBelow, WellFormed, SameRanges}
use Rattle.reader.proofs.Below.{count_below_same}

module _ {F G : Family} (same : SameRanges F G) where
  -- a region of the second family is one of the first
  known : (k : ℕ) → k < region_count G → k < region_count F
  known k l = omega (arith, same.regions)

  leaves_same : leaves G ≡ leaves F
  leaves_same = ap length same.lengths

  inside_same : (k i : ℕ) → k < region_count F → i < region_count F → region_inside (region G k) (region G i) ≡ region_inside (region F k) (region F i)
  unfolding region_inside region_within
  inside_same k i l u = rw (same.first k l, same.last k l, same.first i u, same.last i u)

  around_same : (k : ℕ) → k < region_count F → regions_around G k ≡ regions_around F k
  around_same k l =
      ap (λ (n : ℕ). count_below n (λ i. region_inside (region G k) (region G i))) same.regions
      ∙ count_below_same (λ i. region_inside (region G k) (region G i)) (λ i. region_inside (region F k) (region F i)) (region_count F) (λ i u. inside_same k i l u)

  ordered_same : Ordered F → Ordered G
  ordered_same o =
      record {
        first_some = λ k l. omega (arith, same.first k (known k l), o.first_some k (known k l));
        first_last = λ k l. omega (arith, same.first k (known k l), same.last k (known k l), o.first_last k (known k l));
        last_leaf = λ k l. omega (arith, same.last k (known k l), o.last_leaf k (known k l), leaves_same);
        rising = λ i j l u. omega (arith, same.first i (known i (omega arith)), same.first j (known j u), o.rising i j l (known j u));
        falling =
            λ i j l u e.
            omega
            (arith, same.last i (known i (omega arith)), same.last j (known j u), o.falling i j l (known j u) (sym (same.first i (known i (omega arith))) ∙ e ∙ same.first j (known j u)));
      }

  nested_same : NestedBelow F (region_count F) → NestedBelow G (region_count G)
  nested_same n i j l u =
      ⊎_elim
      (λ a. inl (omega (arith, same.last i (known i (omega arith)), same.first j (known j u))))
      (λ b. inr (omega (arith, same.last i (known i (omega arith)), same.last j (known j u))))
      (n i j l (known j u))

  pub other_bounds_formed : WellFormed F → ((k : ℕ) → k < region_count G → (region G k).z < 65536) → WellFormed G
  other_bounds_formed w fits =
      record {
        peptides_some = omega (arith, same.peptides, w.peptides_some);
        peptides_most = omega (arith, same.peptides, w.peptides_most);
        leaves_some = omega (arith, leaves_same, w.leaves_some);
        leaves_most = omega (arith, leaves_same, w.leaves_most);
        regions_most = omega (arith, leaves_same, same.regions, w.regions_most);
        lengths_sum = ap sum same.lengths ∙ w.lengths_sum ∙ sym same.peptides;
        ordered = ordered_same w.ordered;
        nested = nested_same w.nested;
        shallow = λ k l. omega (arith, around_same k (known k l), w.shallow k (known k l));
        z_fits = fits;
      }
