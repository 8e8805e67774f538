-- A climb along the parents of a peptide's innermost region, and the z of all regions after the peptides of a list.
use Prim.Native.Nat.{ℕ, suc, ◌+◌, ◌-◌, ◌<◌, ◌≤◌}
use mathlib.Core.Bool.{Bool, true, false}
use mathlib.Core.List.{List, [], ◌∷◌}
use mathlib.Core.Logic.{⊎_elim}
use mathlib.Core.Path.{◌≡◌, sym, ◌∙◌}
use native.Mathlib.Numerals.{add-one}
use native.Mathlib.Omega.{arith}
use lib.ListN.{length, get_or, drop, drop_of_length-le}
use lib.Seq.{drop-cons}
use Rattle.reader.specs.Family.{Family, region_count, leaf_of}
use Rattle.reader.specs.WellFormed.{WellFormed, Nested}
use Rattle.bounds.specs.Holding.{holds_leaf}
use Rattle.bounds.proofs.Basics.Members.{test, in_at}
use Rattle.bounds.proofs.Theory.CutTheorem.{largest_most}
use Rattle.bounds.proofs.Walking.Holding.{ChangedFrom, one_less}
use Rattle.bounds.proofs.Walking.Steps.{has_leaf}
use Rattle.pvalues.specs.FromP.{gap, passes}
use Rattle.pvalues.specs.Private.Ordering.{p_value, InOrder}
use Rattle.pvalues.specs.Private.Lowering.{lower_at, lower_along, has_at, z_at, PValues}
use Rattle.pvalues.specs.Private.Climbing.{left_of_each, z_of_each, LoweredLists, LastOfFirst, Filled, Climbable, BoundsFound}
use Rattle.pvalues.specs.declared.lowering.Lowering.{Lowering}
use Rattle.pvalues.proofs.Theory.LoweredIsZ.{region_z, size_most}

-- the z of a region with a p-value less left, from what was left and from its z before
abbrev pub lowered_at : ℕ → ℕ → List ℕ → List ℕ → ℕ → ℕ
lowered_at deviationSquared p L Z k = lower_at deviationSquared p (get_or L k 0) (get_or Z k 0)

pub lowered_ends : (F : Family) (leaf p deviationSquared : ℕ) (L Z L' Z' : List ℕ) (c : ℕ) → c ≡ 0
    → ChangedFrom F (one_less L) L leaf L' c → ChangedFrom F (lowered_at deviationSquared p L Z) Z leaf Z' c → LoweredLists F leaf p deviationSquared L Z L' Z'
lowered_ends F leaf p deviationSquared L Z L' Z' c e left z =
    record { left = λ k l. left.changed k (omega arith) l; z = λ k l. z.changed k (omega arith) l }

-- The next peptide of a list is one of the region's, or is not; and at the end of the list nothing is left to do.
module _ (deviationSquared : ℕ) (ps : List ℕ) (X : ℕ → Bool) (z left : ℕ) where
  next_taken : (i : ℕ) (order rest : List ℕ) → order ≡ i ∷ rest → X i ≡ true
      → lower_along deviationSquared ps X z left order ≡ lower_along deviationSquared ps X (lower_at deviationSquared (p_value ps i) left z) (left - 1) rest
  unfolding lower_along
  next_taken i order rest e t = rw (e, t)

  next_passed : (i : ℕ) (order rest : List ℕ) → order ≡ i ∷ rest → X i ≡ false
      → lower_along deviationSquared ps X z left order ≡ lower_along deviationSquared ps X z left rest
  unfolding lower_along
  next_passed i order rest e t = rw (e, t)

  none_next : (order : List ℕ) → order ≡ [] → lower_along deviationSquared ps X z left order ≡ z
  unfolding lower_along
  none_next order e = rw e

-- The peptides of a list from place i on are still to be visited: what is left in each region, and its z, come to its z by them.
pub record Coming (F : Family) (ps : List ℕ) (deviationSquared : ℕ) (order L Z : List ℕ) (i : ℕ) : Type 0 where
  pub rest : (k : ℕ) → k < region_count F → lower_along deviationSquared ps (has_at F k) (get_or Z k 0) (get_or L k 0) (drop i order) ≡ z_at F ps deviationSquared k
  pub small : (k : ℕ) → k < region_count F → get_or Z k 0 ≤ 4096

module _ {F : Family} (w : WellFormed F) {ps : List ℕ} {deviationSquared : ℕ} (known : PValues F ps deviationSquared) where
  -- where the peptides of the order stand
  module _ (order : List ℕ) (ordered : InOrder ps order) (i : ℕ) (h : i < length order) where
    pub place_within : get_or order i 0 < F.peptides
    place_within = rw known.values at (ordered.within (get_or order i 0) (in_at 0 order i h))

    -- the peptide there is visited
    pub coming_more :
        (L Z L' Z' : List ℕ) → Coming F ps deviationSquared order L Z i → LoweredLists F (leaf_of F (suc (get_or order i 0))) (p_value ps (get_or order i 0)) deviationSquared L Z L' Z'
        → Coming F ps deviationSquared order L' Z' (i + 1)
    coming_more L Z L' Z' before step = record { rest = rest; small = small }
      where
        x : ℕ
        x = get_or order i 0

        leaf : ℕ
        leaf = leaf_of F (suc x)

        has_it : (k : ℕ) → k < region_count F → has_at F k x ≡ holds_leaf F leaf k
        has_it k l = has_leaf w (suc x) k (omega arith) place_within l

        next : drop i order ≡ x ∷ drop (i + 1) order
        next = drop-cons order i 0 h ∙ rw (add-one i)

        rest : (k : ℕ) → k < region_count F → lower_along deviationSquared ps (has_at F k) (get_or Z' k 0) (get_or L' k 0) (drop (i + 1) order) ≡ z_at F ps deviationSquared k
        rest k l =
            ⊎_elim
            (λ (t : holds_leaf F leaf k ≡ true).
            rw (step.left k l, step.z k l, t)
            (sym (next_taken deviationSquared ps (has_at F k) (get_or Z k 0) (get_or L k 0) x (drop i order) _ next (has_it k l ∙ t)) ∙ before.rest k l))
            (λ (e : holds_leaf F leaf k ≡ false).
            rw (step.left k l, step.z k l, e)
            (sym (next_passed deviationSquared ps (has_at F k) (get_or Z k 0) (get_or L k 0) x (drop i order) _ next (has_it k l ∙ e)) ∙ before.rest k l))
            (test (holds_leaf F leaf k))

        small : (k : ℕ) → k < region_count F → get_or Z' k 0 ≤ 4096
        small k l =
            ⊎_elim
            (λ (t : holds_leaf F leaf k ≡ true). rw (step.z k l, t) (omega (arith, before.small k l, largest_most (get_or Z k 0) (passes deviationSquared (gap (p_value ps x)) (get_or L k 0 - 1)))))
            (λ (e : holds_leaf F leaf k ≡ false). rw (step.z k l, e) (before.small k l))
            (test (holds_leaf F leaf k))

    -- the innermost region of the peptide there is where its climb begins
    pub climbable : (P T : List ℕ) (R : List Lowering) → Nested F P → LastOfFirst F (region_count F) T → Coming F ps deviationSquared order (left_of_each R) (z_of_each R) i
        → Climbable P R (get_or T (get_or order i 0) 0)
    climbable P T R nested last coming =
        record {
          family = F;
          nested = nested;
          leaf = leaf_of F (suc (get_or order i 0));
          last = last (get_or order i 0) place_within;
          small = coming.small;
        }

  pub coming_starts : (order T : List ℕ) (R : List Lowering) → InOrder ps order → Filled F T R → Coming F ps deviationSquared order (left_of_each R) (z_of_each R) 0
  coming_starts order T R ordered filled =
      record {
        rest = λ k l. rw (filled.left k l, filled.z k l) (region_z w known ordered k l);
        small = λ k l. omega (arith, filled.z k l, size_most w ps known.values k l, w.peptides_most);
      }

  pub coming_ends : (order L : List ℕ) (R : List Lowering) (i : ℕ) → length order ≤ i → Coming F ps deviationSquared order L (z_of_each R) i → BoundsFound F ps deviationSquared R
  coming_ends order L R i h coming k l =
      sym (none_next deviationSquared ps (has_at F k) (get_or (z_of_each R) k 0) (get_or L k 0) (drop i order) (drop_of_length-le order {i = i} h)) ∙ coming.rest k l
