-- The family written from a tidy list: its leaves, and its regions on them.
use Prim.Native.Nat.{ℕ, suc, ◌*◌, ◌≤◌, ◌<◌}
use mathlib.Core.List.{List}
use mathlib.Core.Logic.{inr}
use mathlib.Core.Path.{◌≡◌, refl}
use native.Mathlib.Omega.{arith}
use lib.ListN.{get_or, take}
use lib.Seq.{take_all}
use Rattle.reader.specs.Lists.{sum}
use Rattle.reader.specs.Family.{leaves, region_count}
use Rattle.bounds.specs.Ranges.{Range, card, ranges_of, In}
use Rattle.bounds.proofs.Basics.Members.{in_at, clash}
use Rattle.bounds.proofs.Basics.Counting.{card_less, none, card_most}
use Rattle.bounds.proofs.Theory.Family.{ranges_length}
use Rattle.reduction.specs.Reduction.{ends_leaf, leaf_lengths, written_family}
use Rattle.reduction.proofs.Theory.Leaves.{leaves_count, leaves_positive, peptides_up_to_end}
use Rattle.reduction.proofs.Basics.Plain.{Tidy}
use Rattle.reduction.proofs.Theory.ReadBack.{again, ends_m, ranges_again, in_map}
use Rattle.reduction.proofs.Theory.Forest.{Planted, forest}
use Rattle.reduction.proofs.Theory.LeafNumbers.{again_planted}

module _ (m : ℕ) (Q : List Range) where
  -- a range of the written family is that of a range of the list
  pub written_range : (r : Range) → In r (ranges_of (written_family m Q)) → (q : Range) × In q Q × (r ≡ again m Q q)
  written_range r i = in_map (again m Q) Q r (rw (ranges_again m Q) at i)

  -- as many leaves as leaf ends, of which m is one
  pub written_leaves : leaves (written_family m Q) ≡ card m (ends_leaf m Q)
  unfolding written_family
  written_leaves = leaves_count (ends_leaf m Q) m

  pub leaves_some : 1 ≤ m → 1 ≤ leaves (written_family m Q)
  leaves_some h =
      let more = card_less m m none (ends_leaf m Q) (λ p l u e. absurd (clash e refl)) h (omega arith) refl (ends_m m Q) in
      omega (arith, written_leaves)

  pub leaves_most : leaves (written_family m Q) ≤ m
  leaves_most = omega (arith, written_leaves, card_most m (ends_leaf m Q))

  pub lengths_some : (j : ℕ) → j < leaves (written_family m Q) → 1 ≤ get_or (written_family m Q).lengths j 0
  unfolding written_family
  lengths_some j h = leaves_positive (ends_leaf m Q) m (get_or (leaf_lengths m (ends_leaf m Q)) j 0) (in_at 0 (leaf_lengths m (ends_leaf m Q)) j h)

  pub lengths_sum : sum (written_family m Q).lengths ≡ m
  unfolding written_family
  lengths_sum =
      let ends = ends_leaf m Q in
      let all : take (card m ends) (leaf_lengths m ends) ≡ leaf_lengths m ends =
      take_all (card m ends) (leaf_lengths m ends) (omega (arith, leaves_count ends m))
      in
      rw (← all) (peptides_up_to_end ends m m (omega arith) (inr (ends_m m Q)))

  -- The regions lie on the leaves in file order, nested or disjoint, so there are at most 2N - 1.

  pub written_planted : Tidy m Q → Planted (leaves (written_family m Q)) (ranges_of (written_family m Q))
  written_planted w = rw (ranges_again m Q, written_leaves) (again_planted w)

  pub regions_most : Tidy m Q → 1 ≤ m → suc (region_count (written_family m Q)) ≤ 2 * leaves (written_family m Q)
  regions_most w h =
      let F = written_family m Q in
      omega (arith, ranges_length F, forest (leaves F) (ranges_of F) (leaves_some h) (written_planted w))
