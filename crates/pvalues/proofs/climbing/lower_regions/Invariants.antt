-- What lies below the number is as it was; whatever the leaf, the rest of the chain holds it.
use Prim.Native.Nat.{ℕ, ◌≤◌, ◌<◌}
use mathlib.Core.Path.{◌≡◌}
use lib.ListN.{length, get_or}
use Rattle.reader.specs.Family.{Family}
use Rattle.reader.specs.WellFormed.{Nested}
use Rattle.bounds.specs.Holding.{LastHolding}
use Rattle.bounds.proofs.Walking.Holding.{Chain, ChangedFrom, one_less}
use Rattle.pvalues.specs.Private.Climbing.{left_of_each, z_of_each}
use Rattle.pvalues.proofs.Finding.Climbs.{lowered_at}
use Rattle.pvalues.proofs.climbing.lower_regions.Given as goal

abbrev pub invariant-loop-number : goal.invariant-loop-number
invariant-loop-number l = (l.number ≤ l.inner)
    × (length l.regions ≡ 8191)
    × ((i : ℕ) → i < l.number → get_or (left_of_each l.regions) i 0 ≡ get_or (left_of_each l.initial.regions) i 0)
    × ((i : ℕ) → i < l.number → get_or (z_of_each l.regions) i 0 ≡ get_or (z_of_each l.initial.regions) i 0)
    × ((F : Family) (leaf : ℕ) → Nested F l.parents → LastHolding F leaf l.inner
    → Chain F leaf l.number
    × ChangedFrom F (one_less (left_of_each l.initial.regions)) (left_of_each l.initial.regions) leaf (left_of_each l.regions) l.number
    × ChangedFrom F (lowered_at l.deviation_squared l.p (left_of_each l.initial.regions) (z_of_each l.initial.regions)) (z_of_each l.initial.regions) leaf (z_of_each l.regions) l.number)

abbrev pub decreases-loop-number : goal.decreases-loop-number
decreases-loop-number l = l.number
