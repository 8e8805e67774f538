-- The z that is left is the largest that passes: 0 passes, so that the loop ends there at the latest.
use Prim.Native.Nat.{◌≤◌}
use mathlib.Core.Path.{◌≡◌}
use Rattle.bounds.specs.Curves.{largest_up_to}
use Rattle.pvalues.specs.FromP.{passes}
use Rattle.pvalues.proofs.lowering.largest_passing.Given as goal

abbrev pub invariant-loop-v : goal.invariant-loop-v
invariant-loop-v l = (l.v ≤ l.z) × (largest_up_to l.v (passes l.deviation_squared l.gap l.over) ≡ largest_up_to l.z (passes l.deviation_squared l.gap l.over))

abbrev pub decreases-loop-v : goal.decreases-loop-v
decreases-loop-v l = l.v
