-- The loop has found the regions before k on the leaves.
use mathlib.Core.Bool.{false}
use mathlib.Core.Path.{◌≡◌}
use Rattle.reader.specs.Lists.{some_below}
use Rattle.reader.specs.Family.{family_of, leaves, region}
use Rattle.reader.specs.Causes.{misplaced}
use Rattle.reader.proofs.causes.misplaced_region.Given as goal

abbrev pub invariant-loop-k : goal.invariant-loop-k
invariant-loop-k l = some_below l.k (λ i. misplaced (leaves (family_of l.file.bytes.now)) (region (family_of l.file.bytes.now) i)) ≡ false
