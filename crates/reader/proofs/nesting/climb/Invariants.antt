-- The climb keeps every region that reaches the first leaf of the k-th one; it falls, since a parent comes earlier.
use Rattle.reader.specs.Family.{family_of}
use Rattle.reader.proofs.Climbing.{Climbable}
use Rattle.reader.proofs.nesting.climb.Given as goal

abbrev pub invariant-loop-number : goal.invariant-loop-number
invariant-loop-number l = Climbable (family_of l.file.bytes.now) l.k l.number

abbrev pub decreases-loop-number : goal.decreases-loop-number
decreases-loop-number l = l.number
