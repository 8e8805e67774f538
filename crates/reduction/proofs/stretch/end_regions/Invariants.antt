-- The loop has ended the regions inside the open one, which reaches the leaf.
use Rattle.reader.specs.Family.{family_of}
use Rattle.reduction.specs.Private.Passes.{Open}
use Rattle.reduction.proofs.stretch.end_regions.Given as goal

abbrev pub invariant-loop-number : goal.invariant-loop-number
invariant-loop-number l = Open (family_of l.file) l.leaf.0 l.leaf.0 l.highs l.number

abbrev pub decreases-loop-number : goal.decreases-loop-number
decreases-loop-number l = l.number
