-- The loop has counted the regions around each of the first k, and none has more than 63.
use Rattle.reader.specs.Family.{family_of}
use Rattle.reader.proofs.Climbing.{Counted}
use Rattle.reader.proofs.nesting.too_deep.Given as goal

abbrev pub invariant-loop-k : goal.invariant-loop-k
invariant-loop-k l = Counted (family_of l.file.bytes.now) l.depths l.k
