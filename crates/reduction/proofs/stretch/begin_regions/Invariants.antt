-- The loop has begun the regions before k, all at the leaf after the passed ones or before it.
use Prim.Native.Nat.{◌+◌}
use Rattle.reader.specs.Family.{family_of}
use Rattle.reduction.specs.Private.Passes.{Lowered}
use Rattle.reduction.proofs.stretch.begin_regions.Given as goal

abbrev pub invariant-loop-k : goal.invariant-loop-k
invariant-loop-k l = Lowered (family_of l.file) (l.leaf.0 + 1) l.k l.lows
