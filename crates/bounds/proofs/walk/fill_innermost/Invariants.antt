-- The loop has painted the first k regions.
use Prim.Native.Nat.{ℕ}
use lib.ListN.{get_or}
use Rattle.reader.specs.Family.{family_of}
use Rattle.bounds.specs.Holding.{LastAmong}
use Rattle.bounds.proofs.walk.fill_innermost.Given as goal

abbrev pub invariant-loop-k : goal.invariant-loop-k
invariant-loop-k l = (leaf : ℕ) → LastAmong (family_of l.file) l.k leaf (get_or l.innermost leaf 0)
