-- All the leaves that are left end before the peptide, or its leaf is the one after those that do.
use Rattle.std.proofs.Common.{arith}
use Rattle.leaves.proofs.Walk.{counted_some, counted_last}
use Rattle.leaves.proofs.leaf_walk.Walk.leaf_of_last.Goals as goal

pub returns-then-count-n : goal.returns-then-count-n
returns-then-count-n c =
    let walk = c.args.self.now in
    counted_last _ walk.passed.0 walk.left _ _ (omega (arith, walk.counted, walk.among)) c.if-count-n.true c.leaves_before-count.ensures.counted_to

pub returns : goal.returns
returns c =
    let walk = c.args.self.now in
    counted_some _ walk.passed.0 walk.left _ _ (omega (arith, c.leaves_before-count.ensures.upper_bound)) c.leaves_before-count.ensures.counted_to
