-- What is left of the peptide's number is to be found after the blocks that the walk has passed.
use Rattle.std.proofs.Common.{◌≡◌, ◌+◌, ◌*◌, drop}
use Rattle.reader.specs.Family.{family_of, leaf_after}
use Rattle.leaves.proofs.leaf_walk.Walk.pass_blocks.Given as goal

abbrev pub invariant-loop-block : goal.invariant-loop-block
invariant-loop-block l = record {
  blocks : l.passed ≡ l.self.passed.0 + 8 * l.rows * l._block;
  same : leaf_after l.self.passed.0 (drop l.self.passed.0 (family_of l.self.file.now).lengths) l.self.left
      ≡ leaf_after l.passed (drop l.passed (family_of l.self.file.now).lengths) l.left;
}
