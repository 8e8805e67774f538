-- The loop has added the rows before this one.
use Rattle.std.proofs.Common.{◌*◌, sum}
use Rattle.leaves.specs.Private.Walking.{added, Capped}
use Rattle.leaves.proofs.leaf_walk.block_lengths.Given as goal

abbrev pub invariant-loop-row : goal.invariant-loop-row
invariant-loop-row l = Capped (added l.file l.at (8 * l.row)) (sum l.lanes)
