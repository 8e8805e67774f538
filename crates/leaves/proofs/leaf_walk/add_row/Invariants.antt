-- The lengths before this one have been added.
use Rattle.std.proofs.Common.{◌+◌, sum}
use Rattle.leaves.specs.Private.Walking.{added, Capped}
use Rattle.leaves.proofs.leaf_walk.add_row.Given as goal

abbrev pub invariant-loop-i : goal.invariant-loop-i
invariant-loop-i l = Capped (sum l.initial.lanes + added l.file l.at l.i) (sum l.lanes)
