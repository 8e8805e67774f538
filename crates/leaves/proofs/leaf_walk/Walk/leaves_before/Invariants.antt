-- The loop has counted the leaves, among the next i, up to which the lengths add to less than what is left.
use Rattle.std.proofs.Common.{◌≡◌, ◌+◌, ◌*◌, ◌≤◌}
use Rattle.reader.specs.Family.{family_of}
use Rattle.leaves.specs.Private.Walking.{added, CountedTo}
use Rattle.leaves.proofs.leaf_walk.Walk.leaves_before.Given as goal

abbrev pub invariant-loop-i : goal.invariant-loop-i
invariant-loop-i l = record {
  few : l.count ≤ l.i;
  small : l.sum ≤ 65535 * l.i;
  sum_is : l.sum ≡ added l.self.file.now (16 + 2 * l.self.passed.0) l.i;
  counted : CountedTo (family_of l.self.file.now) l.self.passed.0 l.self.left l.i (added l.self.file.now (16 + 2 * l.self.passed.0) l.i) l.count;
}
