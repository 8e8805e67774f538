-- The cut is the largest number so far that passes.
use Prim.Native.Nat.{◌≤◌}
use mathlib.Core.Path.{◌≡◌}
use Rattle.bounds.specs.Private.Walks.{marks_up_to}
use Rattle.bounds.proofs.Walking.Steps.{passing_up_to}
use Rattle.bounds.proofs.entries.last_passing.Given as goal

abbrev pub invariant-loop-i : goal.invariant-loop-i
invariant-loop-i l = record {
  few : l.entry ≤ l.i;
  sum : l.entry ≡ marks_up_to l.marks l.i;
  passes : l.cut ≡ passing_up_to l.marks l.a l.b l.i;
}
