-- The entries up to t are written: each is what the marks before it add up to.
use Prim.Native.Nat.{◌+◌, ◌≤◌}
use mathlib.Core.List.{◌++◌}
use mathlib.Core.Path.{◌≡◌}
use lib.ListN.{length, drop}
use Rattle.reader.specs.Lists.{tabulate}
use Rattle.bounds.specs.Private.Walks.{marks_up_to}
use Rattle.bounds.proofs.entries.write_values.Given as goal

abbrev pub invariant-loop-t : goal.invariant-loop-t
invariant-loop-t l = record {
  same_length : length l.values ≡ length l.initial.values;
  few : l.entry ≤ l.t;
  sum : l.entry ≡ marks_up_to l.marks l.t;
  written : l.values ≡ tabulate (l.t + 1) (marks_up_to l.marks) ++ drop (l.t + 1) l.initial.values;
}
