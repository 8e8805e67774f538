-- The loop knows whether a byte so far is over 1.
use mathlib.Core.Path.{◌≡◌}
use Rattle.reader.specs.Lists.{some_below}
use Rattle.bounds.proofs.Calls.Selecting.{over_one}
use Rattle.bounds.proofs.selection.bad_selection.Given as goal

abbrev pub invariant-loop-byte : goal.invariant-loop-byte
invariant-loop-byte l = l.over ≡ some_below l.byte-index (over_one l.selection)
