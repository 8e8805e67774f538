-- The loop has counted the selected peptides after the first one named and up to i.
use Prim.Native.Nat.{◌+◌, ◌≤◌}
use mathlib.Core.Path.{◌≡◌}
use Rattle.bounds.specs.Ranges.{card}
use Rattle.bounds.specs.Selections.{selected}
use Rattle.bounds.proofs.selection.selected_between.Given as goal

abbrev pub invariant-loop-i : goal.invariant-loop-i
invariant-loop-i l = record {
  few : l.count ≤ l.i;
  counted : l.count + card l.fn.after.0 (selected l.selection) ≡ card l.i (selected l.selection);
}
