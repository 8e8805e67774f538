-- The loop has written the heading and the lines up to that of i.
use Prim.Native.Nat.{◌+◌}
use mathlib.Core.List.{◌++◌}
use mathlib.Core.Path.{◌≡◌}
use Rattle.curve.specs.Text.{heading, rows, row_at}
use Rattle.curve.proofs.text.put_table.Given as goal

abbrev pub invariant-loop-i : goal.invariant-loop-i
invariant-loop-i l = l.text ≡ heading ++ rows (l.i + 1) (row_at l.path l.values l.marks)
