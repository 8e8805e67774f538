-- The heading and the line of 0, then a line for each number.
use Prim.Native.Nat.{ℕ, ◌+◌}
use native.Mathlib.Omega.{arith}
use mathlib.Core.List.{[]}
use mathlib.Core.Path.{◌≡◌, ap, sym}
use lib.ListN.{length, length-append}
use Rattle.curve.specs.Text.{heading, table_of, row_at}
use Rattle.curve.proofs.Pieces.{row_next, rows_one, rows_next, table_short}
use Rattle.curve.proofs.text.put_table.Goals as goal

pub loop-i-init : goal.loop-i-init
unfolding heading
loop-i-init c = rw (c.put_line.ensures, c.extend.ensures, c.requires.empty, rows_one c.args.path.now c.args.values.now c.args.marks.now)

pub put_line-requires-in-loop-i : goal.put_line-requires-in-loop-i
put_line-requires-in-loop-i c =
    omega (arith, length-append {A = ℕ}, ap length c.loop-i.invariant, table_short c.args.path.now c.args.values.now c.args.marks.now (c.loop-i.i + 1), c.requires.short)

pub loop-i-preserved : goal.loop-i-preserved
loop-i-preserved c =
    let a = c.args in
    rw (c.put_line-in-loop-i.ensures, c.loop-i.invariant)
    (rows_next [] heading _ (c.loop-i.i + 1) (row_at a.path.now a.values.now a.marks.now) (sym (row_next a.path.now a.values.now a.marks.now c.loop-i.i)))

pub returns : goal.returns
unfolding table_of
returns c =
    let end : c.loop-i.i ≡ length c.args.path.now = omega arith in
    rw end at c.loop-i.invariant
