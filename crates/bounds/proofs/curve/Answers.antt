-- The causes of the family and the path first, then the room in the lent slices; then the walk writes.
use Prim.Native.Nat.{◌+◌}
use native.Mathlib.Omega.{arith}
use lib.ListN.{length}
use borrow.Author.Tests.{lt-ltb, le-ltb}
use Rattle.reader.proofs.Refusals.{handed_on}
use Rattle.reader.proofs.Bools.{or_l, or_r, or_neither}
use Rattle.reader.specs.Calls.{short}
use Rattle.bounds.proofs.Calls.Answering.{curve_refuses, curve_short, curve_writes}
use Rattle.bounds.proofs.curve.Goals as goal
use Rattle.bounds.proofs.curve.Goals.{then-values-path-via-then-values-path, then-values-path-via-else-values-path+then-marks-path}

pub returns-in_err-check_path : goal.returns-in_err-check_path
returns-in_err-check_path c =
    rw (handed_on c.from_residual.result c.in_err-check_path.field-0.0 c.from_residual.ensures.1)
    (curve_refuses c.args.file.now c.args.path.now c.args.values.now c.args.marks.now _ c.in_err-check_path.ensures)

pub returns-then-values-path : goal.returns-then-values-path
unfolding short
returns-then-values-path c =
    let a = c.args in
    let v = length a.values.now in
    let t = length a.path.now in
    curve_short a.file.now a.path.now a.values.now a.marks.now c.in_ok-check_path.ensures.0
    (elim c.then-values-path.branch [
      | then-values-path-via-then-values-path w ↦ or_l (short (t + 1) v) _ (lt-ltb v (t + 1) (omega (arith, w.if-values-path.true)))
      | then-values-path-via-else-values-path+then-marks-path w ↦ or_r (short (t + 1) v) _ (lt-ltb (length a.marks.now) t w.if-marks-path.true)
    ])

pub returns : goal.returns
unfolding short
returns c =
    let a = c.args in
    let v = length a.values.now in
    let w = length a.marks.now in
    let t = length a.path.now in
    curve_writes a.file.now a.path.now a.values.now a.marks.now _ _ c.in_ok-check_path.ensures.0
    (or_neither (short (t + 1) v) (short t w) (le-ltb v (t + 1) (omega (arith, c.if-values-path.false))) (le-ltb w t c.if-marks-path.false))
    c.write_curve.ensures.values_after c.write_curve.ensures.marks_after
