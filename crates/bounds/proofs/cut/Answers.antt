-- The causes of the family and the path first, then the fraction; then the walk finds the cut.
use lib.Dec.{eqb, ltb}
use borrow.Author.Tests.{eq-eqb, ne_eqb, lt-ltb, le-ltb}
use Rattle.reader.proofs.Refusals.{handed_on}
use Rattle.reader.proofs.Bools.{or_l, or_r, or_neither}
use Rattle.bounds.specs.Curves.{cause15}
use Rattle.bounds.proofs.Calls.Answering.{cut_refuses, cut_no_fraction, cut_answers}
use Rattle.bounds.proofs.cut.Goals as goal
use Rattle.bounds.proofs.cut.Goals.{then-b-eq0-via-then-b-eq0, then-b-eq0-via-else-b-eq0+then-b-a}

pub returns-in_err-check_path : goal.returns-in_err-check_path
returns-in_err-check_path c =
    rw (handed_on c.from_residual.result c.in_err-check_path.field-0.0 c.from_residual.ensures.1) (cut_refuses _ _ _ _ _ c.in_err-check_path.ensures)

pub returns-then-b-eq0 : goal.returns-then-b-eq0
unfolding cause15
returns-then-b-eq0 c =
    let a = c.args.a in
    let b = c.args.b in
    cut_no_fraction _ _ _ _ c.in_ok-check_path.ensures.0
    (elim c.then-b-eq0.branch [
      | then-b-eq0-via-then-b-eq0 w ↦ or_l (eqb b 0) (ltb b a) (eq-eqb b 0 w.if-b-eq0.true)
      | then-b-eq0-via-else-b-eq0+then-b-a w ↦ or_r (eqb b 0) (ltb b a) (lt-ltb b a w.if-b-a.true)
    ])

pub returns : goal.returns
unfolding cause15
returns c =
    let a = c.args.a in
    let b = c.args.b in
    cut_answers _ _ _ _ _ c.in_ok-check_path.ensures.0 (or_neither (eqb b 0) (ltb b a) (ne_eqb b 0 c.if-b-eq0.false) (le-ltb b a c.if-b-a.false)) c.find_cut.ensures
