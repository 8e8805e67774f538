-- Where no cause holds, the totals of all regions are stored where they are wanted.
use native.Mathlib.Omega.{arith}
use mathlib.Core.Path.{◌≡◌, sym}
use lib.ListN.{length}
use Rattle.reader.specs.Family.{family_of}
use Rattle.reader.specs.Causes.{first_cause}
use Rattle.reader.proofs.Refusals.{handed_on, unwritten}
use Rattle.bounds.specs.Calls.{causes_with_room}
use Rattle.bounds.proofs.Summing.TakenBytes.{totals_written, totals_length}
use Rattle.bounds.proofs.Calls.SelectionCalls.{none_holds, none_ready, refuses, gives_bound, writes_all}
use Rattle.bounds.proofs.inside_totals.Goals as goal
use Rattle.bounds.proofs.inside_totals.Goals.{In_ok-check_selection}

clear : (c : In_ok-check_selection) → first_cause (causes_with_room c.args.file.now c.args.selection.now (length c.args.out.now)) ≡ 0
clear c = sym c.in_ok-check_selection.ensures

pub returns-in_err-check_selection : goal.returns-in_err-check_selection
returns-in_err-check_selection c =
    let refusal = c.in_err-check_selection.field-0.0 in
    let first = c.in_err-check_selection.ensures in
    rw (handed_on c.from_residual.result refusal c.from_residual.ensures.1)
    (record { bound_answers = refuses _ _ _ refusal _ first; totals_writes = unwritten refusal _ first _ _ })

pub line_value-value-requires : goal.line_value-value-requires
line_value-value-requires c =
    let k = clear (goal.at.line_value-value-requires c).In_ok-check_selection in
    record { ready = none_ready c.args.file.now _ _ (λ i. omega (arith, c.type_inv.file i)) k; file_in_bounds = (none_holds _ _ _ k).room }

pub returns : goal.returns
returns c =
    let s = c.args.file.now in
    let S = c.args.selection.now in
    let out = c.args.out.now in
    let h = clear (goal.at.returns c).In_ok-check_selection in
    let line = c.line_value-value.ensures in
    let all = totals_written (family_of s) S out _ c.line_value-value.auto.totals (none_holds s S _ h).room line.stored in record { bound_answers = gives_bound s S _ _ h line.bound; totals_writes = writes_all s S out _ _ h (totals_length (family_of s) S) all }
