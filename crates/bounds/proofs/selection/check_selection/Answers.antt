-- The causes of the file come first, then 14, then 16.
use native.Mathlib.Omega.{arith}
use mathlib.Core.Path.{sym, ◌∙◌}
use borrow.Author.Tests.{lt-ltb, le-ltb}
use Rattle.reader.specs.Family.{family_of, region_count}
use Rattle.reader.specs.Causes.{file_causes}
use Rattle.reader.proofs.Refusals.{hands_on, first_of}
use Rattle.reader.proofs.Accepting.{learns_accepted, learns_refused}
use Rattle.bounds.specs.Calls.{causes_with_room}
use Rattle.bounds.proofs.Calls.SelectionCalls.{cause_14, cause_16}
use Rattle.bounds.proofs.selection.check_selection.Goals as goal

pub returns-in_err-sizes : goal.returns-in_err-sizes
unfolding causes_with_room
returns-in_err-sizes c =
    let s = c.args.file.now in
    let refusal = c.in_err-sizes.field-0.0 in
    hands_on c.from_residual.result refusal _ c.from_residual.ensures.1 (first_of refusal (file_causes s) (learns_refused s _ c.in_err-sizes.ensures) _)

pub returns-then-bad_selection : goal.returns-then-bad_selection
returns-then-bad_selection c =
    let s = c.args.file.now in
    let a = learns_accepted s _ c.in_ok-sizes.ensures in
    sym (cause_14 s c.args.selection.now _ a.accepted (rw (← a.peptides) (sym c.bad_selection.ensures ∙ c.if-bad_selection.true)))

pub returns-then-room-sizes : goal.returns-then-room-sizes
returns-then-room-sizes c =
    let s = c.args.file.now in
    let a = learns_accepted s _ c.in_ok-sizes.ensures in
    let e = cause_16 s c.args.selection.now c.args.room a.accepted (rw (← a.peptides) (sym c.bad_selection.ensures ∙ c.if-bad_selection.false)) in
    sym (e ∙ rw (lt-ltb c.args.room (region_count (family_of s)) (omega (arith, a.regions, c.if-room-sizes.true))))

pub returns : goal.returns
returns c =
    let s = c.args.file.now in
    let a = learns_accepted s _ c.in_ok-sizes.ensures in
    let e = cause_16 s c.args.selection.now c.args.room a.accepted (rw (← a.peptides) (sym c.bad_selection.ensures ∙ c.if-bad_selection.false)) in
    sym (e ∙ rw (le-ltb c.args.room (region_count (family_of s)) (omega (arith, a.regions, c.if-room-sizes.false))))
