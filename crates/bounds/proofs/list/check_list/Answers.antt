-- The causes of the file come first.
use mathlib.Core.Path.{sym, ◌∙◌}
use Rattle.reader.specs.Causes.{file_causes}
use Rattle.reader.proofs.Refusals.{hands_on, first_of}
use Rattle.reader.proofs.Accepting.{learns_accepted, learns_refused}
use Rattle.bounds.specs.Calls.{list_causes}
use Rattle.bounds.proofs.Calls.ListCalls.{list_of_accepted}
use Rattle.bounds.proofs.list.check_list.Goals as goal

pub returns-in_err-sizes : goal.returns-in_err-sizes
unfolding list_causes
returns-in_err-sizes c =
    let s = c.args.file.now in
    let refusal = c.in_err-sizes.field-0.0 in
    hands_on c.from_residual.result refusal _ c.from_residual.ensures.1 (first_of refusal (file_causes s) (learns_refused s _ c.in_err-sizes.ensures) _)

pub returns : goal.returns
returns c =
    let s = c.args.file.now in
    let a = learns_accepted s _ c.in_ok-sizes.ensures in
    rw (a.peptides, a.regions) at c.check_inputs.ensures ∙ sym (list_of_accepted s _ _ _ _ a.accepted)
