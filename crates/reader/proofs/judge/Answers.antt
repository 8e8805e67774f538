-- The first cause of the listing, else that of the arrangement.
use mathlib.Core.Path.{sym, ◌∙◌}
use Rattle.reader.proofs.Refusals.{number_some, some_holds, handed_on}
use Rattle.reader.proofs.Accepting.{listed_header, header_whole, file_listing, file_arrangement}
use Rattle.reader.proofs.judge.Goals as goal

pub returns-in_err-check_listing : goal.returns-in_err-check_listing
returns-in_err-check_listing c =
    let s = c.args.file.now in
    let refusal = c.in_err-check_listing.field-0.0 in
    let first = c.in_err-check_listing.ensures in
    rw (handed_on c.from_residual.result refusal c.from_residual.ensures.1)
    (record { tested = first ∙ sym (file_listing s (some_holds refusal _ first)); parents = λ e. absurd (number_some refusal e) })

pub invariant_of-check_arrangement : goal.invariant_of-check_arrangement
invariant_of-check_arrangement c = record { whole = header_whole _ (listed_header _ (sym c.in_ok-check_listing.ensures)) }

pub check_arrangement-requires : goal.check_arrangement-requires
check_arrangement-requires c = sym c.in_ok-check_listing.ensures

pub returns : goal.returns
returns c =
    let found = c.check_arrangement.ensures in
    record { tested = found.tested ∙ sym (file_arrangement c.args.file.now (sym c.in_ok-check_listing.ensures)); parents = found.parents }
