-- The header, then the leaf lengths, then each region.
use mathlib.Core.List.{◌++◌}
use mathlib.Core.Path.{◌≡◌, sym, ◌∙◌}
use Rattle.reader.specs.Family.{family_of, mark}
use Rattle.reader.specs.Causes.{first_cause, header_causes, listing_causes}
use Rattle.reader.specs.Refusals.{number_of}
use Rattle.reader.proofs.First.{join_clear}
use Rattle.reader.proofs.Refusals.{hands_on, first_of}
use Rattle.reader.proofs.Judged.{listing_6, listing_7}
use Rattle.reader.proofs.Accepting.{header_numbered, header_whole}
use Rattle.reader.proofs.causes.check_listing.Goals as goal
use Rattle.reader.proofs.causes.check_listing.Goals.{In_ok-check_header}

clear : (c : In_ok-check_header) → first_cause (header_causes c.args.file.now) ≡ 0
unfolding header_causes mark
clear c = sym c.in_ok-check_header.ensures

after-header : (c : In_ok-check_header)
    → first_cause (header_causes c.args.file.now ++ listing_causes (family_of c.args.file.now)) ≡ first_cause (listing_causes (family_of c.args.file.now))
after-header c = join_clear (header_causes c.args.file.now) (listing_causes (family_of c.args.file.now)) (header_numbered c.args.file.now) (clear c)

pub returns-in_err-check_header : goal.returns-in_err-check_header
unfolding header_causes mark
returns-in_err-check_header c =
    let s = c.args.file.now in
    let refusal = c.in_err-check_header.field-0.0 in
    let first : number_of refusal ≡ first_cause (header_causes s) = c.in_err-check_header.ensures in
    hands_on c.from_residual.result refusal _ c.from_residual.ensures.1 (first_of refusal (header_causes s) first (listing_causes (family_of s)))

-- the file has all that its header counts
pub invariant_of-whole : goal.invariant_of-whole
invariant_of-whole c = record { whole = header_whole _ (clear (goal.at.invariant_of-whole c).In_ok-check_header) }

pub returns-then-bad_lengths : goal.returns-then-bad_lengths
returns-then-bad_lengths c =
    sym (after-header (goal.at.returns-then-bad_lengths c).In_ok-check_header ∙ listing_6 _ (sym c.bad_lengths.ensures ∙ c.if-bad_lengths.true))

pub returns-then-misplaced_region : goal.returns-then-misplaced_region
returns-then-misplaced_region c =
    sym (after-header (goal.at.returns-then-misplaced_region c).In_ok-check_header ∙ listing_7 _ (sym c.bad_lengths.ensures ∙ c.if-bad_lengths.false) ∙ rw (← c.misplaced_region.ensures, c.if-misplaced_region.true))

pub returns : goal.returns
returns c =
    sym (after-header (goal.at.returns c).In_ok-check_header ∙ listing_7 _ (sym c.bad_lengths.ensures ∙ c.if-bad_lengths.false) ∙ rw (← c.misplaced_region.ensures, c.if-misplaced_region.false))
