-- The header, then 6 and 7, then the rest.
use Prim.Native.Nat.{ℕ}
use native.Mathlib.Omega.{arith}
use mathlib.Core.List.{List}
use mathlib.Core.Path.{◌≡◌, sym, ◌∙◌}
use Rattle.reader.specs.Refusals.{number_of}
use Rattle.reader.specs.declared.refusal.Refusal.{Refusal}
use Rattle.reader.specs.Causes.{first_cause, listing_causes}
use Rattle.reader.proofs.Refusals.{number_some, handed_on}
use Rattle.levels.specs.Levels.{level_mark, listed_family}
use Rattle.levels.specs.Causes.{level_header_causes}
use Rattle.levels.specs.Calls.{from_levels_causes}
use Rattle.levels.specs.Private.Listing.{Headed}
use Rattle.levels.specs.Private.Judging.{ListedJudged}
use Rattle.levels.proofs.Calls.Judging.{first_header, first_listing, judged_whole}
use Rattle.levels.proofs.judging.check_level_file.Goals as goal
use Rattle.levels.proofs.judging.check_level_file.Goals.{In_ok-check_header}

refused : (s : List ℕ) (room : ℕ) (plain : List ℕ) (e : Refusal) → number_of e ≡ first_cause (from_levels_causes s room) → ListedJudged s room plain (number_of e)
refused s room plain e h = record { first = h; done = λ z. absurd (number_some e z) }

headed : (c : In_ok-check_header) → Headed c.args.file.now
unfolding level_header_causes level_mark
headed c = sym c.in_ok-check_header.ensures

pub returns-in_err-check_header : goal.returns-in_err-check_header
unfolding level_header_causes level_mark
returns-in_err-check_header c =
    let refusal = c.in_err-check_header.field-0.0 in
    let h : number_of refusal ≡ first_cause (level_header_causes c.args.file.now) = c.in_err-check_header.ensures in
    rw (handed_on c.from_residual.result refusal c.from_residual.ensures.1)
    (refused c.args.file.now c.args.room _ refusal (h ∙ sym (first_header c.args.file.now c.args.room (λ z. number_some refusal (h ∙ z)))))

pub check_listing-requires : goal.check_listing-requires
check_listing-requires c =
    record { headed = headed (goal.at.check_listing-requires c).In_ok-check_header }

pub returns-in_err-check_listing : goal.returns-in_err-check_listing
returns-in_err-check_listing c =
    let s = c.args.file.now in
    let refusal = c.in_err-check_listing.field-0.0 in
    let h : number_of refusal ≡ first_cause (listing_causes (listed_family s)) = c.in_err-check_listing.ensures in
    rw (handed_on c.from_residual-in_err-check_listing.result refusal c.from_residual-in_err-check_listing.ensures.1)
    (refused s c.args.room _ refusal (h ∙ sym (first_listing s c.args.room (headed (goal.at.returns-in_err-check_listing c).In_ok-check_header) (λ z. number_some refusal (h ∙ z)))))

pub invariant_of-check_family : goal.invariant_of-check_family
invariant_of-check_family c =
    record { bytes = λ i. omega (arith, c.type_inv.file i); headed = headed (goal.at.invariant_of-check_family c).In_ok-check_header; sound = sym c.in_ok-check_listing.ensures }

pub returns : goal.returns
returns c =
    judged_whole _ _ _ _ (headed (goal.at.returns c).In_ok-check_header) (sym c.in_ok-check_listing.ensures) c.check_family.ensures
