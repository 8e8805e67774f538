-- The file is judged first, then the numbers of the path, then the repeats; an accepted file has its parents in the lent array.
use Prim.Native.Nat.{ℕ, ◌≤◌}
use lib.ListN.{length}
use native.Mathlib.Omega.{arith}
use mathlib.Core.Path.{◌≡◌, sym, ap, ◌∙◌}
use Rattle.reader.specs.Family.{family_of}
use Rattle.reader.specs.Causes.{Accepted}
use Rattle.reader.specs.Refusals.{number_of}
use Rattle.reader.proofs.Refusals.{handed_on, some_holds, number_some}
use Rattle.reader.proofs.Accepting.{well_formed_lem, learns_accepted, learns_refused}
use Rattle.reader.proofs.ParentLaws.{enough_room, enough_first, enough_checked, parents_given}
use Rattle.bounds.specs.Private.Walks.{number_cause}
use Rattle.bounds.proofs.Calls.PathLaws.{number_first, path_short, path_numbers, file_most, input_file, input_path, input_refused, by_repeats, walkable}
use Rattle.bounds.proofs.path.check_path.Goals as goal
use Rattle.bounds.proofs.path.check_path.Goals.{In_ok-sizes, In_ok-check_numbers}

-- the file is accepted, and m is as the answer says
accepted : (c : In_ok-sizes) → Accepted c.args.file.now × (c.in_ok-sizes.sizes.peptides ≡ (family_of c.args.file.now).peptides)
accepted c =
    let a = learns_accepted c.args.file.now _ (c.in_ok-sizes.ensures.parents_answers ∙ enough_checked _ c.args.parents.now (omega arith)) in
    (a.accepted, a.peptides)

-- the path is no longer than m, of numbers from 1 to m
right : (c : In_ok-check_numbers) → number_cause (family_of c.args.file.now).peptides c.args.path.now ≡ 0
right c =
    let a = learns_accepted c.args.file.now _ (c.in_ok-sizes.ensures.parents_answers ∙ enough_checked _ c.args.parents.now (omega arith)) in
    sym (ap (λ (m : ℕ). number_cause m c.args.path.now) a.peptides) ∙ sym c.in_ok-check_numbers.ensures

pub returns-in_err-sizes : goal.returns-in_err-sizes
returns-in_err-sizes c =
    let s = c.args.file.now in
    let path = c.args.path.now in
    let refusal = c.in_err-sizes.field-0.0 in
    let first = learns_refused s refusal (c.in_err-sizes.ensures.parents_answers ∙ enough_checked _ c.args.parents.now (omega arith)) in
    rw (handed_on c.from_residual.result refusal c.from_residual.ensures.1)
    (input_refused s path refusal (first ∙ sym (input_file s path (some_holds refusal _ first))) (λ z. omega (arith, first, file_most s)))

pub returns-in_err-check_numbers : goal.returns-in_err-check_numbers
returns-in_err-check_numbers c =
    let s = c.args.file.now in
    let path = c.args.path.now in
    let refusal = c.in_err-check_numbers.field-0.0 in
    let a = accepted (goal.at.returns-in_err-check_numbers c).In_ok-sizes in
    let first : number_of refusal ≡ number_cause (family_of s).peptides path = c.in_err-check_numbers.ensures ∙ ap (λ (m : ℕ). number_cause m path) a.1 in
    let known = number_first (family_of s).peptides path (λ z. number_some refusal (first ∙ z)) in
    rw (handed_on c.from_residual-in_err-check_numbers.result refusal c.from_residual-in_err-check_numbers.ensures.1)
    (input_refused s path refusal (first ∙ sym known.0 ∙ sym (input_path s path a.0)) (λ z. omega (arith, first, known.1)))

pub check_repeats-requires : goal.check_repeats-requires
check_repeats-requires c =
    let s = c.args.file.now in
    let path = c.args.path.now in
    let a = accepted (goal.at.check_repeats-requires c).In_ok-sizes in
    let most = (well_formed_lem s (λ i. omega (arith, c.type_inv.file i)) a.0).peptides_most in
    record { short = omega (arith, path_short (family_of s).peptides path (right c)); numbers = λ i l. omega (arith, (path_numbers (family_of s).peptides path (right c) i l).1) }

pub returns : goal.returns
returns c =
    let s = c.args.file.now in
    let path = c.args.path.now in
    let out = c.args.parents.now in
    let ok = (accepted (goal.at.returns c).In_ok-sizes).0 in
    let k = right (goal.at.returns c).In_ok-check_numbers in
    let long : 8191 ≤ length out = omega arith in
    let known = parents_given s out (enough_first s out long ∙ ok) _ c.parents.ensures.parents_writes in
    by_repeats s path c.parents.new.out c.check_repeats.result ok k
    (walkable s path (λ i. omega (arith, c.type_inv.file i)) ok c.parents.new.out known (omega (arith, enough_room s out long ok, c.parents.auto.out)) k)
    c.check_repeats.ensures
