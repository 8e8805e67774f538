-- A refused file is declined as by the check, an accepted one by 16 where there is too little room; else the parents that the
-- check found are copied.
use Prim.Native.Nat.{ℕ, ◌≤◌}
use native.Mathlib.Omega.{arith}
use mathlib.Core.List.{List, ◌++◌}
use mathlib.Core.Path.{◌≡◌, refl, sym, ap, ◌∙◌}
use lib.ListN.{length, take, drop}
use lib.Seq.{length-take-le}
use Rattle.reader.specs.Family.{family_of, region_count}
use Rattle.reader.specs.Causes.{Accepted}
use Rattle.reader.proofs.Refusals.{number_some, handed_on}
use Rattle.reader.proofs.Accepting.{accepted_header, few_regions, reports_accepted, reports_refused}
use Rattle.reader.proofs.ParentLaws.{parents_checked, parents_unwritten, parents_short, parents_accepted}
use Rattle.reader.proofs.parents.Goals as goal
use Rattle.reader.proofs.parents.Goals.{In_ok-judge, After-region_count-n}

-- the file is accepted where the judge found no cause
accepted : (c : In_ok-judge) → Accepted c.args.file.now
accepted c = sym c.in_ok-judge.ensures.tested

pub returns-in_err-judge : goal.returns-in_err-judge
returns-in_err-judge c =
    let s = c.args.file.now in
    let refusal = c.in_err-judge.field-0.0 in
    let first = c.in_err-judge.ensures.tested in
    rw (handed_on c.from_residual.result refusal c.from_residual.ensures.1)
    (record {
      parents_answers = reports_refused s refusal first ∙ sym (parents_checked s c.args.out.now (λ h. absurd (number_some refusal (first ∙ h))));
      parents_writes = parents_unwritten s c.args.out.now (λ z. number_some refusal (first ∙ z));
    })

pub returns-then-out-n : goal.returns-then-out-n
returns-then-out-n c =
    let a = c.args in
    let short = parents_short a.file.now a.out.now (accepted (goal.at.returns-then-out-n c).In_ok-judge) (omega (arith, c.if-out-n.true, c.region_count-n.ensures)) in
    record { parents_answers = short.0; parents_writes = short.1 }

few : (c : In_ok-judge) → region_count (family_of c.args.file.now) ≤ 8191
few c = few_regions _ (accepted_header _ (accepted c))

pub slice_bounds-found-end : goal.slice_bounds-found-end
slice_bounds-found-end c = omega (arith, c.region_count-n.ensures, few (goal.at.slice_bounds-found-end c).In_ok-judge, c.judge.auto)

-- so many parents are copied
front : (c : After-region_count-n) → length (take c.region_count-n.result c.judge.new.parents) ≡ c.region_count-n.result
front c = length-take-le _ _ (omega (arith, c.region_count-n.ensures, few_regions _ (accepted_header _ (sym c.in_ok-judge.ensures.tested)), c.judge.auto))

pub slice_bounds-copy_from_slice-end-3 : goal.slice_bounds-copy_from_slice-end-3
slice_bounds-copy_from_slice-end-3 c = sym (front (goal.at.slice_bounds-copy_from_slice-end-3 c).After-region_count-n)

pub copy_from_slice-requires : goal.copy_from_slice-requires
copy_from_slice-requires c =
    length-take-le _ _ c.if-out-n.false ∙ sym (front (goal.at.copy_from_slice-requires c).After-region_count-n)

pub returns : goal.returns
returns c =
    let s = c.args.file.now in
    let out = c.args.out.now in
    let judged = c.judge in
    let ok = accepted (goal.at.returns c).In_ok-judge in
    let k = c.region_count-n.ensures in
    let room : region_count (family_of s) ≤ length out = omega (arith, k, c.if-out-n.false) in record {
      parents_answers = reports_accepted s _ ok c.counts.ensures ∙ sym (parents_checked s out (λ h. room));
      parents_writes = ap (λ (l : List ℕ). l ++ drop c.region_count-n.result out) c.copy_from_slice.ensures.after
          ∙ parents_accepted s out ok room judged.new.parents _ k (c.in_ok-judge.ensures.parents refl) (omega (arith, few_regions s (accepted_header s ok), judged.auto));
    }
