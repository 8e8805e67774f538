-- The causes of the first file, then those of the second, then the comparison.
use native.Mathlib.Omega.{arith}
use mathlib.Core.Path.{subst}
use Rattle.std.proofs.lemmas.Result.{err_from_is_err_and}
use Rattle.reader.specs.Calls.{ParentsAnswers}
use Rattle.reader.specs.Causes.{Accepted}
use Rattle.reduction.proofs.Calls.ReduceCalls.{file_accepted, file_refused, parents_there, mapped_err, mapped_ok, first_refused, second_refused, compared}
use Rattle.reduction.proofs.same.Goals as goal
use Rattle.reduction.proofs.same.Goals.{In_ok-map_err, In_ok-map_err-2}

-- the first file is accepted, then the second
first_accepted : (c : In_ok-map_err) → Accepted c.args.first.now
first_accepted c =
    file_accepted c.args.first.now _ (omega arith) _
    (subst (ParentsAnswers c.args.first.now _) (mapped_ok _ _ c.map_err.result _ c.map_err.ensures.cases c.in_ok-map_err.was) c.parents.ensures.parents_answers)

second_accepted : (c : In_ok-map_err-2) → Accepted c.args.second.now
second_accepted c =
    file_accepted c.args.second.now _ (omega arith) _
    (subst (ParentsAnswers c.args.second.now _) (mapped_ok _ _ c.map_err-2.result _ c.map_err-2.ensures.cases c.in_ok-map_err-2.was) c.parents-2.ensures.parents_answers)

pub returns-in_err-map_err : goal.returns-in_err-map_err
returns-in_err-map_err c =
    let p = err_from_is_err_and c.from_residual.result c.from_residual.ensures.1 in
    let e = mapped_err _ c.parents.result c.map_err.result c.in_err-map_err.field-0.0 c.map_err.ensures.cases c.in_err-map_err.was in
    rw (p.1, p.2, e.made)
    (first_refused c.args.first.now c.args.second.now e.refusal
    (file_refused c.args.first.now _ (omega arith) e.refusal (subst (ParentsAnswers c.args.first.now _) e.was c.parents.ensures.parents_answers)))

pub returns-in_err-map_err-2 : goal.returns-in_err-map_err-2
returns-in_err-map_err-2 c =
    let exit = c.from_residual-in_err-map_err-2 in
    let p = err_from_is_err_and exit.result exit.ensures.1 in
    let e = mapped_err _ c.parents-2.result c.map_err-2.result c.in_err-map_err-2.field-0.0 c.map_err-2.ensures.cases c.in_err-map_err-2.was in
    rw (p.1, p.2, e.made)
    (second_refused c.args.first.now c.args.second.now (first_accepted (goal.at.returns-in_err-map_err-2 c).In_ok-map_err) e.refusal
    (file_refused c.args.second.now _ (omega arith) e.refusal (subst (ParentsAnswers c.args.second.now _) e.was c.parents-2.ensures.parents_answers)))

pub same_reduced-requires : goal.same_reduced-requires
same_reduced-requires c =
    let at = goal.at.same_reduced-requires c in
    record {
      first_parented = parents_there c.args.first.now _ (omega arith) c.parents.new.out (first_accepted at.In_ok-map_err) c.parents.ensures.parents_writes;
      second_parented = parents_there c.args.second.now _ (omega arith) c.parents-2.new.out (second_accepted at.In_ok-map_err-2) c.parents-2.ensures.parents_writes;
    }

pub returns : goal.returns
returns c =
    let at = goal.at.returns c in
    compared c.args.first.now c.args.second.now (first_accepted at.In_ok-map_err) (second_accepted at.In_ok-map_err-2) c.same_reduced.result c.same_reduced.ensures
