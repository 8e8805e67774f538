-- The causes of the file, then the room, then the reduced file.
use native.Mathlib.Omega.{arith}
use Rattle.reader.specs.Causes.{Accepted}
use Rattle.reader.proofs.Refusals.{handed_on}
use Rattle.reduction.proofs.Calls.ReduceCalls.{file_accepted, file_refused, parents_there, reduce_refused, reduce_short, reduce_written}
use Rattle.reduction.proofs.reduce.Goals as goal
use Rattle.reduction.proofs.reduce.Goals.{In_ok-parents}

accepted : (c : In_ok-parents) → Accepted c.args.file.now
accepted c = file_accepted c.args.file.now _ (omega arith) _ c.in_ok-parents.ensures.parents_answers

pub returns-in_err-parents : goal.returns-in_err-parents
returns-in_err-parents c =
    let refusal = c.in_err-parents.field-0.0 in
    let r = reduce_refused c.args.file.now c.args.out.now refusal (file_refused c.args.file.now _ (omega arith) refusal c.in_err-parents.ensures.parents_answers) in
    rw (handed_on c.from_residual.result refusal c.from_residual.ensures.1) (record { reduce_answers = r.0; reduce_writes = r.1 })

pub returns-then-out-file : goal.returns-then-out-file
returns-then-out-file c =
    let r = reduce_short c.args.file.now c.args.out.now (accepted (goal.at.returns-then-out-file c).In_ok-parents) c.if-out-file.true in
    record { reduce_answers = r.0; reduce_writes = r.1 }

pub reduce_accepted-requires : goal.reduce_accepted-requires
reduce_accepted-requires c =
    record { parented = parents_there c.args.file.now _ (omega arith) c.parents.new.out (accepted (goal.at.reduce_accepted-requires c).In_ok-parents) c.in_ok-parents.ensures.parents_writes; file_in_bounds = c.if-out-file.false }

pub returns : goal.returns
returns c =
    let call = c.reduce_accepted in
    let r = reduce_written c.args.file.now c.args.out.now (accepted (goal.at.returns c).In_ok-parents) c.if-out-file.false call.new.out call.result call.ensures in
    record { reduce_answers = r.0; reduce_writes = r.1 }
