-- Where no cause holds, the bound and the taken bytes are those that are owed.
use native.Mathlib.Omega.{arith}
use mathlib.Core.Path.{◌≡◌, sym}
use lib.ListN.{length}
use Rattle.reader.specs.Family.{family_of}
use Rattle.reader.specs.Causes.{first_cause}
use Rattle.reader.proofs.Refusals.{handed_on, unwritten}
use Rattle.bounds.specs.Calls.{causes_with_room}
use Rattle.bounds.proofs.Summing.TakenBytes.{taken_length}
use Rattle.bounds.proofs.Calls.SelectionCalls.{none_holds, none_ready, refuses, gives_bound, writes_all}
use Rattle.bounds.proofs.bound.Goals as goal
use Rattle.bounds.proofs.bound.Goals.{In_ok-check_bound}

clear : (c : In_ok-check_bound) → first_cause (causes_with_room c.args.file.now c.args.selection.now (length c.args.taken.now)) ≡ 0
clear c = sym c.in_ok-check_bound.ensures

pub returns-in_err-check_bound : goal.returns-in_err-check_bound
returns-in_err-check_bound c =
    let refusal = c.in_err-check_bound.field-0.0 in
    let first = c.in_err-check_bound.ensures in
    rw (handed_on c.from_residual.result refusal c.from_residual.ensures.1)
    (record { bound_answers = refuses _ _ _ refusal _ first; taken_writes = unwritten refusal _ first _ _ })

pub write_bound-requires : goal.write_bound-requires
write_bound-requires c =
    let k = clear (goal.at.write_bound-requires c).In_ok-check_bound in
    record { ready = none_ready c.args.file.now _ _ (λ i. omega (arith, c.type_inv.file i)) k; room = (none_holds _ _ _ k).room }

pub returns : goal.returns
returns c =
    let s = c.args.file.now in
    let h = clear (goal.at.returns c).In_ok-check_bound in
    let S = c.args.selection.now in
    record { bound_answers = gives_bound s S _ _ h c.write_bound.ensures.value; taken_writes = writes_all s S c.args.taken.now _ _ h (taken_length (family_of s) S) c.write_bound.ensures.taken_after }
