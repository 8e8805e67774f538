-- The room and the p-values are tried first, the constant last.
use mathlib.Core.Bool.{cond}
use mathlib.Core.Path.{◌≡◌, sym}
use borrow.Author.Tests.{lt-ltb, le-ltb}
use Rattle.reader.specs.Causes.{first_cause}
use Rattle.reader.proofs.Refusals.{hands_on, first_of}
use Rattle.pvalues.specs.FromP.{cause22}
use Rattle.pvalues.specs.Calls.{from_p_inputs}
use Rattle.pvalues.proofs.Judging.{last_judged}
use Rattle.pvalues.proofs.inputs.check_inputs.Goals as goal
use Rattle.pvalues.proofs.inputs.check_inputs.Goals.{In_ok-check_room_and_p_values}

pub returns-in_err-check_room_and_p_values : goal.returns-in_err-check_room_and_p_values
unfolding from_p_inputs
returns-in_err-check_room_and_p_values c =
    let refusal = c.in_err-check_room_and_p_values.field-0.0 in
    hands_on c.from_residual.result refusal _ c.from_residual.ensures.1 (first_of refusal _ c.in_err-check_room_and_p_values.ensures _)

-- the constant is judged where nothing before it holds
constant : (c : In_ok-check_room_and_p_values)
    → cond (cause22 c.args.deviation_squared) 22 0
    ≡ first_cause (from_p_inputs c.args.file.now c.args.p_values.now c.args.deviation_squared c.args.room)
unfolding from_p_inputs
constant c = last_judged _ _ _ _ (sym c.in_ok-check_room_and_p_values.ensures)

pub returns-then-deviation_squared-gt100000000 : goal.returns-then-deviation_squared-gt100000000
unfolding cause22
returns-then-deviation_squared-gt100000000 c =
    rw (lt-ltb _ _ c.if-deviation_squared-gt100000000.true) at (constant (goal.at.returns-then-deviation_squared-gt100000000 c).In_ok-check_room_and_p_values)

pub returns : goal.returns
unfolding cause22
returns c =
    rw (le-ltb _ _ c.if-deviation_squared-gt100000000.false) at (constant (goal.at.returns c).In_ok-check_room_and_p_values)
