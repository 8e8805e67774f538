-- The room and the p-values are tried first, the level last.
use mathlib.Core.Bool.{cond}
use mathlib.Core.Path.{◌≡◌, sym}
use Rattle.reader.specs.Causes.{first_cause}
use Rattle.reader.proofs.Refusals.{hands_on, first_of}
use Rattle.pvalues.proofs.Judging.{last_judged}
use Rattle.hybrid.specs.Calls.{hybrid_inputs}
use Rattle.hybrid.proofs.inputs.check_inputs.Goals as goal
use Rattle.hybrid.proofs.inputs.check_inputs.Goals.{After-bad_level}

pub returns-in_err-check_room_and_p_values : goal.returns-in_err-check_room_and_p_values
unfolding hybrid_inputs
returns-in_err-check_room_and_p_values c =
    let refusal = c.in_err-check_room_and_p_values.field-0.0 in
    hands_on c.from_residual.result refusal _ c.from_residual.ensures.1 (first_of refusal _ c.in_err-check_room_and_p_values.ensures _)

-- the level is judged where nothing before it holds
level : (c : After-bad_level)
    → cond c.bad_level.result 23 0
    ≡ first_cause (hybrid_inputs c.args.file.now c.args.path.now c.args.p_values.now c.args.level c.args.room)
unfolding hybrid_inputs
level c = rw c.bad_level.ensures (last_judged _ _ _ _ (sym c.in_ok-check_room_and_p_values.ensures))

pub returns-then-bad_level : goal.returns-then-bad_level
returns-then-bad_level c =
    rw c.if-bad_level.true at (level (goal.at.returns-then-bad_level c).After-bad_level)

pub returns : goal.returns
returns c =
    rw c.if-bad_level.false at (level (goal.at.returns c).After-bad_level)
