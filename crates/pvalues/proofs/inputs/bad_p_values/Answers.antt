use native.Mathlib.Omega.{arith}
use mathlib.Core.Path.{◌∙◌}
use Rattle.pvalues.proofs.Judging.{values_none, values_more, values_all}
use Rattle.pvalues.proofs.inputs.bad_p_values.Goals as goal

pub loop-p-init : goal.loop-p-init
loop-p-init c =
    values_none c.args.p_values.now

pub loop-p-preserved : goal.loop-p-preserved
loop-p-preserved c =
    values_more c.args.p_values.now c.loop-p.p-index _ _ c.loop-p.invariant c.over_one-bad.ensures

pub returns : goal.returns
returns c =
    c.loop-p.invariant ∙ values_all c.args.p_values.now c.loop-p.p-index (omega arith)
