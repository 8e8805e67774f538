use native.Mathlib.Omega.{arith}
use mathlib.Core.Path.{sym, ◌∙◌}
use Rattle.reduction.proofs.Stretching.NearestLive.{passing_starts, passing_steps, live_next, dead_next}
use Rattle.reduction.proofs.stretch.fill_before.Goals as goal
use Rattle.reduction.proofs.stretch.fill_before.Goals.{then-live-p-eq1, else-live-p-eq1}

pub loop-p-init : goal.loop-p-init
loop-p-init c =
    passing_starts _ c.args.before.now (omega arith)

pub loop-p-preserved : goal.loop-p-preserved
loop-p-preserved c =
    passing_steps _ c.loop-p.p _ _ c.loop-p.before (omega arith)
    (elim c.if-live-p-eq1.branch [
      | then-live-p-eq1 w ↦ w.last-is ∙ sym (live_next c.args.live.now c.loop-p.p _ w.if-live-p-eq1.true)
      | else-live-p-eq1 w ↦ w.last-is ∙ sym (dead_next c.args.live.now c.loop-p.p _ w.if-live-p-eq1.false)
    ])
    c.loop-p.invariant
