use Prim.Native.Nat.{◌-◌}
use native.Mathlib.Omega.{arith}
use mathlib.Core.Path.{sym, ◌∙◌}
use Rattle.reduction.proofs.Stretching.NearestLive.{nearing_steps, live_next, dead_next}
use Rattle.reduction.proofs.stretch.fill_after.Goals as goal
use Rattle.reduction.proofs.stretch.fill_after.Goals.{then-live-p-eq1, else-live-p-eq1}

pub loop-p-preserved : goal.loop-p-preserved
loop-p-preserved c =
    nearing_steps _ _ (c.loop-p.p - 1) c.loop-p.p _ _ c.loop-p.after (omega arith) (omega arith)
    (elim c.if-live-p-eq1.branch [
      | then-live-p-eq1 w ↦ w.next-is ∙ sym (live_next c.args.live.now (c.loop-p.p - 1) _ w.if-live-p-eq1.true)
      | else-live-p-eq1 w ↦ w.next-is ∙ sym (dead_next c.args.live.now (c.loop-p.p - 1) _ w.if-live-p-eq1.false)
    ])
    c.loop-p.invariant
