use Rattle.std.proofs.Common.{◌≡◌, ℕ, false, subst, arith}
use Rattle.bounds.specs.Selections.{selected}
use Rattle.reduction.proofs.Keeping.HandedOn.{begins_dead}
use Rattle.reduction.proofs.keep.run_end.Goals as goal

pub loop-last-init : goal.loop-last-init
loop-last-init c q l u =
    subst (λ (i : ℕ). selected c.args.live.now i ≡ false) (omega arith) (begins_dead (selected c.args.live.now) c.args.first.0 c.requires.first_value)
