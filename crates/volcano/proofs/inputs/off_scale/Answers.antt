-- Both ways of the comparison with 0.
use Rattle.volcano.proofs.Floats.{scale_is}
use Rattle.volcano.proofs.inputs.off_scale.Goals as goal
use Rattle.volcano.proofs.inputs.off_scale.Goals.{then-p, else-p}

pub returns : goal.returns
returns c =
    elim c.if-p.branch [
      | then-p w ↦ rw w.result-is (rw w.if-p.true at (scale_is c.args.p))
      | else-p w ↦ rw (w.result-is, w.if-p.false) (rw w.if-p.false at (scale_is c.args.p))
    ]
