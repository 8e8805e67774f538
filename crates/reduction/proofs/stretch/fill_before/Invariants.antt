-- The loop has found the last live peptide up to each of 0 to p.
use Rattle.bounds.specs.Selections.{selected}
use Rattle.reduction.proofs.Stretching.NearestLive.{Passing}
use Rattle.reduction.proofs.stretch.fill_before.Given as goal

abbrev pub invariant-loop-p : goal.invariant-loop-p
invariant-loop-p l = Passing (selected l.live) l.p l.last l.before
