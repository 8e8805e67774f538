-- The loop has found the first live peptide from each of p + 1 to m + 1 on.
use Rattle.bounds.specs.Selections.{selected}
use Rattle.reduction.proofs.Stretching.NearestLive.{Nearing}
use Rattle.reduction.proofs.stretch.fill_after.Given as goal

abbrev pub invariant-loop-p : goal.invariant-loop-p
invariant-loop-p l = Nearing l.m (selected l.live) l.p l.next l.after
