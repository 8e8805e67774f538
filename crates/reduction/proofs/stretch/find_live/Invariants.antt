-- The loop has passed the regions before k: what is dead in those is marked.
use Rattle.reader.specs.Family.{family_of}
use Rattle.reduction.proofs.Stretching.DeadPeptides.{Swept}
use Rattle.reduction.proofs.stretch.find_live.Given as goal

abbrev pub invariant-loop-k : goal.invariant-loop-k
invariant-loop-k l = Swept (family_of l.file) l.k l.until l.live
