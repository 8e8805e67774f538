-- The loop has counted the leaves that end after the first peptide and up to p.
use Rattle.std.proofs.Common.{◌≡◌, ◌+◌}
use Rattle.bounds.specs.Ranges.{card}
use Rattle.reduction.specs.Private.Writing.{marked_in}
use Rattle.reduction.proofs.write.borders_between.Given as goal

abbrev pub invariant-loop-p : goal.invariant-loop-p
invariant-loop-p l = l.count + card l.after (marked_in l.borders) ≡ card l.p (marked_in l.borders)
