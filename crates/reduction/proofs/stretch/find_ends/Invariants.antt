-- The loop has passed some leaves: the regions that begin there have begun, and those that end there have ended.
use Prim.Native.Nat.{◌+◌}
use mathlib.Core.Path.{◌≡◌}
use Rattle.reader.specs.Family.{family_of, peptides_up_to}
use Rattle.reduction.specs.Private.Passes.{Begun, Open}
use Rattle.reduction.proofs.stretch.find_ends.Given as goal

abbrev pub invariant-loop-passed : goal.invariant-loop-passed
invariant-loop-passed l = record {
  sums : l.peptide ≡ peptides_up_to (family_of l.file) l.passed;
  begun : Begun (family_of l.file) l.passed l.begun l.lows;
  opened : Open (family_of l.file) l.passed (l.passed + 1) l.highs l.inner;
}
