-- The loop has added the lengths up to leaf j.
use mathlib.Core.Path.{◌≡◌}
use Rattle.reader.specs.Family.{family_of, peptides_up_to}
use Rattle.bounds.proofs.cursor.last_peptide.Given as goal

abbrev pub invariant-loop-j : goal.invariant-loop-j
invariant-loop-j l = l.p ≡ peptides_up_to (family_of l.file) l.j
