-- The loop has added the lengths of the leaves after the first one named and up to leaf j.
use Prim.Native.Nat.{◌≤◌, ◌-◌, ◌*◌}
use mathlib.Core.Path.{◌≡◌}
use Rattle.reader.specs.Family.{family_of, peptides_up_to}
use Rattle.reader.proofs.family.added_lengths.Given as goal

abbrev pub invariant-loop-j : goal.invariant-loop-j
invariant-loop-j g l = (l.sum ≤ 65535 * l.j) × (l.sum ≡ peptides_up_to (family_of l.file) l.j - peptides_up_to (family_of l.file) l.after)
