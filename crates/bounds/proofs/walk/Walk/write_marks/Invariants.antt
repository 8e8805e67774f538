-- The walk has come to place t: the marks before it are written, and the regions can take what is left of their z.
use Prim.Native.Nat.{◌+◌}
use mathlib.Core.List.{◌++◌}
use mathlib.Core.Path.{◌≡◌}
use lib.ListN.{take, drop}
use Rattle.reader.specs.Lists.{tabulate}
use Rattle.reader.specs.Family.{family_of}
use Rattle.bounds.specs.Ranges.{ranges_of}
use Rattle.bounds.specs.Curves.{mark_at}
use Rattle.bounds.proofs.Basics.Counting.{none}
use Rattle.bounds.proofs.Theory.Greedy.{greedy}
use Rattle.bounds.proofs.Walking.Steps.{SpareFor}
use Rattle.bounds.proofs.walk.Walk.write_marks.Given as goal

abbrev pub invariant-loop-t : goal.invariant-loop-t
invariant-loop-t l = record {
  marks : l.marks ≡ tabulate l.t (λ i. mark_at (family_of l.self.file.now) l.self.path.now (i + 1)) ++ drop l.t l.initial.marks;
  spare : SpareFor (family_of l.self.file.now) (greedy (family_of l.self.file.now).peptides (ranges_of (family_of l.self.file.now)) none (take l.t l.self.path.now)) l.spare;
}
