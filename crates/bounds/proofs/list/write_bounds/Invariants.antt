-- The bounds of the selections so far are written.
use Prim.Native.Nat.{ℕ}
use mathlib.Core.List.{List, ◌++◌}
use mathlib.Core.Path.{◌≡◌}
use lib.ListN.{length, drop}
use Rattle.reader.specs.Lists.{tabulate}
use Rattle.reader.specs.Family.{Family, family_of}
use Rattle.bounds.specs.Selections.{bound_of}
use Rattle.bounds.specs.SelectionLists.{selection_at}
use Rattle.bounds.proofs.list.write_bounds.Given as goal

-- the bound of selection i
abbrev pub bound_at : Family → List ℕ → ℕ → ℕ
bound_at F selections i = bound_of F (selection_at F.peptides selections i)

abbrev pub invariant-loop-i : goal.invariant-loop-i
invariant-loop-i l = record {
  room : length l.totals ≡ 8191;
  written : l.values ≡ tabulate l.i (bound_at (family_of l.file) l.selections) ++ drop l.i l.initial.values;
}
