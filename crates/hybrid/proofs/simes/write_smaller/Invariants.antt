-- The entries up to the index are written, and the slots are those that the peptides before it have taken: as many as their Simes bound.
use Prim.Native.Nat.{◌+◌}
use mathlib.Core.List.{◌++◌}
use mathlib.Core.Path.{◌≡◌}
use lib.ListN.{take, drop}
use Rattle.reader.specs.Lists.{tabulate}
use Rattle.bounds.specs.Curves.{among}
use Rattle.hybrid.specs.Private.Simes.{Seated, smaller_at}
use Rattle.hybrid.proofs.simes.write_smaller.Given as goal

abbrev pub invariant-loop-t : goal.invariant-loop-t
invariant-loop-t l = Seated l.m l.p_values l.level (among (take l.t l.path)) l.slots l.bound
    × (l.values ≡ tabulate (l.t + 1) (smaller_at l.m l.p_values l.level l.path l.curve) ++ drop (l.t + 1) l.initial.values)
