-- The loop has written the bytes of the first k regions.
use mathlib.Core.List.{◌++◌}
use mathlib.Core.Path.{◌≡◌}
use lib.ListN.{take, drop}
use Rattle.reader.specs.Family.{family_of}
use Rattle.bounds.specs.Private.Takes.{taken_until, taken_along}
use Rattle.bounds.proofs.taking.write_taken.Given as goal

abbrev pub invariant-loop-k : goal.invariant-loop-k
invariant-loop-k l = record {
  until : l.until.0 ≡ taken_until (family_of l.file) l.totals l.k;
  taken : l.taken ≡ take l.k (taken_along (family_of l.file) l.totals) ++ drop l.k l.initial.taken;
}
