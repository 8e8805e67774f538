-- The loop has painted the first k regions and counted the peptides up to the leaf passed, from which on the other regions begin.
use Prim.Native.Nat.{ℕ, ◌<◌, ◌≤◌}
use mathlib.Core.Path.{◌≡◌}
use lib.ListN.{length}
use Rattle.reader.specs.Family.{family_of, region, region_count, peptides_up_to}
use Rattle.pvalues.specs.Private.Climbing.{left_of_each, z_of_each, LastOfFirst, SizesOfFirst}
use Rattle.pvalues.proofs.innermost.fill_innermost.Given as goal

abbrev pub invariant-loop-k : goal.invariant-loop-k
invariant-loop-k l = (length l.regions ≡ 8191)
    × (l.low ≡ peptides_up_to (family_of l.file) l.passed)
    × ((j : ℕ) → l.k ≤ j → j < region_count (family_of l.file) → l.passed < (region (family_of l.file) j).first)
    × LastOfFirst (family_of l.file) l.k l.innermost
    × SizesOfFirst (family_of l.file) l.k (left_of_each l.regions)
    × SizesOfFirst (family_of l.file) l.k (z_of_each l.regions)
