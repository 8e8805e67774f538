-- The loop has written the levels of the first k regions; behind them the parents still stand.
use Prim.Native.Nat.{ℕ, ◌≤◌}
use mathlib.Core.Path.{◌≡◌}
use lib.ListN.{get_or}
use Rattle.reader.specs.Family.{family_of, region_count}
use Rattle.levels.specs.Private.Leveling.{LevelsBelow}
use Rattle.levels.proofs.leveling.fill_levels.Given as goal

abbrev pub invariant-loop-k : goal.invariant-loop-k
invariant-loop-k l = (l.k-end ≡ region_count (family_of l.file)) × LevelsBelow (family_of l.file) l.levels l.k × ((i : ℕ) → l.k ≤ i → get_or l.levels i 0 ≡ get_or l.initial.levels i 0)
