-- The loop has written the levels of the first i regions of the order.
use Prim.Native.Nat.{ℕ, ◌<◌}
use mathlib.Core.Path.{◌≡◌}
use lib.ListN.{get_or}
use Rattle.levels.proofs.placing.place_levels.Given as goal

abbrev pub invariant-loop-i : goal.invariant-loop-i
invariant-loop-i l = (q : ℕ) → q < l.i → get_or l.placed (get_or l.order q 0) 0 ≡ get_or l.levels q 0
