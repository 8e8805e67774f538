-- No slot above the one reached is free, up to where the search began; the free slots are those at the start.
use Prim.Native.Nat.{ℕ, ◌<◌, ◌≤◌}
use mathlib.Core.Bool.{false}
use mathlib.Core.Path.{◌≡◌}
use lib.ListN.{get_or}
use Rattle.hybrid.specs.Private.Simes.{is_free, Slots}
use Rattle.hybrid.proofs.slots.last_free.Given as goal

abbrev pub invariant-loop-below : goal.invariant-loop-below
invariant-loop-below l = Slots l.slots
    × (l.slot ≤ l.last)
    × (l.below ≡ get_or l.slots l.slot 0)
    × (l.below ≤ l.slot)
    × ((q : ℕ) → q < 4097 → is_free l.slots q ≡ is_free l.initial.slots q)
    × ((q : ℕ) → l.slot < q → q ≤ l.last → is_free l.initial.slots q ≡ false)

abbrev pub decreases-loop-below : goal.decreases-loop-below
decreases-loop-below l = l.slot
