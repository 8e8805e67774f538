use Prim.Native.Nat.{◌<◌}
use native.Mathlib.Omega.{arith}
use mathlib.Core.Path.{◌≡◌, refl, sym, ◌∙◌}
use lib.ListN.{get_or}
use Rattle.hybrid.proofs.SlotLaws.{free_here, further_less, shorter_kept, shorter_same, shorter_none}
use borrow.Author.Rules.{rules}
use Rattle.hybrid.proofs.slots.last_free.Goals as goal
use Rattle.hybrid.proofs.slots.last_free.Goals.{In-loop-below}

-- the slot is one of them, and taken
fits : (c : In-loop-below) → c.loop-below.slot < 4097
fits c = omega (arith, c.loop-below.invariant.1, c.requires.last_bound)

taken : (c : In-loop-below) → get_or c.loop-below.slots c.loop-below.slot 0 ≡ c.loop-below.slot → ⊥
taken c e = c.loop-below-test.true (c.loop-below.invariant.2 ∙ e)

less : (c : In-loop-below) → get_or c.loop-below.slots c.loop-below.below 0 < c.loop-below.slot
less c = rw c.loop-below.invariant.2 (further_less c.loop-below.invariant.0 c.loop-below.slot (fits c) (taken c))

pub loop-below-init : goal.loop-below-init
loop-below-init c =
    let kept = c.requires.slots in
    (kept, omega arith, refl, kept.falling c.args.last, λ q l. refl, λ q low high. absurd (omega arith))

pub overflow_cast-below-in-loop-below : goal.overflow_cast-below-in-loop-below
overflow_cast-below-in-loop-below c =
    search (rules, less (goal.at.overflow_cast-below-in-loop-below c).In-loop-below, fits (goal.at.overflow_cast-below-in-loop-below c).In-loop-below)

pub offset_bounds-slots-slot-in-loop-below-2 : goal.offset_bounds-slots-slot-in-loop-below-2
offset_bounds-slots-slot-in-loop-below-2 c =
    search (rules, less (goal.at.offset_bounds-slots-slot-in-loop-below-2 c).In-loop-below, fits (goal.at.offset_bounds-slots-slot-in-loop-below-2 c).In-loop-below)

pub bounds-slots-slot-in-loop-below-2 : goal.bounds-slots-slot-in-loop-below-2
bounds-slots-slot-in-loop-below-2 c =
    search (rules, less (goal.at.bounds-slots-slot-in-loop-below-2 c).In-loop-below, fits (goal.at.bounds-slots-slot-in-loop-below-2 c).In-loop-below)

pub loop-below-smaller : goal.loop-below-smaller
loop-below-smaller c =
    less (goal.at.loop-below-smaller c).In-loop-below

pub loop-below-preserved : goal.loop-below-preserved
loop-below-preserved c =
    let at = (goal.at.loop-below-preserved c).In-loop-below in
    let inv = c.loop-below.invariant in
    let slot = c.loop-below.slot in
    rw inv.2 (
      shorter_kept inv.0 slot (fits at) (taken at),
      omega (arith, further_less inv.0 slot (fits at) (taken at), inv.1),
      refl,
      (shorter_kept inv.0 slot (fits at) (taken at)).falling _,
      λ q l. shorter_same inv.0 slot (fits at) (taken at) q ∙ inv.4 q l,
      shorter_none inv.0 slot (fits at) (taken at) _ _ inv.4 inv.5,
    )

pub returns : goal.returns
returns c =
    let inv = c.loop-below.invariant in
    let slot = c.loop-below.slot in
    record {
      kept = inv.0;
      same = inv.4;
      found =
          record {
            most = inv.1;
            free = sym (inv.4 slot (omega (arith, inv.1, c.requires.last_bound))) ∙ free_here c.loop-below.slots slot (sym inv.2 ∙ c.loop-below-test.false);
            above = inv.5;
          };
    }
