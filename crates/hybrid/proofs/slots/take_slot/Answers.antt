-- Slot 0 is never taken, and the number before a taken slot goes into it.
use Prim.Native.Nat.{◌-◌, ◌<◌}
use native.Mathlib.Omega.{arith}
use mathlib.Core.Path.{◌∙◌}
use borrow.Author.Tests.{ne_eqb}
use Rattle.hybrid.proofs.SlotLaws.{written_taken, written_others, written_kept}
use Rattle.hybrid.proofs.slots.take_slot.Goals as goal

pub returns-then-slot-eq0 : goal.returns-then-slot-eq0
returns-then-slot-eq0 c =
    let searched = c.last_free-slot.ensures in
    record {
      kept = searched.kept;
      slot = c.last_free-slot.result;
      found = searched.found;
      others = λ q l other. searched.same q l;
      taken = λ some. absurd (omega (arith, c.if-slot-eq0.true));
      counted = rw c.if-slot-eq0.true;
    }

pub bounds-slots-slot : goal.bounds-slots-slot
bounds-slots-slot c =
    omega (arith, c.last_free-slot.ensures.found.most, c.requires.last_bound)

pub returns : goal.returns
returns c =
    let searched = c.last_free-slot.ensures in
    let slot = c.last_free-slot.result in
    let some : 0 < slot = omega (arith, c.if-slot-eq0.false) in
    let fits : slot < 4097 = omega (arith, searched.found.most, c.requires.last_bound) in
    let less : slot - 1 < slot = omega arith in
    record {
      kept = written_kept searched.kept slot (slot - 1) fits less (λ r low high. absurd (omega arith));
      slot = slot;
      found = searched.found;
      others = λ q l other. written_others searched.kept slot (slot - 1) fits less (λ r low high. absurd (omega arith)) q other ∙ searched.same q l;
      taken = λ s. written_taken searched.kept slot (slot - 1) fits less (λ r low high. absurd (omega arith));
      counted = rw (ne_eqb slot 0 c.if-slot-eq0.false);
    }
