use Prim.Native.Nat.{ℕ, ◌+◌, ◌-◌, ◌≤◌, min}
use native.Mathlib.Omega.{arith}
use mathlib.Core.List.{List}
use mathlib.Core.Path.{◌≡◌, sym, ap, ◌∙◌}
use lib.ListN.{length, get_or, take, set, replicate, length-set, length-replicate}
use lib.Seq.{drop-set-lt}
use Rattle.reader.proofs.Lists.{write_first, write_more}
use Rattle.sorting.proofs.Listed.{listed_length, listed_at}
use Rattle.bounds.specs.Curves.{among}
use Rattle.bounds.proofs.Basics.Members.{bit}
use Rattle.bounds.proofs.Calls.PathLaws.{accepted_path, path_most}
use Rattle.hybrid.specs.Private.Simes.{Seated, smaller_at}
use Rattle.hybrid.proofs.Theory.Slots.{last_counted_most, seated_starts, seated_steps, seated_most, seated_is}
use Rattle.hybrid.proofs.simes.write_smaller.Goals as goal
use Rattle.hybrid.proofs.simes.write_smaller.Goals.{After-take_slot, In-loop-t, then-take_slot, else-take_slot}

-- the peptide at a place is one of 1 to m
on_line : (c : In-loop-t) → (1 ≤ get_or c.args.path.now c.loop-t.t 0) × (get_or c.args.path.now c.loop-t.t 0 ≤ c.args.m)
on_line c =
    let is = accepted_path _ _ c.requires.simes_inputs.is_path in
    (is.some c.loop-t.t (omega arith), is.most c.loop-t.t (omega arith))

pub loop-t-init : goal.loop-t-init
loop-t-init c =
    let a = c.args in
    let i = c.requires.simes_inputs in
    let listed = c.list_numbers.ensures in
    let seated : Seated a.m a.p_values.now a.level (among (take 0 a.path.now)) c.list_numbers.new.out 0 =
    seated_starts a.m a.path.now a.p_values.now a.level _ i.few (ap length listed ∙ listed_length 4097 (replicate 4097 0) ∙ length-replicate {A = ℕ} 4097 0)
    (λ k l. ap (λ (L : List ℕ). get_or L k 0) listed ∙ listed_at 4097 (replicate 4097 0) (omega (arith, length-replicate {A = ℕ} 4097 0)) k l) in (
      seated,
      write_first (smaller_at a.m a.p_values.now a.level a.path.now a.curve.now) a.values.now 0 (omega (arith, c.requires.room)) (omega (arith, seated_is i 0 (omega arith) _ 0 seated)),
    )

pub overflow_sub-p : goal.overflow_sub-p
overflow_sub-p c =
    (on_line (goal.at.overflow_sub-p c).In-loop-t).0

pub bounds-p_values-peptide : goal.bounds-p_values-peptide
bounds-p_values-peptide c =
    omega (arith, on_line (goal.at.bounds-p_values-peptide c).In-loop-t, c.requires.simes_inputs.values)

pub take_slot-requires-clause-last_bound : goal.take_slot-requires-clause-last_bound
take_slot-requires-clause-last_bound c =
    omega (arith, c.last_counted.ensures, last_counted_most c.args.m c.args.level (get_or c.args.p_values.now (get_or c.args.path.now c.loop-t.t 0 - 1) 0), c.requires.simes_inputs.few)

-- the peptide has taken its slot
stepped : (c : After-take_slot)
    → Seated c.args.m c.args.p_values.now c.args.level (among (take (c.loop-t.t + 1) c.args.path.now)) c.take_slot.new.slots (c.loop-t.bound + bit c.take_slot.result)
stepped c = seated_steps c.requires.simes_inputs c.loop-t.t (omega arith) _ _ _ _ c.loop-t.invariant.0 (rw c.last_counted.ensures at c.take_slot.ensures)

pub overflow_add-bound : goal.overflow_add-bound
overflow_add-bound c =
    let most = seated_most (rw c.if-take_slot.true at (stepped (goal.at.overflow_add-bound c).After-take_slot)) in
    record { fits = omega (arith, most, c.requires.simes_inputs.few) }

pub bounds-curve-t : goal.bounds-curve-t
bounds-curve-t c =
    omega (arith, path_most _ _ c.requires.simes_inputs.is_path, c.requires.simes_inputs.few)

pub loop-t-preserved : goal.loop-t-preserved
loop-t-preserved c =
    let a = c.args in
    let i = c.requires.simes_inputs in
    let inv = c.loop-t.invariant in
    let t = c.loop-t.t in
    let smaller = c.min in
    let step = stepped (goal.at.loop-t-preserved c).After-take_slot in
    let grown : c.if-take_slot.bound ≡ c.loop-t.bound + bit c.take_slot.result =
    elim c.if-take_slot.branch [ then-take_slot w ↦ w.bound-is ∙ rw w.if-take_slot.true | else-take_slot w ↦ w.bound-is ∙ rw w.if-take_slot.false (omega arith) ] in
    let seated = rw (sym grown) at step in
    let e : smaller.result ≡ smaller_at a.m a.p_values.now a.level a.path.now a.curve.now (t + 1) =
    smaller.ensures ∙ ap (min (get_or a.curve.now (t + 1) 0)) (seated_is i (t + 1) (omega arith) _ _ seated) in (
      seated,
      ap (λ (l : List ℕ). set l (t + 1) smaller.result) inv.1
          ∙ write_more (smaller_at a.m a.p_values.now a.level a.path.now a.curve.now) (set a.values.now 0 0) (t + 1) smaller.result (simp length-set (omega (arith, c.requires.room))) e,
    )

pub returns : goal.returns
returns c =
    let a = c.args in
    let end : c.loop-t.t ≡ length a.path.now = omega arith in
    (rw end at c.loop-t.invariant.1) ∙ rw (drop-set-lt (length a.path.now + 1) a.values.now 0 0 (omega arith))
