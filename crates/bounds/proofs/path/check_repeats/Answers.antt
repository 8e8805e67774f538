use Prim.Native.Nat.{◌+◌, ◌≤◌, ◌<◌}
use native.Mathlib.Omega.{arith}
use native.Mathlib.Nat.{eq-or-lt_of_le}
use mathlib.Core.Bool.{false}
use mathlib.Core.Logic.{⊎_elim}
use mathlib.Core.Path.{◌≡◌, refl, sym, ap, ◌∙◌}
use lib.ListN.{get_or, length-set, length-replicate, replicate, get_or-replicate}
use Rattle.reader.specs.declared.refusal.Refusal.TheVariants.{Repeated}
use Rattle.bounds.specs.Curves.{first_repeat}
use Rattle.bounds.proofs.Calls.PathLaws.{seen_none, seen_more, repeated_seen, repeat_at_lem, repeat_none, repeat_holds}
use Rattle.bounds.proofs.path.check_repeats.Goals as goal
use Rattle.bounds.proofs.path.check_repeats.Goals.{In-loop-i}

-- the peptide has a place in the array
fits : (c : In-loop-i) → get_or c.args.path.now c.loop-i.i 0 < 4097
fits c = omega (arith, c.requires.numbers c.loop-i.i c.loop-i-test.true)

pub loop-i-init : goal.loop-i-init
loop-i-init c =
    record {
      whole = length-replicate 4097 false;
      found = seen_none c.args.path.now (replicate 4097 false) (λ q l. get_or-replicate 4097 q false false l);
      different = λ k l. absurd (omega arith);
    }

pub returns-then-seen-peptide : goal.returns-then-seen-peptide
returns-then-seen-peptide c =
    let path = c.args.path.now in
    let i = c.loop-i.i in
    let inv = c.loop-i.invariant in
    let here : i + 1 ≡ first_repeat path = repeat_at_lem path i c.loop-i-test.true (repeated_seen path i ∙ sym (inv.found (get_or path i 0) (fits (goal.at.returns-then-seen-peptide c).In-loop-i)) ∙ c.if-seen-peptide.true) inv.different in
    (repeat_holds path (λ z. omega arith), ap Repeated here)

pub loop-i-preserved : goal.loop-i-preserved
loop-i-preserved c =
    let path = c.args.path.now in
    let i = c.loop-i.i in
    let inv = c.loop-i.invariant in record {
      whole = simp length-set inv.whole;
      found = seen_more path c.loop-i.seen i (get_or path i 0) inv.whole inv.found refl (fits (goal.at.loop-i-preserved c).In-loop-i);
      different = λ k l.
          let u : k ≤ i = omega arith in
          ⊎_elim
          (λ e. rw e (repeated_seen path i ∙ sym (inv.found (get_or path i 0) (fits (goal.at.loop-i-preserved c).In-loop-i)) ∙ c.if-seen-peptide.false))
          (λ d. inv.different k d)
          (eq-or-lt_of_le u);
    }

pub returns : goal.returns
returns c =
    repeat_none c.args.path.now (λ k l. c.loop-i.invariant.different k (omega arith))
