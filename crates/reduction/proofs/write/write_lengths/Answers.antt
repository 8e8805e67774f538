use Rattle.std.proofs.Common.{◌≡◌, ◌+◌, ◌-◌, ◌≤◌, ℕ, Bool, true, false, List, [], ◌∷◌, get_or, refl, sym, ap, ◌∙◌, arith}
use Rattle.reader.specs.Bytes.{with_numbers}
use Rattle.bounds.specs.Ranges.{card}
use Rattle.bounds.proofs.Basics.Counting.{card_most}
use Rattle.reduction.specs.Reduction.{last_of}
use Rattle.reduction.specs.Private.Writing.{marked_in}
use Rattle.reduction.proofs.Basics.FirstLast.{last_of_small}
use Rattle.reduction.proofs.Writing.LeafEnds.{LeafEnds, leaf_ends, LeafGoesOn, leaf_goes_on, lengths_none, lengths_more}
use Rattle.reduction.proofs.write.write_lengths.Goals as goal
use Rattle.reduction.proofs.write.write_lengths.Goals.{then-borders-p, else-borders-p}

-- what follows where a leaf ends at p, and where none does
ending : (E : List Bool) (p : ℕ) → 1 ≤ p → get_or E p false ≡ true → LeafEnds (marked_in E) p
unfolding marked_in
ending E p h e = leaf_ends (marked_in E) p h e

going_on : (E : List Bool) (p : ℕ) → 1 ≤ p → get_or E p false ≡ false → LeafGoesOn (marked_in E) p
unfolding marked_in
going_on E p h e = leaf_goes_on (marked_in E) p h e

pub loop-p-init : goal.loop-p-init
unfolding last_of card
loop-p-init c = record { last = refl; at = refl; written = sym (lengths_none c.args.out.now (marked_in c.args.borders.now)) }

pub overflow_sub-p : goal.overflow_sub-p
overflow_sub-p c =
    omega (arith, c.loop-p.invariant.last, last_of_small (c.loop-p.p - 1) (marked_in c.args.borders.now))

pub overflow_add-at : goal.overflow_add-at
overflow_add-at c =
    omega (arith, c.loop-p.invariant.at, card_most (c.loop-p.p - 1) (marked_in c.args.borders.now))

pub loop-p-preserved : goal.loop-p-preserved
loop-p-preserved c =
    let X = marked_in c.args.borders.now in
    let p = c.loop-p.p in
    let inv = c.loop-p.invariant in
    let down : p + 1 - 1 ≡ p = omega arith in
    elim c.if-borders-p.branch [
      | then-borders-p w ↦
          let e = ending c.args.borders.now p (omega arith) w.if-borders-p.true in record {
            last = rw (down, w.last-is) (sym e.last);
            at = rw (down, w.at-is) (omega (arith, e.count, inv.at));
            written = rw (down, w.out-is) (
                w.put_number.ensures
                ∙ ap (λ (l : List ℕ). with_numbers l c.loop-p.at ((p - c.loop-p.last) ∷ [])) inv.written
                ∙ rw (inv.last, inv.at) (lengths_more X p c.args.out.now e));
          }
      | else-borders-p w ↦
          let e = going_on c.args.borders.now p (omega arith) w.if-borders-p.false in record {
            last = rw (down, w.last-is) (inv.last ∙ sym e.last);
            at = rw (down, w.at-is) (omega (arith, e.count, inv.at));
            written = rw (down, w.out-is) (inv.written ∙ ap (with_numbers c.args.out.now 16) (sym e.lengths));
          }
    ]

pub returns : goal.returns
returns c =
    let end : c.loop-p.p - 1 ≡ c.args.m = omega arith in
    rw end at c.loop-p.invariant.written
