use Prim.Native.Nat.{ℕ, suc}
use native.Mathlib.Omega.{arith}
use mathlib.Core.List.{List}
use mathlib.Core.Path.{◌≡◌, refl, ap}
use lib.ListN.{get_or}
use lib.Dec.{eqb}
use borrow.Author.Tests.{eq-eqb, ne_eqb}
use Rattle.bounds.specs.Selections.{selected}
use Rattle.bounds.proofs.Basics.Counting.{card_next}
use Rattle.bounds.proofs.Basics.Members.{bit}
use Rattle.bounds.proofs.selection.selected_between.Goals as goal
use Rattle.bounds.proofs.selection.selected_between.Goals.{then-selection-i-eq1, else-selection-i-eq1}

-- the byte at place i is that of peptide i + 1
bit_here : (s : List ℕ) (i : ℕ) → selected s (suc i) ≡ eqb (get_or s i 0) 1
unfolding selected
bit_here s i = refl

pub loop-i-preserved : goal.loop-i-preserved
loop-i-preserved c =
    let s = c.args.selection.now in
    let i = c.loop-i.i in
    let next = card_next i (selected s) in
    let here = ap bit (bit_here s i) in
    elim c.if-selection-i-eq1.branch [
      | then-selection-i-eq1 w ↦ record { few = omega arith; counted = omega (arith, next, here, ap bit (eq-eqb _ 1 w.if-selection-i-eq1.true)) }
      | else-selection-i-eq1 w ↦ record { few = omega arith; counted = omega (arith, next, here, ap bit (ne_eqb _ 1 w.if-selection-i-eq1.false)) }
    ]
