-- By the tests, in the order of the numbers.
use Prim.Native.Nat.{◌+◌}
use native.Mathlib.Omega.{arith}
use mathlib.Core.Bool.{true, false}
use mathlib.Core.Path.{◌≡◌, sym, ◌∙◌}
use borrow.Author.Tests.{lt-ltb, le-ltb}
use Rattle.bounds.specs.SelectionLists.{list_cause14}
use Rattle.bounds.specs.Tally.{charge_of}
use Rattle.bounds.proofs.Calls.ListCalls.{inputs_judged}
use Rattle.bounds.proofs.list.check_inputs.Goals as goal
use Rattle.bounds.proofs.list.check_inputs.Goals.{Else-bad_selection}

pub returns-then-bad_selection : goal.returns-then-bad_selection
returns-then-bad_selection c =
    let a = c.args in
    let e14 : list_cause14 a.sizes.peptides a.selections.now a.count ≡ true = sym c.bad_selection.ensures ∙ c.if-bad_selection.true in
    sym (inputs_judged a.sizes.peptides a.sizes.regions a.selections.now a.count a.tally a.room ∙ rw e14)

-- the bytes are right
right : (c : Else-bad_selection) → list_cause14 c.args.sizes.peptides c.args.selections.now c.args.count ≡ false
right c = sym c.bad_selection.ensures ∙ c.if-bad_selection.false

pub returns-then-room-count : goal.returns-then-room-count
returns-then-room-count c =
    let a = c.args in
    sym (inputs_judged a.sizes.peptides a.sizes.regions a.selections.now a.count a.tally a.room
    ∙ rw (right (goal.at.returns-then-room-count c).Else-bad_selection, lt-ltb a.room a.count c.if-room-count.true))

pub returns-then-count-gt32 : goal.returns-then-count-gt32
returns-then-count-gt32 c =
    let a = c.args in
    sym (inputs_judged a.sizes.peptides a.sizes.regions a.selections.now a.count a.tally a.room
    ∙ rw (right (goal.at.returns-then-count-gt32 c).Else-bad_selection, le-ltb a.room a.count c.if-room-count.false, lt-ltb 32 a.count c.if-count-gt32.true))

pub returns-then-tally-charge : goal.returns-then-tally-charge
returns-then-tally-charge c =
    let a = c.args in
    let over = lt-ltb 4294967295 (a.tally + charge_of a.sizes.regions a.count) (omega (arith, c.if-tally-charge.true, c.charge_of-charge.ensures)) in
    sym (inputs_judged a.sizes.peptides a.sizes.regions a.selections.now a.count a.tally a.room
    ∙ rw (right (goal.at.returns-then-tally-charge c).Else-bad_selection, le-ltb a.room a.count c.if-room-count.false, le-ltb 32 a.count c.if-count-gt32.false, over))

pub returns : goal.returns
returns c =
    let a = c.args in
    let within = le-ltb 4294967295 (a.tally + charge_of a.sizes.regions a.count) (omega (arith, c.if-tally-charge.false, c.charge_of-charge.ensures)) in
    sym (inputs_judged a.sizes.peptides a.sizes.regions a.selections.now a.count a.tally a.room
    ∙ rw (right (goal.at.returns c).Else-bad_selection, le-ltb a.room a.count c.if-room-count.false, le-ltb 32 a.count c.if-count-gt32.false, within))
