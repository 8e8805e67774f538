-- Causes 16, 20 and 21 are tried in this order.
use Prim.Native.Nat.{ℕ, ◌≤◌}
use mathlib.Core.Bool.{false, cond}
use mathlib.Core.Path.{◌≡◌, sym, ◌∙◌}
use borrow.Author.Tests.{lt-ltb, le-ltb}
use Rattle.reader.specs.Family.{family_of}
use Rattle.reader.specs.Causes.{first_cause}
use Rattle.reader.specs.Calls.{short}
use Rattle.pvalues.specs.Calls.{room_and_p_values}
use Rattle.pvalues.proofs.Judging.{room_16, counted_20, judged_21}
use Rattle.pvalues.proofs.inputs.check_room_and_p_values.Goals as goal
use Rattle.pvalues.proofs.inputs.check_room_and_p_values.Goals.{After-bad_p_values}

-- there is room
enough : (needed room : ℕ) → needed ≤ room → short needed room ≡ false
unfolding short
enough needed room h = le-ltb _ _ h

pub returns-then-room-needed : goal.returns-then-room-needed
unfolding short
returns-then-room-needed c =
    room_16 _ _ _ (lt-ltb _ _ c.if-room-needed.true)

pub returns-then-p_values-peptide_count : goal.returns-then-p_values-peptide_count
returns-then-p_values-peptide_count c =
    counted_20 _ _ _ (enough _ _ c.if-room-needed.false) (λ e. c.if-p_values-peptide_count.true (e ∙ sym c.peptide_count.ensures))

judged : (c : After-bad_p_values)
    → cond c.bad_p_values.result 21 0
    ≡ first_cause (room_and_p_values (short c.args.needed c.args.room) (family_of c.args.file.now).peptides c.args.p_values.now)
judged c = rw c.bad_p_values.ensures (judged_21 _ _ _ (enough _ _ c.if-room-needed.false) (c.if-p_values-peptide_count.false ∙ c.peptide_count.ensures))

pub returns-then-bad_p_values : goal.returns-then-bad_p_values
returns-then-bad_p_values c =
    rw c.if-bad_p_values.true at (judged (goal.at.returns-then-bad_p_values c).After-bad_p_values)

pub returns : goal.returns
returns c =
    rw c.if-bad_p_values.false at (judged (goal.at.returns c).After-bad_p_values)
