-- A refusal leaves the output as it was; where no cause holds there is room for a byte for each row.
use Rattle.std.proofs.Common.{sym, ◌∙◌, arith}
use Rattle.reader.proofs.Refusals.{handed_on, unwritten}
use Rattle.volcano.proofs.Judging.{none_holds}
use Rattle.volcano.proofs.Choices.{writes_chosen}
use Rattle.volcano.proofs.choose.Goals as goal

pub returns-in_err-check_choice : goal.returns-in_err-check_choice
returns-in_err-check_choice c =
    let refusal = c.in_err-check_choice.field-0.0 in
    let first = c.in_err-check_choice.ensures in
    rw (handed_on c.from_residual.result refusal c.from_residual.ensures.1)
    (record { choose_answers = first; choose_writes = unwritten refusal _ first _ _ })

pub write_chosen-requires : goal.write_chosen-requires
write_chosen-requires c =
    let known = none_holds _ _ _ _ _ (sym c.in_ok-check_choice.ensures) in
    (known.p_rows ∙ sym known.fold_rows, omega (arith, known.p_rows, known.places))

pub returns : goal.returns
returns c =
    let none = c.in_ok-check_choice.ensures in
    record { choose_answers = none; choose_writes = writes_chosen _ _ _ _ _ _ (sym none) c.write_chosen.ensures }
