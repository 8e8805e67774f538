-- A refusal is one line with its number.
use Rattle.reader.proofs.Refusals.{number_some}
use Rattle.curve.proofs.Printing.{prints_refusal}
use Rattle.curve.proofs.output.render.Goals as goal

pub returns-in-Err : goal.returns-in-Err
returns-in-Err c =
    rw (← c.as_slice.ensures.value, ← c.as_slice-2.ensures.value, prints_refusal _ _ _ c.in-Err.ensures.0 (number_some _)) c.put_refusal.ensures
