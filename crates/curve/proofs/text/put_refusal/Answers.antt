-- The word and a blank, then the number.
use Rattle.curve.specs.Text.{refusal}
use Rattle.curve.proofs.text.put_refusal.Goals as goal

pub returns : goal.returns
unfolding refusal
returns c = rw (c.put_field.ensures, c.extend.ensures, c.requires, c.from.ensures)
