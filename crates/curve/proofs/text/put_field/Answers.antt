-- The digits, then the byte.
use native.Mathlib.Omega.{arith}
use mathlib.Core.List.{append_assoc}
use Rattle.curve.specs.Text.{field_of}
use Rattle.curve.proofs.Pieces.{printed}
use Rattle.curve.proofs.text.put_field.Goals as goal

pub returns : goal.returns
unfolding field_of
returns c =
    rw (c.extend-2.ensures, c.extend.ensures, c.as_bytes.ensures.value, c.format.ensures.text, printed c.args.n (omega arith)) (simp append_assoc)
