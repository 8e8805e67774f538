-- Four fields, one after the other.
use Prim.Native.Nat.{ℕ}
use native.Mathlib.Omega.{arith}
use mathlib.Core.List.{append_assoc}
use mathlib.Core.Path.{ap}
use lib.ListN.{length, length-append}
use Rattle.curve.specs.Text.{line_of}
use Rattle.curve.proofs.Pieces.{field_short}
use Rattle.curve.proofs.text.put_line.Goals as goal

pub put_field-requires-2 : goal.put_field-requires-2
put_field-requires-2 c = omega (arith, length-append {A = ℕ}, field_short, ap length c.put_field.ensures)

pub put_field-requires-3 : goal.put_field-requires-3
put_field-requires-3 c = omega (arith, length-append {A = ℕ}, field_short, ap length c.put_field.ensures, ap length c.put_field-2.ensures)

pub put_field-requires-4 : goal.put_field-requires-4
put_field-requires-4 c =
    omega (arith, length-append {A = ℕ}, field_short, ap length c.put_field.ensures, ap length c.put_field-2.ensures, ap length c.put_field-3.ensures)

pub returns : goal.returns
unfolding line_of
returns c = rw (c.put_field-4.ensures, c.put_field-3.ensures, c.put_field-2.ensures, c.put_field.ensures, c.from.ensures) (simp append_assoc)
