-- The loop has stored the first i numbers.
use Prim.Native.Nat.{◌*◌}
use mathlib.Core.Path.{◌≡◌}
use lib.ListN.{length}
use Rattle.reader.specs.Bytes.{number_at}
use Rattle.curve.proofs.Decoding.{Holds}
use Rattle.curve.proofs.input.decode.Given as goal

abbrev pub invariant-loop-i : goal.invariant-loop-i
invariant-loop-i l = Holds l.numbers (λ k. number_at l.bytes (2 * k)) l.i × (length l.numbers ≡ 4097)
