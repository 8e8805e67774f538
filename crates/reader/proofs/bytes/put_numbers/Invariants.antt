-- The loop has written the first numbers; where the next one lies past the end, so do all that are left.
use Prim.Native.Nat.{◌+◌, ◌*◌}
use mathlib.Core.Path.{◌≡◌}
use lib.ListN.{take}
use Rattle.reader.specs.Bytes.{with_numbers}
use Rattle.reader.proofs.bytes.put_numbers.Given as goal

abbrev pub invariant-loop-n : goal.invariant-loop-n
invariant-loop-n l = (l.place ≡ l.at + 2 * l.n-index) × (l.out ≡ with_numbers l.initial.out l.at (take l.n-index l.numbers))
