-- Past the end both bytes are 0, and after the last byte the high one is.
use native.Mathlib.Omega.{arith}
use Prim.Native.Nat.{◌+◌}
use mathlib.Core.Path.{sym}
use Rattle.reader.specs.Bytes.{number_at}
use Rattle.reader.proofs.Parsed.{byte_past, number_past}
use Rattle.reader.proofs.bytes.number_at.Goals as goal

pub returns-then-n-eq0 : goal.returns-then-n-eq0
returns-then-n-eq0 c =
    sym (number_past c.args.s.now _ (omega arith))

pub returns-then-at-n : goal.returns-then-at-n
returns-then-at-n c =
    c.number_within.ensures

pub returns-else-at-n : goal.returns-else-at-n
unfolding number_at
returns-else-at-n c =
    let s = c.args.s.now in
    let at = c.args.at in
    omega (arith, byte_past s (at + 1) (omega arith), c.byte_at.ensures)
