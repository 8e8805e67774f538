-- Of a number at the last byte the low byte is stored, and of one past the end none.
use Prim.Native.Nat.{ℕ}
use native.Mathlib.Omega.{arith}
use mathlib.Core.List.{List}
use mathlib.Core.Path.{ap, ◌∙◌}
use lib.ListN.{set, get_or}
use Rattle.reader.proofs.NumberRows.{low_byte_put, no_byte_put}
use Rattle.reader.proofs.bytes.put_number.Goals as goal

pub returns-then-end-eq0 : goal.returns-then-end-eq0
returns-then-end-eq0 c =
    no_byte_put c.args.out.now c.args.at c.args.n (omega arith)

pub returns-else-at-end : goal.returns-else-at-end
returns-else-at-end c =
    let a = c.args in
    c.put_byte.ensures
    ∙ ap (λ (l : List ℕ). set a.out.now a.at (get_or l 0 0)) c.to_le_bytes.ensures
    ∙ low_byte_put a.out.now a.at a.n (omega arith)
