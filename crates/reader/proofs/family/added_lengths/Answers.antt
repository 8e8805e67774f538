use Prim.Native.Nat.{ℕ, ◌+◌}
use native.Mathlib.Omega.{arith}
use mathlib.Core.Path.{sym, ap, ◌∙◌}
use Rattle.reader.specs.Family.{family_of}
use Rattle.reader.proofs.Parsed.{leaves_read, length_number}
use Rattle.reader.proofs.Walk.{between_more}
use Rattle.reader.proofs.family.added_lengths.Goals as goal

pub loop-j-init : goal.loop-j-init
loop-j-init g c = (omega arith, omega arith)

pub loop-j-preserved : goal.loop-j-preserved
loop-j-preserved g c =
    let s = c.args.file.now in
    let j = c.loop-j.j in
    let inv = c.loop-j.invariant in
    let l = length_number s j (omega (arith, leaves_read s)) in
    let read = c.requires.reads j c.number.result (omega arith) c.number.ensures in (
      omega (arith, c.number.type_inv),
      ap (λ (n : ℕ). c.loop-j.sum + n) (read ∙ sym l) ∙ between_more (family_of s) c.args.after j c.loop-j.sum (omega arith) inv.1,
    )
