use Prim.Native.Nat.{ℕ}
use native.Mathlib.Omega.{arith}
use mathlib.Core.List.{List}
use mathlib.Core.Path.{◌≡◌, refl, ap, ◌∙◌}
use lib.ListN.{length, take, drop, get_or, set, length-set}
use Rattle.std.proofs.lemmas.List.{take_min, drop_min}
use Rattle.reader.proofs.Lists.{copy_more}
use Rattle.reader.proofs.bytes.copy_bytes.Goals as goal

pub loop-i-init : goal.loop-i-init
loop-i-init c =
    record { same_length = refl; copied = refl }

pub loop-i-preserved : goal.loop-i-preserved
loop-i-preserved c =
    let inv = c.loop-i.invariant in
    let i = c.loop-i.i in
    let from = c.args.from.now in record {
      same_length = simp length-set inv.same_length;
      copied = ap (λ (l : List ℕ). set l i (get_or from i 0)) inv.copied
          ∙ copy_more from c.args.to.now i (omega arith) (omega arith);
    }

-- the loop ends where the shorter one of the two does
pub returns : goal.returns
returns c =
    let from = c.args.from.now in
    let to = c.args.to.now in
    let i = c.loop-i.i in
    let front : take i from ≡ take (length to) from = ap (λ (n : ℕ). take n from) (omega arith) ∙ take_min (length to) from in
    let rest : drop i to ≡ drop (length from) to = ap (λ (n : ℕ). drop n to) (omega arith) ∙ drop_min (length from) to in
    rw (front, rest) at c.loop-i.invariant.copied
