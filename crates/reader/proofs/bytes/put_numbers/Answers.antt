use Prim.Native.Nat.{ℕ}
use native.Mathlib.Omega.{arith}
use mathlib.Core.List.{List, [], ◌∷◌}
use mathlib.Core.Path.{sym, ap, ◌∙◌}
use lib.ListN.{take, get_or}
use lib.Seq.{take_all}
use Rattle.reader.specs.Bytes.{with_numbers}
use Rattle.reader.proofs.NumberRows.{numbers_none, numbers_next, numbers_past}
use Rattle.reader.proofs.bytes.put_numbers.Goals as goal

pub loop-n-init : goal.loop-n-init
loop-n-init c =
    (omega arith, sym (numbers_none c.args.out.now c.args.at))

pub returns-then-end-place : goal.returns-then-end-place
returns-then-end-place c =
    let a = c.args in
    let inv = c.loop-n.invariant in
    inv.1 ∙ numbers_past a.out.now a.at a.numbers.now c.loop-n.n-index (omega (arith, c.loop-n-test)) (omega (arith, inv.0))

pub loop-n-preserved : goal.loop-n-preserved
loop-n-preserved c =
    let a = c.args in
    let l = c.loop-n in
    let inv = l.invariant in (
      omega (arith, inv.0),
      c.put_number.ensures
          ∙ ap (λ (o : List ℕ). with_numbers o l.place (get_or a.numbers.now l.n-index 0 ∷ [])) inv.1
          ∙ ap (λ (k : ℕ). with_numbers (with_numbers a.out.now a.at (take l.n-index a.numbers.now)) k (get_or a.numbers.now l.n-index 0 ∷ [])) inv.0
          ∙ numbers_next a.out.now a.at a.numbers.now l.n-index (omega arith),
    )

pub returns : goal.returns
returns c =
    let a = c.args in
    c.loop-n.invariant.1
    ∙ ap (with_numbers a.out.now a.at) (take_all c.loop-n.n-index a.numbers.now (omega arith))
