use Rattle.std.proofs.Common.{◌≡◌, ℕ, Bool, true, false, List, length, set, refl, ap, ◌∙◌, arith}
use Rattle.std.specs.Int.{from_bool}
use Rattle.reader.proofs.Lists.{write_none, write_more}
use Rattle.bounds.proofs.Basics.Members.{bit}
use Rattle.volcano.specs.Rules.{row_at, chosen}
use Rattle.volcano.proofs.Judging.{byte_at}
use Rattle.volcano.proofs.write_chosen.Goals as goal

byte_bit : (b : Bool) → from_bool b ≡ bit b
byte_bit true = refl
byte_bit false = refl

pub loop-i-init : goal.loop-i-init
loop-i-init c = write_none (byte_at _ _ _) _

pub loop-i-preserved : goal.loop-i-preserved
unfolding row_at
loop-i-preserved c =
    let a = c.args in
    let i = c.loop-i.i in
    ap (λ (l : List ℕ). set l i c.from.result) c.loop-i.invariant
    ∙ write_more (byte_at a.rule a.p_values.now a.folds.now) a.out.now i c.from.result (omega (arith, c.requires.1))
    (c.from.ensures ∙ byte_bit _ ∙ ap bit c.passes.ensures)

pub returns : goal.returns
unfolding chosen
returns c =
    let e : c.loop-i.i ≡ length c.args.p_values.now = omega arith in
    rw e at c.loop-i.invariant
