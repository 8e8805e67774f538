use Prim.Native.Nat.{◌<◌}
use mathlib.Core.Bool.{false}
use mathlib.Core.Path.{◌≡◌, sym, ◌∙◌}
use native.Mathlib.Omega.{arith}
use Rattle.pvalues.specs.FromP.{passes}
use Rattle.pvalues.proofs.Theory.Passing.{fails_positive}
use Rattle.pvalues.proofs.Theory.Largest.{largest_here, largest_below}
use Rattle.pvalues.proofs.lowering.largest_passing.Goals as goal
use Rattle.pvalues.proofs.lowering.largest_passing.Goals.{In-loop-v}

-- the place after a test that failed
fails : (c : In-loop-v) → let a = c.args in passes a.deviation_squared a.gap a.over c.loop-v.v ≡ false
fails c = sym c.passes.ensures ∙ c.loop-v-test.true

positive : (c : In-loop-v) → 0 < c.loop-v.v
positive c = let a = c.args in fails_positive a.deviation_squared a.gap a.over c.loop-v.v (fails c)

pub overflow_sub-v : goal.overflow_sub-v
overflow_sub-v c =
    omega (arith, positive (goal.at.overflow_sub-v c).In-loop-v)

pub loop-v-smaller : goal.loop-v-smaller
loop-v-smaller c =
    omega (arith, positive (goal.at.loop-v-smaller c).In-loop-v)

pub loop-v-preserved : goal.loop-v-preserved
loop-v-preserved c =
    let a = c.args in
    let here = (goal.at.loop-v-preserved c).In-loop-v in
    let inv = c.loop-v.invariant in
    (omega arith, largest_below c.loop-v.v (passes a.deviation_squared a.gap a.over) (positive here) (fails here) ∙ inv.1)

pub returns : goal.returns
returns c =
    let a = c.args in
    let v = c.loop-v.v in
    sym (largest_here v (passes a.deviation_squared a.gap a.over) (sym c.passes.ensures ∙ c.loop-v-test.false))
    ∙ c.loop-v.invariant.1
