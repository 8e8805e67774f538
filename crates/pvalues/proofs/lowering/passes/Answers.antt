-- The test of the definition; each product fits, since its factors are bounded.
use Prim.Native.Nat.{◌*◌}
use native.Mathlib.Omega.{arith}
use borrow.Author.Tests.{lt-leb}
use Rattle.pvalues.specs.FromP.{million, no_excess, passes, excess}
use Rattle.pvalues.proofs.Theory.Passing.{passes_free}
use Rattle.pvalues.proofs.lowering.passes.Goals as goal

pub returns-then-reached-counted : goal.returns-then-reached-counted
returns-then-reached-counted c =
    let a = c.args in rw (passes_free a.deviation_squared a.gap a.over a.v (omega (arith, c.if-reached-counted.true)))

pub returns : goal.returns
unfolding passes no_excess excess
returns c =
    let a = c.args in rw (lt-leb (a.v * a.gap) (million * a.over) (omega (arith, c.if-reached-counted.false)))
