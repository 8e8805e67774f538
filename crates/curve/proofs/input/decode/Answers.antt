use native.Mathlib.Omega.{arith}
use mathlib.Core.Path.{refl}
use Rattle.curve.proofs.Decoding.{path_held}
use Rattle.curve.proofs.input.decode.Goals as goal

pub returns : goal.returns
returns c =
    let inv = c.loop-i.invariant in
    record {
      count = refl;
      path = path_held c.args.bytes.now c.loop-i.numbers (λ k h. inv.0 k (omega (arith, c.loop-i-test.false))) (omega (arith, c.requires, inv.1));
    }
