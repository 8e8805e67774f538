use Rattle.std.proofs.Common.{◌≡◌, ◌+◌, ◌*◌, ltb, ℕ, sym, ap, ◌∙◌, arith}
use Rattle.std.specs.Int.{from_bool}
use Rattle.reader.proofs.Parsed.{leaves_read}
use Rattle.leaves.specs.Private.Walking.{added}
use Rattle.leaves.proofs.Walk.{added_none, added_next, bool_few, counted_none, counted_more}
use Rattle.leaves.proofs.leaf_walk.Walk.leaves_before.Goals as goal

pub loop-i-init : goal.loop-i-init
loop-i-init c =
    let walk = c.args.self.now in
    record {
      few = omega arith;
      small = omega arith;
      sum_is = sym (added_none walk.file.now (16 + 2 * walk.passed.0));
      counted = counted_none walk.file.now walk.passed.0 walk.left;
    }

pub loop-i-preserved : goal.loop-i-preserved
loop-i-preserved c =
    let walk = c.args.self.now in
    let s = walk.file.now in
    let inv = c.loop-i.invariant in
    let i = c.loop-i.i in
    let next : c.loop-i.sum + c.length_at.result ≡ added s (16 + 2 * walk.passed.0) (i + 1) =
    omega (arith, c.length_at.ensures, added_next s (16 + 2 * walk.passed.0) i) in
    record {
      few = omega (arith, c.from-count.ensures, bool_few (ltb (c.loop-i.sum + c.length_at.result) walk.left));
      small = omega (arith, c.length_at.type_inv);
      sum_is = next;
      counted =
          counted_more s walk.passed.0 walk.left i _ _ (omega (arith, leaves_read s, walk.counted))
          (c.from-count.ensures ∙ ap (λ (n : ℕ). from_bool (ltb n walk.left)) next)
          inv.counted;
    }
