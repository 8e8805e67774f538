use Rattle.std.proofs.Common.{ℕ, sum, set, refl, ap, arith}
use Rattle.leaves.proofs.Walk.{added_none, added_next, capped_same, capped_as, capped_more, capped_lane}
use Rattle.leaves.proofs.leaf_walk.add_row.Goals as goal

pub loop-i-init : goal.loop-i-init
loop-i-init c =
    capped_as (omega (arith, added_none c.args.file.now c.args.at)) refl (capped_same (sum c.args.lanes.now))

pub loop-i-preserved : goal.loop-i-preserved
loop-i-preserved c =
    let i = c.loop-i.i in
    let lanes = c.loop-i.lanes in
    capped_as
    (omega (arith, c.length_at.ensures, added_next c.args.file.now c.args.at i))
    (ap (λ (n : ℕ). sum (set lanes i n)) (omega arith))
    (capped_more c.length_at.result c.loop-i.invariant (capped_lane lanes i c.length_at.result (omega arith)))
