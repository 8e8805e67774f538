use Rattle.std.proofs.Common.{◌+◌, arith}
use Rattle.bounds.proofs.Basics.Counting.{card_most}
use Rattle.reduction.specs.Private.Writing.{marked_in}
use Rattle.reduction.proofs.Writing.LeafEnds.{count_marked, count_unmarked}
use Rattle.reduction.proofs.write.borders_between.Goals as goal
use Rattle.reduction.proofs.write.borders_between.Goals.{then-borders-p, else-borders-p}

pub overflow_add-count : goal.overflow_add-count
overflow_add-count c =
    omega (arith, c.loop-p.invariant, count_marked c.args.borders.now c.loop-p.p c.if-borders-p.true, card_most (c.loop-p.p + 1) (marked_in c.args.borders.now), c.requires.on_line)

pub loop-p-preserved : goal.loop-p-preserved
loop-p-preserved c =
    elim c.if-borders-p.branch [
      | then-borders-p w ↦ rw w.count-is (omega (arith, c.loop-p.invariant, count_marked c.args.borders.now c.loop-p.p w.if-borders-p.true))
      | else-borders-p w ↦ rw w.count-is (omega (arith, c.loop-p.invariant, count_unmarked c.args.borders.now c.loop-p.p w.if-borders-p.false))
    ]
