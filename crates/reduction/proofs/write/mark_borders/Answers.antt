use Rattle.std.proofs.Common.{length-set, arith}
use Rattle.reduction.proofs.Writing.LeafEnds.{ends_first, ends_more}
use Rattle.reduction.proofs.write.mark_borders.Goals as goal

pub loop-k-init : goal.loop-k-init
loop-k-init c = record {
  long = simp length-set c.told-borders;
  marked = ends_first c.args.m c.args.ranges.from.now c.args.ranges.to.now c.args.borders.now (omega (arith, c.requires.on_line.line, c.told-borders)) c.requires.unmarked;
}

pub loop-k-preserved : goal.loop-k-preserved
loop-k-preserved c =
    let line = c.requires.on_line in
    let k = c.loop-k.k in
    let inv = c.loop-k.invariant in
    let last = line.last k (omega arith) in record {
      long = simp length-set inv.long;
      marked = ends_more c.args.m c.args.ranges.from.now c.args.ranges.to.now c.loop-k.borders k (omega (arith, line.line, line.order k (omega arith), last, inv.long)) (omega (arith, line.line, last, inv.long)) inv.marked;
    }
