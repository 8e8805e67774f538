-- The loop has marked the borders of the first k ranges, and m before.
use Rattle.std.proofs.Common.{◌≡◌, length}
use Rattle.reduction.specs.Private.Writing.{Marks, ends_at}
use Rattle.reduction.proofs.write.mark_borders.Given as goal

abbrev pub invariant-loop-k : goal.invariant-loop-k
invariant-loop-k l = record {
  long : length l.borders ≡ 4097;
  marked : Marks l.borders (ends_at l.m l.k l.ranges.from.now l.ranges.to.now);
}
