-- The loop has marked the regions from the k-th on, and knows the next one with a stretch.
use Rattle.std.proofs.Common.{◌≡◌, length}
use Rattle.reader.specs.Family.{family_of}
use Rattle.reduction.specs.Private.Keeping.{NextStretch, KeptMarked, counted}
use Rattle.reduction.proofs.keep.Family.mark_kept.Given as goal

abbrev pub invariant-loop-k : goal.invariant-loop-k
invariant-loop-k l = record {
  room : length l.kept ≡ 8191;
  next : NextStretch (family_of l.self.file.now) l.k (counted l.next);
  marked : KeptMarked (family_of l.self.file.now) l.kept l.k;
}
