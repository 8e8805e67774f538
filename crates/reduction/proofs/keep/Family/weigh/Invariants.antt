-- The loop has written the weights of the first k regions.
use Rattle.std.proofs.Common.{◌≡◌, length}
use Rattle.reader.specs.Family.{family_of}
use Rattle.reduction.specs.Private.Keeping.{WeighedBelow}
use Rattle.reduction.proofs.keep.Family.weigh.Given as goal

abbrev pub invariant-loop-k : goal.invariant-loop-k
invariant-loop-k l = record {
  least : length l.least ≡ 8191;
  around : length l.around ≡ 8191;
  weighed : WeighedBelow (family_of l.self.file.now) l.least l.around l.k;
}
