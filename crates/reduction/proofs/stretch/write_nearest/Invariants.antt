-- The loop has written the stretches of the regions before k.
use Rattle.std.proofs.Common.{◌≡◌, length}
use Rattle.reader.specs.Family.{family_of}
use Rattle.reduction.specs.Private.Steps.{firsts_of, lasts_of}
use Rattle.reduction.specs.Private.Passes.{FirstsUpTo, LastsUpTo}
use Rattle.reduction.proofs.stretch.write_nearest.Given as goal

abbrev pub invariant-loop-k : goal.invariant-loop-k
invariant-loop-k l = record {
  room : length l.stretches ≡ 8191;
  firsts : FirstsUpTo (family_of l.file) l.k (firsts_of l.stretches);
  lasts : LastsUpTo (family_of l.file) l.k (lasts_of l.stretches);
}
