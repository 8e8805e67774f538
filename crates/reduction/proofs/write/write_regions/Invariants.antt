-- The loop has written the first k regions, and counted the leaves that end up to the peptide passed.
use Rattle.std.proofs.Common.{◌≡◌, ◌≤◌, ◌<◌, ◌-◌, length, get_or}
use Rattle.reader.specs.Bytes.{with_numbers}
use Rattle.bounds.specs.Ranges.{card}
use Rattle.reduction.specs.Private.Writing.{marked_in, region_numbers}
use Rattle.reduction.proofs.write.write_regions.Given as goal

abbrev pub invariant-loop-k : goal.invariant-loop-k
invariant-loop-k l = record {
  written : l.out ≡ with_numbers l.initial.out l.at (region_numbers l.k (marked_in l.borders) l.ranges.from.now l.ranges.to.now l.ranges.bounds.now);
  before : l.before ≡ card l.passed (marked_in l.borders);
  onward : l.k < length l.ranges.from.now → l.passed ≤ get_or l.ranges.from.now l.k 0 - 1;
}
