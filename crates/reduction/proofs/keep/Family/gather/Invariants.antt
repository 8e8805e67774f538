-- The loop has listed the kept stretches of the first k regions and the runs that begin before the peptide `begin`.
use Rattle.reader.specs.Family.{family_of}
use Rattle.reduction.specs.Private.Keeping.{of_first, Passed, GatheredIn, Whole, SameArrays}
use Rattle.reduction.proofs.keep.Family.gather.Given as goal

abbrev pub invariant-loop-k : goal.invariant-loop-k
invariant-loop-k l = record {
  whole : Whole l.ranges;
  same_arrays : SameArrays l.initial.ranges l.ranges;
  passed : Passed (family_of l.self.file.now) l.kept l.k l.begin;
  gathered : GatheredIn (family_of l.self.file.now) (of_first (family_of l.self.file.now) l.kept l.k) l.begin l.ranges;
}
