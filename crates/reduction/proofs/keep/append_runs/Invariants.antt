-- The loop has listed the runs that begin before p.
use Rattle.std.proofs.Common.{Bool}
use Rattle.reader.specs.Family.{family_of}
use Rattle.bounds.specs.Ranges.{Range}
use Rattle.reduction.specs.Private.Keeping.{GatheredIn, Whole, SameArrays}
use Rattle.reduction.proofs.keep.append_runs.Given as goal

abbrev pub invariant-loop-p : goal.invariant-loop-p
invariant-loop-p l = record {
  whole : Whole l.ranges;
  same_arrays : SameArrays l.initial.ranges l.ranges;
  gathered : (t : Range → Bool) → GatheredIn (family_of l.file) t l.begin l.initial.ranges → GatheredIn (family_of l.file) t l.p l.ranges;
}
