-- What lies below the number is as it was; the rest of the chain holds the leaf.
use Rattle.reader.specs.Family.{family_of}
use Rattle.bounds.proofs.Walking.Holding.{Chain, ChangedFrom, one_less}
use Rattle.bounds.proofs.walk.Nesting.take_mark.Given as goal

abbrev pub invariant-loop-number : goal.invariant-loop-number
invariant-loop-number l = record {
  chain : Chain (family_of l.self.file.now) l.fn.leaf.0 l.number;
  changed : ChangedFrom (family_of l.self.file.now) (one_less l.initial.spare) l.initial.spare l.fn.leaf.0 l.spare l.number;
}

abbrev pub decreases-loop-number : goal.decreases-loop-number
decreases-loop-number l = l.number
