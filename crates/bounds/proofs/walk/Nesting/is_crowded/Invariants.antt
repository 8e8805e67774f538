-- The loop has passed only regions that can take a mark; the rest of the chain holds the leaf.
use Rattle.reader.specs.Family.{family_of}
use Rattle.bounds.proofs.Walking.Holding.{Chain, RoomFrom}
use Rattle.bounds.proofs.walk.Nesting.is_crowded.Given as goal

abbrev pub invariant-loop-number : goal.invariant-loop-number
invariant-loop-number l = record {
  chain : Chain (family_of l.self.file.now) l.fn.leaf.0 l.number;
  room : RoomFrom (family_of l.self.file.now) l.spare l.fn.leaf.0 l.number;
}

abbrev pub decreases-loop-number : goal.decreases-loop-number
decreases-loop-number l = l.number
