-- The loop walks the leaves one by one: what is left of the peptide's number is to be found from leaf j on.
use Rattle.std.proofs.Common.{◌≡◌, drop}
use Rattle.reader.specs.Family.{family_of, leaf_after}
use Rattle.leaves.proofs.leaf_walk.leaf_by_leaf.Given as goal

abbrev pub invariant-loop-j : goal.invariant-loop-j
invariant-loop-j l =
    leaf_after 0 (family_of l.file).lengths l.initial.left ≡ leaf_after l.j (drop l.j (family_of l.file).lengths) l.left
