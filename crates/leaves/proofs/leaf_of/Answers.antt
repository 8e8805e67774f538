-- The walk starts before the first leaf, and each part of it goes on from where the one before has stopped.
use Rattle.std.proofs.Common.{sym, ◌∙◌}
use Rattle.reader.proofs.Walk.{walk_starts}
use Rattle.leaves.proofs.Walk.{walk_found}
use Rattle.leaves.proofs.leaf_of.Goals as goal

pub returns-then-file-leaves : goal.returns-then-file-leaves
returns-then-file-leaves c = c.leaf_by_leaf.ensures ∙ sym (walk_starts _ _)

pub returns-then-leaves-lt16 : goal.returns-then-leaves-lt16
returns-then-leaves-lt16 c = c.leaf_of_last.ensures ∙ sym (walk_starts _ _)

pub returns-then-leaves-near-lt16 : goal.returns-then-leaves-near-lt16
returns-then-leaves-near-lt16 c =
    let far = c.pass_blocks.ensures in
    let near = c.pass_blocks-near.ensures in
    walk_found _ _ _ far.same_file near.same_file far.walked near.walked c.leaf_of_last-then-leaves-near-lt16.ensures

pub returns-else-leaves-near-lt16 : goal.returns-else-leaves-near-lt16
returns-else-leaves-near-lt16 c =
    let far = c.pass_blocks.ensures in
    let near = c.pass_blocks-near.ensures in
    walk_found _ _ _ far.same_file near.same_file far.walked near.walked c.leaf_of_sixteen.ensures
