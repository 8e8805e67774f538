use Rattle.std.proofs.Common.{refl, sym}
use Rattle.leaves.proofs.Walk.{added_none, row_more, capped_same, capped_as, capped_more}
use Rattle.leaves.proofs.leaf_walk.block_lengths.Goals as goal

pub loop-row-init : goal.loop-row-init
loop-row-init c = capped_as (sym (added_none c.args.file.now c.args.at)) refl (capped_same 0)

pub loop-row-preserved : goal.loop-row-preserved
loop-row-preserved c =
    capped_as (sym (row_more c.args.file.now c.args.at c.loop-row.row)) refl (capped_more _ c.loop-row.invariant c.add_row.ensures)
