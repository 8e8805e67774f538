use Rattle.std.proofs.Common.{◌*◌, ◌-◌, ◌∙◌, arith}
use Rattle.reader.specs.Family.{family_of}
use Rattle.reader.proofs.Parsed.{leaves_read}
use Rattle.leaves.proofs.Walk.{blocks_ahead, walk_passes, added_more}
use Rattle.leaves.proofs.leaf_walk.Walk.pass_blocks.Goals as goal

pub loop-block-preserved : goal.loop-block-preserved
loop-block-preserved c =
    let walk = c.args.self.now in
    let s = walk.file.now in
    let n = 8 * c.args.rows in
    let j = c.loop-block.passed in
    let inv = c.loop-block.invariant in
    let ahead = blocks_ahead n (walk.leaves - walk.passed.0) c.loop-block._block (omega arith) c.loop-block-test.true in
    let sum = c.block_lengths-sum.ensures.exact (omega (arith, c.type_inv)) in
    let more = added_more s n j (omega (arith, leaves_read s, walk.counted, walk.among, ahead, inv.blocks)) in
    record {
      blocks = omega (arith, inv.blocks);
      same =
          inv.same
          ∙ walk_passes (family_of s) n j c.loop-block.left _ (omega (arith, walk.counted, walk.among, ahead, inv.blocks)) (omega (arith, more, sum)) (omega arith);
    }
