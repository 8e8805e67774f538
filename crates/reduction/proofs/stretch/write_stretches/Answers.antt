-- The nearest live peptides from the live bytes, and what is written with them.
use Rattle.reduction.proofs.Stretching.NearestLive.{nexts_live, lasts_live_lem}
use Rattle.reduction.proofs.stretch.write_stretches.Goals as goal

pub write_nearest-requires : goal.write_nearest-requires
write_nearest-requires c =
    let pre = c.requires in
    let m = c.peptide_count-m.ensures in record {
      ended = pre.ended;
      nexts = nexts_live _ _ pre.lives _ c.fill_after.new.after m c.fill_after.ensures;
      lasts = lasts_live_lem _ _ pre.lives _ c.fill_before.new.before m c.fill_before.ensures;
    }
