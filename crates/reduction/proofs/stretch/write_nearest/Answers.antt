use Prim.Native.Nat.{◌≤◌, ◌<◌, ◌+◌}
use native.Mathlib.Omega.{arith}
use lib.ListN.{get_or, length, length-map, length-set}
use lib.Seq.{map-set}
use Rattle.reduction.specs.declared.stretch.Stretch.{Stretch}
use Rattle.reader.specs.Family.{family_of, region_count}
use Rattle.reader.proofs.Parsed.{held_z}
use Rattle.bounds.specs.Ranges.{range_at}
use Rattle.reduction.specs.Private.Steps.{first_live, last_live, firsts_of, lasts_of}
use Rattle.reduction.proofs.Stretching.OpenRegions.{more_stored}
use Rattle.reduction.proofs.Stretching.DeadPeptides.{low_high, high_small}
use Rattle.reduction.proofs.Stretching.NearestLive.{first_live_found, last_live_found}
use Rattle.reduction.proofs.stretch.write_nearest.Goals as goal
use Rattle.reduction.proofs.stretch.write_nearest.Goals.{In-loop-k}

-- its ends are places from 0 to m
high-place : (c : In-loop-k) → get_or c.args.ends.highs.now c.loop-k.k 0 ≤ (family_of c.args.file.now).peptides
high-place c =
    let pre = c.requires.ended in
    omega (arith, pre.ends.high c.loop-k.k (omega arith), high_small _ pre.formed c.loop-k.k (omega arith))

low-place : (c : In-loop-k) → get_or c.args.ends.lows.now c.loop-k.k 0 ≤ (family_of c.args.file.now).peptides
low-place c =
    let pre = c.requires.ended in
    omega (arith, pre.ends.low c.loop-k.k (omega arith), low_high _ pre.formed c.loop-k.k (omega arith), high_small _ pre.formed c.loop-k.k (omega arith))

pub bounds-after-low : goal.bounds-after-low
bounds-after-low c =
    omega (arith, low-place (goal.at.bounds-after-low c).In-loop-k, c.requires.ended.formed.peptides_most)

pub bounds-before-high : goal.bounds-before-high
bounds-before-high c =
    omega (arith, high-place (goal.at.bounds-before-high c).In-loop-k, c.requires.ended.formed.peptides_most)

pub loop-k-preserved : goal.loop-k-preserved
loop-k-preserved c =
    let a = c.args in
    let pre = c.requires in
    let inv = c.loop-k.invariant in
    let k = c.loop-k.k in
    let h : k < region_count (family_of a.file.now) = omega arith in
    let z = held_z _ _ c.region_of-z.ensures in
    let s : Stretch = record { first = c.if_within.result; last = c.if_within-in-loop-k.result } in
    let room : k < length c.loop-k.stretches = omega (arith, inv.room, pre.ended.formed.regions_most) in
    record {
      room = simp length-set inv.room;
      firsts =
          rw (map-set (λ (x : Stretch). x.first) c.loop-k.stretches k s)
          (more_stored (firsts_of c.loop-k.stretches) k _ (λ i. first_live _ (range_at _ i)) (omega (arith, length-map c.loop-k.stretches (λ (x : Stretch). x.first))) inv.firsts
          (first_live_found _ k _ _ _ z (pre.ended.ends.low k h) (pre.ended.ends.high k h) _ _ (pre.nexts (get_or a.ends.lows.now k 0 + 1) (omega arith) (omega (arith, low-place (goal.at.loop-k-preserved c).In-loop-k))) c.if_within.ensures));
      lasts =
          rw (map-set (λ (x : Stretch). x.last) c.loop-k.stretches k s)
          (more_stored (lasts_of c.loop-k.stretches) k _ (λ i. last_live _ (range_at _ i)) (omega (arith, length-map c.loop-k.stretches (λ (x : Stretch). x.last))) inv.lasts
          (last_live_found _ k _ _ _ z (pre.ended.ends.low k h) (pre.ended.ends.high k h) pre.ended.formed h _ _ (pre.lasts (get_or a.ends.highs.now k 0) (high-place (goal.at.loop-k-preserved c).In-loop-k)) c.if_within-in-loop-k.ensures));
    }
