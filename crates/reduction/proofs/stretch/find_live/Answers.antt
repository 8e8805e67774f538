use Prim.Native.Nat.{ℕ, max, ◌-◌, ◌<◌, ◌≤◌}
use native.Mathlib.Omega.{arith}
use mathlib.Core.Path.{◌≡◌, sym, ap, ◌∙◌}
use lib.ListN.{replicate, length, length-drop, get_or, take, drop}
use lib.Seq.{length-take-le}
use mathlib.Core.List.{List}
use Rattle.reader.specs.Family.{family_of, region_count}
use Rattle.reader.proofs.Parsed.{held_z}
use Rattle.bounds.specs.Ranges.{range_at}
use Rattle.bounds.proofs.Theory.Family.{range_z}
use Rattle.reduction.proofs.Stretching.DeadPeptides.{low_high, high_small, cleared_by_fill, swept_same, swept_more, all_swept}
use Rattle.reduction.proofs.stretch.find_live.Goals as goal
use Rattle.reduction.proofs.stretch.find_live.Goals.{After-max, then-region_of-eq0+then-until-high, else-region_of-eq0, else-region_of-eq0-via-then-region_of-eq0+else-until-high, else-region_of-eq0-via-else-region_of-eq0}

-- a region's ends are in order, and within the line
few : (c : After-max) → c.max.result ≤ get_or c.args.ends.highs.now c.loop-k.k 0
few c =
    let pre = c.requires in
    omega (arith, c.max.ensures, pre.ends.low c.loop-k.k (omega arith), pre.ends.high c.loop-k.k (omega arith), low_high _ pre.formed c.loop-k.k (omega arith))

within : (c : After-max) → get_or c.args.ends.highs.now c.loop-k.k 0 ≤ 4096
within c =
    let pre = c.requires in
    omega (arith, pre.ends.high c.loop-k.k (omega arith), high_small _ pre.formed c.loop-k.k (omega arith), pre.formed.peptides_most)

pub slice_bounds-fill-count : goal.slice_bounds-fill-count
slice_bounds-fill-count c = few (goal.at.slice_bounds-fill-count c).After-max

pub slice_bounds-fill-start : goal.slice_bounds-fill-start
slice_bounds-fill-start c = few (goal.at.slice_bounds-fill-start c).After-max

pub slice_bounds-fill-end-then-until-high : goal.slice_bounds-fill-end-then-until-high
slice_bounds-fill-end-then-until-high c = within (goal.at.slice_bounds-fill-end-then-until-high c).After-max

filled : (M : List ℕ) (a b n : ℕ) → b ≡ n → n ≤ length M → length (take (b - a) (drop a M)) ≡ n - a
filled M a b n e room = omega (arith, length-take-le (b - a) (drop a M) (omega (arith, length-drop a M)))

pub loop-k-preserved : goal.loop-k-preserved
loop-k-preserved c =
    let pre = c.requires in
    let inv = c.loop-k.invariant in
    let k = c.loop-k.k in
    let h : k < region_count (family_of c.args.file.now) = omega arith in
    let z = held_z _ _ c.region_of.ensures ∙ sym (range_z _ k) in
    elim c.if-region_of-eq0.branch [
      | then-region_of-eq0+then-until-high w ↦
          let low = pre.ends.low k h in
          let high = pre.ends.high k h in
          let far : (range_at (family_of c.args.file.now) k).low ≤ (range_at (family_of c.args.file.now) k).high = low_high _ pre.formed k h in
          let from : w.max.result ≡ max (range_at (family_of c.args.file.now) k).low c.loop-k.until = w.max.ensures ∙ ap (λ (i : ℕ). max i c.loop-k.until) low in
          rw (w.live-is, w.until-is, high)
          (swept_more _ pre.formed k _ _ h inv _ w.max.result (sym z ∙ w.if-region_of-eq0.true) (omega (arith, high, w.if-until-high.true)) from
          (cleared_by_fill c.loop-k.live _ w.max.result _ (omega (arith, from, high, w.if-until-high.true)) (omega (arith, high_small _ pre.formed k h, pre.formed.peptides_most)) (w.fill-then-until-high.ensures.after (λ y e. e) ∙ ap (λ (n : ℕ). replicate n 0) (filled c.loop-k.live w.max.result _ _ high (omega (arith, high_small _ pre.formed k h, pre.formed.peptides_most))))))
      | else-region_of-eq0 w ↦
          rw (w.live-is, w.until-is)
          (swept_same _ pre.formed k _ _ h inv
          (elim w.else-region_of-eq0.branch [
            | else-region_of-eq0-via-then-region_of-eq0+else-until-high w' ↦ λ e. omega (arith, w'.if-until-high.false, pre.ends.high k h)
            | else-region_of-eq0-via-else-region_of-eq0 w' ↦ λ e. absurd (w'.if-region_of-eq0.false (z ∙ e))
          ]))
    ]

pub returns : goal.returns
returns c =
    all_swept _ c.loop-k.k c.loop-k.until _ (omega arith) c.loop-k.invariant
