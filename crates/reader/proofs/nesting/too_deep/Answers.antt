use Prim.Native.Nat.{◌<◌}
use native.Mathlib.Omega.{arith}
use mathlib.Core.Path.{◌≡◌, sym, ◌∙◌}
use Rattle.reader.specs.Family.{family_of, region_count}
use Rattle.reader.specs.Nesting.{regions_around}
use Rattle.reader.proofs.Climbing.{counts_one_deeper, counted_more, too_deep, not_too_deep}
use Rattle.reader.proofs.nesting.too_deep.Goals as goal
use Rattle.reader.proofs.nesting.too_deep.Goals.{After-one_deeper-depth, In-loop-k}

here : (c : In-loop-k) → c.loop-k.k < region_count (family_of c.args.file.bytes.now)
here c = omega (arith, c.loop-k-test.true, c.region_count-regions.ensures)

-- what the loop's body counts is the number of regions around the k-th one
depth-read : (c : After-one_deeper-depth) → c.one_deeper-depth.result ≡ regions_around (family_of c.args.file.bytes.now) c.loop-k.k
depth-read c =
    let pre = c.requires in
    let lk : c.loop-k.k < region_count (family_of c.args.file.bytes.now) = omega (arith, c.loop-k-test.true, c.region_count-regions.ensures) in
    c.one_deeper-depth.ensures
    ∙ counts_one_deeper _ pre.ordered pre.nested _ _ lk c.loop-k.invariant _ (pre.known c.loop-k.k lk)

pub returns-then-regions-eq0 : goal.returns-then-regions-eq0
returns-then-regions-eq0 c =
    sym (not_too_deep (family_of c.args.file.bytes.now) (λ k l. absurd (omega (arith, c.if-regions-eq0.true, c.region_count-regions.ensures))))

pub loop-k-init : goal.loop-k-init
loop-k-init c = record { depth = λ i l. absurd (omega arith); shallow = λ i l. absurd (omega arith) }

pub bounds-parents-k : goal.bounds-parents-k
bounds-parents-k c = omega (arith, here (goal.at.bounds-parents-k c).In-loop-k, c.requires.room)

pub one_deeper-depth-requires : goal.one_deeper-depth-requires
one_deeper-depth-requires c =
    let pre = c.requires in
    let counted = c.loop-k.invariant in
    let k = here (goal.at.one_deeper-depth-requires c).In-loop-k in
    let p = pre.known c.loop-k.k k in
    record { number_in_bounds = omega (arith, p.earlier, k, pre.few); by_index = λ i l. omega (arith, counted.depth i (omega (arith, p.earlier)), counted.shallow i (omega (arith, p.earlier))) }

pub returns-then-depth-gt-MOST_AROUND : goal.returns-then-depth-gt-MOST_AROUND
returns-then-depth-gt-MOST_AROUND c =
    sym (too_deep _ _ (here (goal.at.returns-then-depth-gt-MOST_AROUND c).In-loop-k) (omega (arith, depth-read (goal.at.returns-then-depth-gt-MOST_AROUND c).After-one_deeper-depth, c.if-depth-gt-MOST_AROUND.true)))

pub bounds-depths-k : goal.bounds-depths-k
bounds-depths-k c = omega (arith, here (goal.at.bounds-depths-k c).In-loop-k, c.requires.few)

pub loop-k-preserved : goal.loop-k-preserved
loop-k-preserved c =
    let pre = c.requires in
    let k = here (goal.at.loop-k-preserved c).In-loop-k in
    counted_more _ pre.ordered pre.nested c.loop-k.depths c.loop-k.k k c.loop-k.invariant _
    (omega (arith, k, pre.few)) (depth-read (goal.at.loop-k-preserved c).After-one_deeper-depth) c.if-depth-gt-MOST_AROUND.false

pub returns : goal.returns
returns c =
    let s = c.args.file.bytes.now in
    sym (not_too_deep (family_of s) (λ k l. c.loop-k.invariant.shallow k (omega (arith, c.region_count-regions.ensures))))
