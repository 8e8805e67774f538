use Rattle.std.proofs.Common.{◌≡◌, ◌+◌, ◌*◌, ◌-◌, ◌≤◌, ℕ, List, [], ◌∷◌, get_or, refl, sym, ap, ap₂, ◌∙◌, arith}
use Rattle.reader.specs.Bytes.{with_numbers}
use Rattle.reader.proofs.NumberRows.{numbers_none}
use Rattle.bounds.specs.Ranges.{card}
use Rattle.bounds.proofs.Basics.Counting.{card_most}
use Rattle.reduction.specs.Private.Writing.{marked_in, region_numbers}
use Rattle.reduction.proofs.Writing.LeafEnds.{region_numbers_none, regions_more}
use Rattle.reduction.proofs.write.write_regions.Goals as goal
use Rattle.reduction.proofs.write.write_regions.Goals.{After-borders_between, After-borders_between-before}

-- the leaves before the k-th range
low_count : (c : After-borders_between-before)
    → c.loop-k.before + c.borders_between-before.result ≡ card (get_or c.args.ranges.from.now c.loop-k.k 0 - 1) (marked_in c.args.borders.now)
low_count c = omega (arith, c.borders_between-before.ensures, c.loop-k.invariant.before)

-- and those up to its end
high-count : (c : After-borders_between)
    → c.loop-k.before + c.borders_between-before.result + c.borders_between.result ≡ card (get_or c.args.ranges.to.now c.loop-k.k 0) (marked_in c.args.borders.now)
high-count c = omega (arith, c.borders_between.ensures, c.borders_between-before.ensures, c.loop-k.invariant.before)

-- are no more than there are peptides
few : (c : After-borders_between-before) → c.loop-k.before + c.borders_between-before.result ≤ 4096
few c =
    let line = c.requires.on_line in
    let k = c.loop-k.k in
    omega (arith, low_count c, card_most (get_or c.args.ranges.from.now k 0 - 1) (marked_in c.args.borders.now), line.order k (omega arith), line.last k (omega arith))

pub loop-k-init : goal.loop-k-init
unfolding card
loop-k-init c = record {
  written = sym (ap (with_numbers c.args.out.now c.args.at) (region_numbers_none (marked_in c.args.borders.now) c.args.ranges.from.now c.args.ranges.to.now c.args.ranges.bounds.now) ∙ numbers_none _ _);
  before = refl;
  onward = λ h. omega arith;
}

pub overflow_add-before : goal.overflow_add-before
overflow_add-before c = omega (arith, few (goal.at.overflow_add-before c).After-borders_between-before)

pub overflow_add-first : goal.overflow_add-first
overflow_add-first c = omega (arith, few (goal.at.overflow_add-first c).After-borders_between-before)

pub overflow_add-last : goal.overflow_add-last
overflow_add-last c =
    let k = c.loop-k.k in
    omega (arith, high-count (goal.at.overflow_add-last c).After-borders_between, card_most (get_or c.args.ranges.to.now k 0) (marked_in c.args.borders.now), c.requires.on_line.last k (omega arith))

pub loop-k-preserved : goal.loop-k-preserved
loop-k-preserved c =
    let a = c.args in
    let k = c.loop-k.k in
    let inv = c.loop-k.invariant in
    let before = c.loop-k.before + c.borders_between-before.result in
    let low = low_count (goal.at.loop-k-preserved c).After-borders_between-before in
    let high = high-count (goal.at.loop-k-preserved c).After-borders_between in
    let X = marked_in a.borders.now in
    let A = a.ranges.from.now in
    let B = a.ranges.to.now in
    let Z = a.ranges.bounds.now in record {
      written =
          c.put_numbers.ensures
          ∙ ap (λ (l : List ℕ). with_numbers l (a.at + 6 * k) ((before + 1) ∷ (before + c.borders_between.result) ∷ get_or Z k 0 ∷ [])) inv.written
          ∙ ap₂ (λ (x y : ℕ). with_numbers (with_numbers a.out.now a.at (region_numbers k X A B Z)) (a.at + 6 * k) ((x + 1) ∷ y ∷ get_or Z k 0 ∷ [])) low high
          ∙ regions_more X A B Z a.out.now a.at k;
      before = low;
      onward = λ h. omega (arith, c.requires.on_line.rises k h);
    }
