use native.Mathlib.Omega.{arith}
use mathlib.Core.Path.{◌≡◌, sym, ◌∙◌}
use Rattle.reader.specs.Family.{family_of, leaves, region_count, region}
use Rattle.reader.specs.Causes.{cause7, misplaced}
use Rattle.reader.proofs.Below.{none_below_zero, none_more, some_at}
use Rattle.reader.proofs.causes.misplaced_region.Goals as goal
use Rattle.reader.proofs.causes.misplaced_region.Goals.{After-misplaced}

-- the test of the loop's body speaks of the k-th region
tested : (c : After-misplaced)
    → c.misplaced.result ≡ misplaced (leaves (family_of c.args.file.bytes.now)) (region (family_of c.args.file.bytes.now) c.loop-k.k)
tested c = rw (← c.leaf_count-leaves.ensures, ← c.region.ensures) c.misplaced.ensures

pub loop-k-init : goal.loop-k-init
loop-k-init c = none_below_zero _

pub returns-then-misplaced : goal.returns-then-misplaced
unfolding cause7
returns-then-misplaced c =
    let F = family_of c.args.file.bytes.now in
    sym (some_at _ (region_count F) c.loop-k.k (omega (arith, c.loop-k-test.true, c.region_count-k-end.ensures)) (sym (tested (goal.at.returns-then-misplaced c).After-misplaced) ∙ c.if-misplaced.true))

pub loop-k-preserved : goal.loop-k-preserved
loop-k-preserved c =
    none_more _ _ c.loop-k.invariant (sym (tested (goal.at.loop-k-preserved c).After-misplaced) ∙ c.if-misplaced.false)

pub returns : goal.returns
unfolding cause7
returns c =
    let end : c.loop-k.k ≡ region_count (family_of c.args.file.bytes.now) = omega (arith, c.region_count-k-end.ensures) in
    sym (rw end at c.loop-k.invariant)
