use Prim.Native.Nat.{ℕ, ◌+◌}
use native.Mathlib.Omega.{arith}
use mathlib.Core.List.{List}
use mathlib.Core.Path.{◌≡◌, ap, ◌∙◌}
use lib.ListN.{length, set}
use Rattle.reader.specs.Family.{family_of}
use Rattle.reader.proofs.Lists.{write_none, write_more, zeros}
use Rattle.bounds.specs.Curves.{mark_at, curve_marks}
use Rattle.bounds.proofs.Basics.Known.{is_walkable}
use Rattle.bounds.proofs.Walking.Steps.{spare_start, leaf_few, next}
use Rattle.bounds.proofs.walk.Walk.write_marks.Goals as goal

pub fill_innermost-requires : goal.fill_innermost-requires
fill_innermost-requires c =
    let well = (is_walkable c.args.self.now.walkable).well in
    record { ordered = well.ordered; few = omega (arith, well.leaves_most); by_index = zeros 4097 }

pub invariant_of-nesting : goal.invariant_of-nesting
invariant_of-nesting c =
    record { nested = ∣ (is_walkable c.args.self.now.walkable).nested ∣₁; innermost_at_leaves = c.fill_innermost.ensures }

pub loop-t-init : goal.loop-t-init
loop-t-init c =
    let walk = is_walkable c.args.self.now.walkable in
    record {
      marks = write_none (λ i. mark_at (family_of c.args.self.now.file.now) c.args.self.now.path.now (i + 1)) c.args.marks.now;
      spare = spare_start walk.well walk.different c.fill_spare.new.spare c.fill_spare.ensures;
    }

pub mark_next-requires : goal.mark_next-requires
mark_next-requires c =
    let walk = is_walkable c.args.self.now.walkable in
    omega (arith, leaf_few walk.well walk.different c.loop-t.t c.loop-t-test.true, walk.well.leaves_most, walk.well.peptides_most)

pub loop-t-preserved : goal.loop-t-preserved
loop-t-preserved c =
    let inv = c.loop-t.invariant in
    let t = c.loop-t.t in
    let walk = is_walkable c.args.self.now.walkable in
    let args = c.args in
    let step = c.mark_next in
    let n = next walk.well walk.different t c.loop-t-test.true c.loop-t.spare _ _ inv.spare step.ensures in
    record {
      marks = ap (λ (l : List ℕ). set l t step.result) inv.marks ∙ write_more (λ i. mark_at (family_of args.self.now.file.now) args.self.now.path.now (i + 1)) args.marks.now t step.result (omega (arith, c.requires)) n.right;
      spare = n.spare;
    }

pub returns : goal.returns
unfolding curve_marks
returns c =
    let end : c.loop-t.t ≡ length c.args.self.now.path.now = omega arith in
    rw end at c.loop-t.invariant.marks
