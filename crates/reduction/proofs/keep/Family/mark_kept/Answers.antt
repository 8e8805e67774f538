use Rattle.std.proofs.Common.{◌-◌, ◌≤◌, sym, ◌∙◌, set, get_or, length-set, arith}
use Rattle.reader.specs.Family.{family_of}
use Rattle.reduction.specs.Private.Keeping.{KeptMarked, counted}
use Rattle.reduction.proofs.Keeping.Known.{is_known}
use Rattle.reduction.proofs.Keeping.Bounding.{next_stretch, next_same, bound_marked_more}
use Rattle.reduction.proofs.Keeping.Gathering.{regions_few}
use Rattle.reduction.proofs.keep.Family.mark_kept.Goals as goal
use Rattle.reduction.proofs.keep.Family.mark_kept.Goals.{After-kept_bound}

-- one region more is marked
marks : (c : After-kept_bound) → get_or c.args.totals.now (c.loop-k.k - 1) 0 ≤ 65535
    → KeptMarked (family_of c.args.self.now.file.now) (set c.loop-k.kept (c.loop-k.k - 1) c.kept_bound.result) (c.loop-k.k - 1)
marks c fits =
    let pre = c.requires in
    let inv = c.loop-k.invariant in
    bound_marked_more (is_known c.args.self.now.with_stretches) (counted c.loop-k.next) c.loop-k.k (omega (arith, c.loop-k-test.true)) (omega arith) inv.next _ _ _ c.loop-k.kept _ pre.totals_below pre.weighed_below
    fits (omega (arith, inv.room, regions_few (is_known c.args.self.now.with_stretches).well_formed)) inv.marked c.kept_bound.ensures

pub bounds-kept-k : goal.bounds-kept-k
bounds-kept-k c = omega (arith, regions_few (is_known c.args.self.now.with_stretches).well_formed)

pub loop-k-preserved-then-stretch_at-ne0 : goal.loop-k-preserved-then-stretch_at-ne0
loop-k-preserved-then-stretch_at-ne0 c = record {
  room = simp length-set c.loop-k.invariant.room;
  next = next_stretch (is_known c.args.self.now.with_stretches) (counted c.loop-k.next) c.loop-k.k (omega (arith, c.loop-k-test.true)) (omega arith) c.loop-k.invariant.next (λ e. c.if-stretch_at-ne0.true (c.stretch_at.ensures.first ∙ e));
  marked = marks (goal.at.loop-k-preserved-then-stretch_at-ne0 c).After-kept_bound (omega (arith, c.type_inv.totals (c.loop-k.k - 1)));
}

pub loop-k-preserved : goal.loop-k-preserved
loop-k-preserved c = record {
  room = simp length-set c.loop-k.invariant.room;
  next = next_same (is_known c.args.self.now.with_stretches) (counted c.loop-k.next) c.loop-k.k (omega (arith, c.loop-k-test.true)) (omega arith) c.loop-k.invariant.next (sym c.stretch_at.ensures.first ∙ c.if-stretch_at-ne0.false);
  marked = marks (goal.at.loop-k-preserved c).After-kept_bound (omega (arith, c.type_inv.totals (c.loop-k.k - 1)));
}
