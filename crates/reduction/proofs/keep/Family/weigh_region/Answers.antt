-- The three cases: no parent, a parent with the same stretch, a parent with another one.
use Rattle.std.proofs.Common.{◌≡◌, get_or, sym, ap₂, ◌∙◌, subst}
use Prim.Native.Nat.{◌-◌, min}
use Rattle.reader.specs.Family.{family_of, region}
use Rattle.reader.specs.WellFormed.{IsParent}
use Rattle.reader.proofs.Parsed.{held_z}
use Rattle.reduction.proofs.Keeping.Known.{is_known}
use Rattle.reduction.proofs.Keeping.Weighing.{weighed_outermost}
use Rattle.reduction.proofs.Keeping.Bounding.{weigh_same, weigh_other}
use Rattle.reduction.proofs.keep.Family.weigh_region.Goals as goal
use Rattle.reduction.proofs.keep.Family.weigh_region.Goals.{After-nth-number}

-- the number at hand is that of the parent
is-parent : (c : After-nth-number) → IsParent (family_of c.args.self.now.file.now) c.args.k c.nth-number.result
is-parent c =
    let pre = c.requires in
    subst (IsParent (family_of c.args.self.now.file.now) c.args.k) (sym c.nth-number.ensures) (pre.parents_below c.args.k pre.k_bound)

pub returns-then-number-eq0 : goal.returns-then-number-eq0
returns-then-number-eq0 c s =
    let F = family_of c.args.self.now.file.now in
    let k = c.args.k in
    let pre = c.requires in
    rw (held_z _ (region F k) c.region_of-z.ensures)
    (weighed_outermost (is_known c.args.self.now.with_stretches).well_formed k pre.k_bound (subst (IsParent F k) c.if-number-eq0.true (is-parent (goal.at.returns-then-number-eq0 c).After-nth-number)))

pub returns-then-same_stretch : goal.returns-then-same_stretch
returns-then-same_stretch c s =
    let F = family_of c.args.self.now.file.now in
    let k = c.args.k in
    let pre = c.requires in
    let w = c.args.weights in
    let least : c.min.result ≡ min (region F k).z (get_or w.least.now (c.nth-number.result - 1) 0) =
    c.min.ensures ∙ ap₂ min (held_z _ (region F k) c.region_of-z.ensures) c.at-outer.ensures.least in
    rw (least, c.at-outer.ensures.around)
    (weigh_same (is_known c.args.self.now.with_stretches) w.least.now w.around.now k c.nth-number.result pre.k_bound c.if-number-eq0.false (is-parent (goal.at.returns-then-same_stretch c).After-nth-number) pre.weighed_below s (sym c.same_stretch.ensures ∙ c.if-same_stretch.true))

pub returns-else-same_stretch : goal.returns-else-same_stretch
returns-else-same_stretch c s =
    let F = family_of c.args.self.now.file.now in
    let k = c.args.k in
    let pre = c.requires in
    let w = c.args.weights in
    let around : c.min-else-same_stretch.result ≡ min (get_or w.least.now (c.nth-number.result - 1) 0) (get_or w.around.now (c.nth-number.result - 1) 0) =
    c.min-else-same_stretch.ensures ∙ ap₂ min c.at-outer.ensures.least c.at-outer.ensures.around in
    rw (held_z _ (region F k) c.region_of-z.ensures, around)
    (weigh_other (is_known c.args.self.now.with_stretches) w.least.now w.around.now k c.nth-number.result pre.k_bound c.if-number-eq0.false (is-parent (goal.at.returns-else-same_stretch c).After-nth-number) pre.weighed_below s (sym c.same_stretch.ensures ∙ c.if-same_stretch.false))
