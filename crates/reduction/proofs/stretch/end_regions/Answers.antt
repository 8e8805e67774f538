use Prim.Native.Nat.{◌≤◌, ◌-◌}
use native.Mathlib.Omega.{arith}
use mathlib.Core.Path.{sym, subst, ◌∙◌}
use Rattle.reader.proofs.Parsed.{held_last}
use Rattle.reduction.specs.Private.Passes.{Open}
use Rattle.reduction.proofs.Stretching.OpenRegions.{one_ends, none_ends}
use Rattle.reduction.proofs.stretch.end_regions.Goals as goal

pub returns-then-last-leaf : goal.returns-then-last-leaf
returns-then-last-leaf c =
    none_ends _ c.requires.family.formed c.args.leaf.0 c.loop-number.number _ c.loop-number.invariant (λ h e. c.if-last-leaf.true (held_last _ _ c.region_of.ensures ∙ e))

pub loop-number-preserved : goal.loop-number-preserved
loop-number-preserved c =
    let pre = c.requires in
    let inv = c.loop-number.invariant in
    let some : 1 ≤ c.loop-number.number = omega (arith, c.loop-number-test) in
    let few = inv.few in
    one_ends _ pre.family.formed c.args.leaf.0 c.loop-number.number _ c.args.peptide.0 c.loop-number.highs some (omega (arith, pre.family.formed.regions_most)) inv (sym (held_last _ _ c.region_of.ensures) ∙ c.if-last-leaf.false) pre.sums
    (pre.family.known (c.loop-number.number - 1) (omega arith))

pub returns : goal.returns
returns c =
    let none = c.loop-number-test.false in
    subst (Open _ _ _ _) none (none_ends _ c.requires.family.formed c.args.leaf.0 c.loop-number.number _ c.loop-number.invariant (λ h e. omega arith))
