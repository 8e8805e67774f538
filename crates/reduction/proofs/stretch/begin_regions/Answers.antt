use Prim.Native.Nat.{ℕ, ◌+◌}
use native.Mathlib.Omega.{arith}
use mathlib.Core.Path.{◌≡◌, sym, subst, ◌∙◌}
use Rattle.reader.specs.Family.{family_of}
use Rattle.reader.proofs.Parsed.{held_first}
use Rattle.reduction.specs.Private.Passes.{Begun}
use Rattle.reduction.proofs.Stretching.OpenRegions.{still_begun, one_begins, all_begun}
use Rattle.reduction.proofs.stretch.begin_regions.Goals as goal

pub loop-k-init : goal.loop-k-init
loop-k-init c =
    still_begun _ c.requires.formed c.requires.begun

pub returns-then-first-leaf : goal.returns-then-first-leaf
returns-then-first-leaf c =
    let pre = c.requires in
    record {
      begun = all_begun _ pre.formed c.args.leaf.0 c.args.begun c.loop-k.k _ _ pre.begun c.loop-k.auto.k c.loop-k.invariant (λ l e. c.if-first-leaf.true (held_first _ _ c.region_of.ensures ∙ e));
      more = c.loop-k.auto.k;
    }

pub loop-k-preserved : goal.loop-k-preserved
loop-k-preserved c =
    let pre = c.requires in
    one_begins _ pre.formed c.args.leaf.0 c.loop-k.k c.args.peptide.0 c.loop-k.lows (omega arith) (omega (arith, pre.formed.regions_most)) (sym (held_first _ _ c.region_of.ensures) ∙ c.if-first-leaf.false) pre.sums c.loop-k.invariant

pub returns : goal.returns
returns c =
    let pre = c.requires in
    let end : c.loop-k.k ≡ c.region_count-regions.result = omega (arith, pre.begun.lows.few) in
    record {
      begun = subst (λ (k : ℕ). Begun (family_of c.args.file.now) (c.args.leaf.0 + 1) k c.loop-k.lows) end (all_begun _ pre.formed c.args.leaf.0 c.args.begun c.loop-k.k _ _ pre.begun c.loop-k.auto.k c.loop-k.invariant (λ l e. omega arith));
      more = omega arith;
    }
