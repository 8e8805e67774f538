use Prim.Native.Nat.{ℕ, ◌-◌, ◌+◌, ◌≤◌}
use native.Mathlib.Omega.{arith}
use mathlib.Core.Bool.{Bool, false, not}
use mathlib.Core.Path.{◌≡◌, sym, ap, ap₂, ◌∙◌}
use Rattle.reader.specs.Lists.{some_below}
use Rattle.reader.specs.Family.{Family, family_of, region_count, region}
use Rattle.reader.specs.Nesting.{before}
use Rattle.reader.specs.Causes.{cause8}
use Rattle.reader.proofs.Below.{none_below_zero, none_more, none_at, none_below, some_at}
use Rattle.reader.proofs.causes.misordered_region.Goals as goal

-- a region does not stand before the next
abbrev astray : Family → ℕ → Bool
astray F i = not (before (region F i) (region F (i + 1)))

module _ (F : Family) (k : ℕ) (some : 1 ≤ k) where
  -- the test of the region before the k-th one and the k-th
  here : (b : Bool) → b ≡ before (region F (k - 1)) (region F k) → not b ≡ astray F (k - 1)
  here b e = let next : k - 1 + 1 ≡ k = omega arith in ap not e ∙ ap (λ (i : ℕ). not (before (region F (k - 1)) (region F i))) (sym next)

  more : some_below (k - 1) (astray F) ≡ false → astray F (k - 1) ≡ false → some_below (k + 1 - 1) (astray F) ≡ false
  more h t = let next : k - 1 + 1 ≡ k + 1 - 1 = omega arith in rw next at (none_more (astray F) (k - 1) h t)

pub loop-k-init : goal.loop-k-init
loop-k-init c = (c.region_of-r.ensures, none_below_zero _)

pub returns-then-not-before : goal.returns-then-not-before
unfolding cause8
returns-then-not-before c =
    let F = family_of c.args.file.bytes.now in
    let k = c.loop-k.k in
    let b = c.before-in-loop-k.ensures ∙ ap₂ before c.loop-k.invariant.0 c.region-q.ensures in
    sym (some_at (astray F) (region_count F - 1) (k - 1) (omega (arith, c.loop-k-test.true, c.region_count-k-end.ensures)) (sym (here F k c.loop-k.auto.k _ b) ∙ ap not c.if-not-before.true))

pub loop-k-preserved : goal.loop-k-preserved
loop-k-preserved c =
    let F = family_of c.args.file.bytes.now in
    let k = c.loop-k.k in
    let b = c.before-in-loop-k.ensures ∙ ap₂ before c.loop-k.invariant.0 c.region-q.ensures in
    let same : k ≡ k + 1 - 1 = omega arith in
    (c.region-q.ensures ∙ ap (region F) same, more F k c.loop-k.auto.k c.loop-k.invariant.1 (sym (here F k c.loop-k.auto.k _ b) ∙ ap not c.if-not-before.false))

pub returns : goal.returns
unfolding cause8
returns c =
    let F = family_of c.args.file.bytes.now in
    sym (none_below (astray F) (region_count F - 1) (λ i l. none_at (astray F) (c.loop-k.k - 1) i c.loop-k.invariant.1 (omega (arith, l, c.region_count-k-end.ensures))))
