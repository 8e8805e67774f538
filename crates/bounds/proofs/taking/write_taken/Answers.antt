use Prim.Native.Nat.{ℕ, ◌<◌}
use native.Mathlib.Omega.{arith}
use mathlib.Core.List.{List}
use mathlib.Core.Path.{◌≡◌, refl, sym, ap, ap₂, ◌∙◌}
use lib.ListN.{set, get_or}
use mathlib.Core.Bool.{Bool, true, false, cond}
use mir.Val.{bool_byte}
use Rattle.reader.specs.Family.{Region, family_of, region_count}
use Rattle.reader.specs.declared.family.Leaf.{Leaf}
use Rattle.reader.proofs.Parsed.{held_last}
use Rattle.bounds.proofs.Summing.TakenBytes.{until_next, taken_next, taken_all}
use Rattle.bounds.specs.Private.Takes.{takes_region, takes, taken_until}
use Rattle.bounds.proofs.taking.write_taken.Goals as goal
use Rattle.bounds.proofs.taking.write_taken.Goals.{then-is_new, else-is_new}

byte_is : (b : Bool) → bool_byte b ≡ cond b 1 0
byte_is true = refl
byte_is false = refl

pub loop-k-init : goal.loop-k-init
unfolding taken_until
loop-k-init c = record { until = refl; taken = refl }

pub loop-k-preserved : goal.loop-k-preserved
unfolding takes
loop-k-preserved c =
    let F = family_of c.args.file.now in
    let T = c.args.totals.now in
    let k = c.loop-k.k in
    let inv = c.loop-k.invariant in
    let here : k < region_count F = omega arith in
    let is_new : c.is_taken-is_new.result ≡ takes F k (get_or T k 0) (taken_until F T k) =
    c.is_taken-is_new.ensures ∙ ap₂ (λ (r : Region) (u : ℕ). takes_region r (get_or T k 0) u) c.region_of-region.ensures inv.until in
    record {
      until = until_next F T k _ (elim c.if-is_new.branch [ then-is_new w ↦ rw (sym is_new ∙ w.if-is_new.true) (ap (λ (l : Leaf). l.0) w.until-is ∙ held_last _ _ c.region_of-region.ensures) | else-is_new w ↦ rw (sym is_new ∙ w.if-is_new.false) (ap (λ (l : Leaf). l.0) w.until-is ∙ inv.until) ]);
      taken = ap (λ (t : List ℕ). set t k (bool_byte c.is_taken-is_new.result)) inv.taken ∙ taken_next F T c.args.taken.now k _ here (omega (arith, c.requires.taken_room)) (ap bool_byte is_new ∙ byte_is (takes F k (get_or T k 0) (taken_until F T k)));
    }

pub returns : goal.returns
returns c =
    let e : c.loop-k.k ≡ region_count (family_of c.args.file.now) = omega arith in
    rw (taken_all (family_of c.args.file.now) c.args.totals.now) at (rw e at c.loop-k.invariant.taken)
