-- Each test is one of the facts of a file that is laid down as it should be.
use Prim.Native.Nat.{ℕ}
use native.Mathlib.Omega.{arith}
use mathlib.Core.Bool.{not, true}
use mathlib.Core.Path.{◌≡◌, sym, ap, ◌∙◌}
use lib.ListN.{length}
use lib.Dec.{eqb}
use Rattle.reader.proofs.Bools.{clash, passes}
use Rattle.reader.proofs.Judged.{laid_down, length_laid_down, eq_if_same, same_if_eq}
use Rattle.reader.proofs.causes.bad_layout.Goals as goal
use Rattle.reader.proofs.causes.bad_layout.Goals.{then-number_at-lengths_at, else-number_at-lengths_at, then-number_at-regions_offset, else-number_at-regions_offset}

differs : {a b : ℕ} → not (eqb a b) ≡ true → a ≡ b → ⊥
differs h e = clash h (same_if_eq _ _ e)

pub returns-then-number_at-total : goal.returns-then-number_at-total
returns-then-number_at-total c =
    c.if-number_at-total.true
    ∙ sym (passes _ (λ f.
    let l = laid_down _ c.args.file.now f in
    elim c.if-number_at-regions_offset.branch [
      | then-number_at-regions_offset w ↦ elim c.if-number_at-lengths_at.branch [
        | then-number_at-lengths_at v ↦ v.if-number_at-lengths_at.true (omega (arith, l.lengths))
        | else-number_at-lengths_at v ↦ differs (sym v.value-is ∙ w.if-number_at-regions_offset.true) (omega (arith, l.regions, v.number_at-else-number_at-lengths_at.ensures))
      ]
      | else-number_at-regions_offset w ↦ differs (sym w.value-is ∙ c.if-number_at-total.true) (omega (arith, l.total, w.number_at-else-number_at-regions_offset.ensures))
    ]))

pub returns-else-number_at-total : goal.returns-else-number_at-total
returns-else-number_at-total c =
    let s = c.args.file.now in
    elim c.if-number_at-regions_offset.branch [
      | then-number_at-regions_offset w ↦ absurd (clash (w.value-is ∙ w.if-number_at-regions_offset.true) c.if-number_at-total.false)
      | else-number_at-regions_offset w ↦ elim c.if-number_at-lengths_at.branch [
        | then-number_at-lengths_at v ↦ absurd (v.if-number_at-lengths_at.true (eq_if_same _ _ (sym v.value-is ∙ w.if-number_at-regions_offset.false)))
        | else-number_at-lengths_at v ↦
            let r = eq_if_same _ _ (sym v.value-is ∙ w.if-number_at-regions_offset.false) in
            let t = eq_if_same _ _ (sym w.value-is ∙ c.if-number_at-total.false) in
            ap (λ (t : ℕ). not (eqb (length s) t)) (omega arith)
            ∙ sym (length_laid_down _ s (omega (arith, v.if-number_at-lengths_at.false)) (omega (arith, r, v.number_at-else-number_at-lengths_at.ensures)) (omega (arith, t, w.number_at-else-number_at-regions_offset.ensures)))
      ]
    ]
