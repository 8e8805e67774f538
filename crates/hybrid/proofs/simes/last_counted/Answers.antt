-- The quotient of one less than the product is the last number whose product with the level is less than the product.
use Prim.Native.Nat.{ℕ, suc, ◌+◌, ◌-◌, ◌*◌, ◌/◌, ◌<◌, ◌≤◌, min}
use native.Mathlib.Omega.{arith}
use native.Mathlib.Nat.{mul-le-mul, mul_comm, lt-suc_self, div-mul-le_self, div-lt_iff_lt-mul, zero-div}
use mathlib.Core.Logic.{⊎_elim}
use mathlib.Core.Path.{◌≡◌, ap, ◌∙◌}
use Rattle.reader.proofs.Members.{le_or_lt}
use Rattle.hybrid.specs.Private.Simes.{last_counted}
use Rattle.hybrid.proofs.Theory.Slots.{last_counted_none, last_counted_below, last_counted_all}
use Rattle.hybrid.proofs.simes.last_counted.Goals as goal

pub overflow_mul-product : goal.overflow_mul-product
overflow_mul-product c =
    record { fits = omega (arith, mul-le-mul c.requires.p_bound c.requires.m_bound) }

module _ (m level p : ℕ) (some : 0 < level) where
  abbrev last : ℕ
  last = (p * m - 1) / level

  next : p * m - 1 < level * (last + 1)
  next = omega (arith, (div-lt_iff_lt-mul some).0 (lt-suc_self last), mul_comm level (suc last))

  at_most : min last m ≡ last_counted m level p
  at_most =
      ⊎_elim
      (λ (none : p * m ≤ 0).
      let e : p * m - 1 ≡ 0 = omega arith in
      rw (e, zero-div) (omega (arith, last_counted_none m level p (omega arith))))
      (λ (positive : 0 < p * m).
      let under : level * last < p * m = omega (arith, div-mul-le_self (p * m - 1) level, mul_comm level last) in
      ⊎_elim
      (λ (l : m ≤ last). let e : min last m ≡ m = omega arith in e ∙ last_counted_all m level p last under l)
      (λ (l : last < m). let e : min last m ≡ last = omega arith in e ∙ last_counted_below m level p last under (omega (arith, next)) l)
      (le_or_lt m last))
      (le_or_lt (p * m) 0)

pub returns : goal.returns
returns c =
    c.min.ensures ∙ ap (λ (n : ℕ). min (n / c.args.level) c.args.m) c.saturating_sub.ensures ∙ at_most c.args.m c.args.level c.args.p c.requires.level_nonzero
