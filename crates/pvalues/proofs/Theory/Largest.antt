-- The largest number up to a limit that passes a test.
--   largest_here    it is the limit, if that passes
--   largest_below   else it is the largest up to one less
--   largest_twice   the largest for a second test, up to the largest for the first, is the largest for both, if the first is closed downward
use Prim.Native.Nat.{ℕ, zero, suc, ◌-◌, ◌<◌, ◌≤◌}
use mathlib.Core.Bool.{Bool, true, false, ◌&&◌}
use mathlib.Core.Path.{◌≡◌, refl}
use native.Mathlib.Nat.{not-suc-le-zero}
use native.Mathlib.Omega.{arith}
use Rattle.reader.proofs.Bools.{and_l, and_r, and_both}
use Rattle.bounds.specs.Curves.{largest_up_to}
use Rattle.bounds.proofs.Theory.CutTheorem.{largest_most, largest_passes, largest_is}

pub largest_here : (n : ℕ) (p : ℕ → Bool) → p n ≡ true → largest_up_to n p ≡ n
unfolding largest_up_to
largest_here zero p h = refl
largest_here (suc n) p h = rw h

pub largest_below : (n : ℕ) (p : ℕ → Bool) → 0 < n → p n ≡ false → largest_up_to (n - 1) p ≡ largest_up_to n p
unfolding largest_up_to
largest_below zero p l h = absurd (not-suc-le-zero l)
largest_below (suc n) p l h = let e : suc n - 1 ≡ n = omega arith in rw (e, h)

pub largest_twice : (z : ℕ) (p q : ℕ → Bool) → p 0 ≡ true → q 0 ≡ true → ((u v : ℕ) → u ≤ v → p v ≡ true → p u ≡ true)
    → largest_up_to (largest_up_to z p) q ≡ largest_up_to z (λ v. p v && q v)
largest_twice z p q zp zq down =
    let a = largest_up_to z p in
    let b = largest_up_to a q in
    let both : ℕ → Bool = λ v. p v && q v in
    let d = largest_up_to z both in
    let pa = largest_passes z p zp in
    let pd : both d ≡ true = largest_passes z both (and_both (p 0) (q 0) zp zq) in
    let pb : both b ≡ true = and_both (p b) (q b) (down b a (largest_most a q) pa) (largest_passes a q zq) in
    omega (
      arith,
      largest_most a q,
      largest_most z p,
      largest_most z both,
      largest_is z both b (omega (arith, largest_most a q, largest_most z p)) pb,
      largest_is a q d (largest_is z p d (largest_most z both) (and_l (p d) (q d) pd)) (and_r (p d) (q d) pd),
    )
