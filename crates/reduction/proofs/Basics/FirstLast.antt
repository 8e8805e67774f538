-- The first and the last of the numbers 1 to n in a set.
use Prim.Native.Nat.{ℕ, zero, suc, ◌≤◌, ◌<◌}
use mathlib.Core.Bool.{true, false}
use mathlib.Core.Logic.{◌⊎◌, inl, inr, ⊎_elim}
use mathlib.Core.Path.{◌≡◌}
use native.Mathlib.Omega.{arith}
use native.Mathlib.Nat.{eq-or-lt_of_le}
use lib.Dec.{eqb}
use borrow.Author.Tests.{eqb-true, eqb-false}
use Rattle.bounds.specs.Ranges.{Peptides}
use Rattle.bounds.proofs.Basics.Members.{test, clash}
use Rattle.reduction.specs.Reduction.{first_of, last_of}

-- The last one is the number at hand, or the last one below it.
data Last (X : Peptides) (n : ℕ) : Type 0 where
  here : X (suc n) ≡ true → last_of (suc n) X ≡ suc n → Last X n
  below : X (suc n) ≡ false → last_of (suc n) X ≡ last_of n X → Last X n

last_step : (X : Peptides) (n : ℕ) → Last X n
unfolding last_of
last_step X n = ⊎_elim (λ e. here e (rw e)) (λ e. below e (rw e)) (test (X (suc n)))

pub last_of_small : (n : ℕ) (X : Peptides) → last_of n X ≤ n
unfolding last_of
last_of_small zero X = omega arith
last_of_small (suc n) X = go (last_step X n) (last_of_small n X)
  where
    go : Last X n → last_of n X ≤ n → last_of (suc n) X ≤ suc n
    go (here t e) h = omega arith
    go (below t e) h = omega arith

pub last_of_member : (n : ℕ) (X : Peptides) → 1 ≤ last_of n X → X (last_of n X) ≡ true
last_of_member zero X = unfold last_of in λ h. absurd (omega arith)
last_of_member (suc n) X = go (last_step X n) (last_of_member n X)
  where
    go : Last X n → (1 ≤ last_of n X → X (last_of n X) ≡ true) → 1 ≤ last_of (suc n) X → X (last_of (suc n) X) ≡ true
    go (here t e) f h = rw e t
    go (below t e) f h = rw e (f (omega arith))

pub last_of_at_least : (n : ℕ) (X : Peptides) (p : ℕ) → 1 ≤ p → p ≤ n → X p ≡ true → p ≤ last_of n X
last_of_at_least zero X p h k t = absurd (omega arith)
last_of_at_least (suc n) X p h k t = go (last_step X n) (eq-or-lt_of_le k) (λ l. last_of_at_least n X p h l t)
  where
    go : Last X n → (p ≡ suc n) ⊎ (p < suc n) → (p ≤ n → p ≤ last_of n X) → p ≤ last_of (suc n) X
    go (here u e) c f = omega arith
    go (below u e) (inl d) f = absurd (clash t (rw d u))
    go (below u e) (inr l) f = omega (arith, f (omega arith))

-- b is the last one if it is in the set and no later number is
pub last_of_is : (n : ℕ) (X : Peptides) (b : ℕ) → 1 ≤ b → b ≤ n → X b ≡ true → ((p : ℕ) → 1 ≤ p → p ≤ n → X p ≡ true → p ≤ b) → last_of n X ≡ b
last_of_is n X b h k t f =
    let l : b ≤ last_of n X = last_of_at_least n X b h k t in
    let u : last_of n X ≤ b = f (last_of n X) (omega arith) (last_of_small n X) (last_of_member n X (omega arith)) in
    omega arith

-- The first one is one below the number at hand, or that number, or there is none.
data First (X : Peptides) (n : ℕ) : Type 0 where
  earlier : 1 ≤ first_of n X → first_of (suc n) X ≡ first_of n X → First X n
  now : first_of n X ≡ 0 → X (suc n) ≡ true → first_of (suc n) X ≡ suc n → First X n
  none : first_of n X ≡ 0 → X (suc n) ≡ false → first_of (suc n) X ≡ 0 → First X n

first_step : (X : Peptides) (n : ℕ) → First X n
unfolding first_of
first_step X n =
    ⊎_elim
    (λ z. ⊎_elim (λ t. now (eqb-true (first_of n X) 0 z) t (rw (z, t))) (λ t. none (eqb-true (first_of n X) 0 z) t (rw (z, t))) (test (X (suc n))))
    (λ z. earlier (omega (arith, eqb-false (first_of n X) 0 z)) (rw z))
    (test (eqb (first_of n X) 0))

pub first_of_small : (n : ℕ) (X : Peptides) → first_of n X ≤ n
unfolding first_of
first_of_small zero X = omega arith
first_of_small (suc n) X = go (first_step X n) (first_of_small n X)
  where
    go : First X n → first_of n X ≤ n → first_of (suc n) X ≤ suc n
    go (earlier u e) h = omega arith
    go (now u t e) h = omega arith
    go (none u t e) h = omega arith

pub first_of_member : (n : ℕ) (X : Peptides) → 1 ≤ first_of n X → X (first_of n X) ≡ true
first_of_member zero X = unfold first_of in λ h. absurd (omega arith)
first_of_member (suc n) X = go (first_step X n) (first_of_member n X)
  where
    go : First X n → (1 ≤ first_of n X → X (first_of n X) ≡ true) → 1 ≤ first_of (suc n) X → X (first_of (suc n) X) ≡ true
    go (earlier u e) f h = rw e (f u)
    go (now u t e) f h = rw e t
    go (none u t e) f h = absurd (omega arith)

pub first_of_at_most : (n : ℕ) (X : Peptides) (p : ℕ) → 1 ≤ p → p ≤ n → X p ≡ true → (1 ≤ first_of n X) × (first_of n X ≤ p)
first_of_at_most zero X p h k t = absurd (omega arith)
first_of_at_most (suc n) X p h k t = go (first_step X n) (eq-or-lt_of_le k) (λ l. first_of_at_most n X p h l t)
  where
    go : First X n → (p ≡ suc n) ⊎ (p < suc n) → (p ≤ n → (1 ≤ first_of n X) × (first_of n X ≤ p)) → (1 ≤ first_of (suc n) X) × (first_of (suc n) X ≤ p)
    go (earlier u e) (inl d) f = omega (arith, first_of_small n X)
    go (earlier u e) (inr l) f = omega (arith, f (omega arith))
    go (now u v e) (inl d) f = omega arith
    go (now u v e) (inr l) f = absurd (omega (arith, f (omega arith)))
    go (none u v e) (inl d) f = absurd (clash t (rw d v))
    go (none u v e) (inr l) f = absurd (omega (arith, f (omega arith)))

-- a is the first one if it is in the set and no earlier number is
pub first_of_is : (n : ℕ) (X : Peptides) (a : ℕ) → 1 ≤ a → a ≤ n → X a ≡ true → ((p : ℕ) → 1 ≤ p → p ≤ n → X p ≡ true → a ≤ p) → first_of n X ≡ a
first_of_is n X a h k t f =
    let l : (1 ≤ first_of n X) × (first_of n X ≤ a) = first_of_at_most n X a h k t in
    let u : a ≤ first_of n X = f (first_of n X) l.0 (first_of_small n X) (first_of_member n X l.0) in
    omega arith
