-- Some, none, the first and how many of the numbers below a limit pass a test.
--   below_suc, below_next   what is below n + 1 is n or below n; for `suc n`, and for a sum `k + 1`
--   last_below              what is below n is at most n - 1
--   none_below_zero         below 0 no number passes
--   none_more               a loop that has found none so far, and none here, has found none below n + 1
--   some_at                 if a number below n passes, some number does
--   none_at                 where none passes, each number below n fails
--   none_below              if each number below n fails, none passes
--   found                   the number that passes, where some number does
--   first_none              where none passes, `first_below` is 0
--   first_at_lem                the first number that passes is k, if k does and none below it; it is given as k + 1
--   count_below_same        tests that agree below n pass as many numbers
--   count_below_none        a test that fails for each number below n passes 0 of them
--   count_one_more          one number more passes p than q: j, if the two agree on all others below n
use Prim.Native.Nat.{ℕ, zero, suc, ◌+◌, ◌-◌, ◌<◌, ◌≤◌}
use native.Mathlib.Nat.{not-suc-le-zero, eq-or-lt_of_le, le_of_suc-le-suc}
use native.Mathlib.Numerals.{add-one}
use native.Mathlib.Omega.{arith}
use mathlib.Core.Bool.{Bool, true, false}
use mathlib.Core.Path.{◌≡◌, refl}
use mathlib.Core.Logic.{◌⊎◌, ⊎_elim}
use Rattle.reader.specs.Lists.{some_below, count_below, first_below}
use Rattle.reader.proofs.Bools.{test, clash, or_l, or_r, or_either, or_neither, or_fails_l, or_fails_r}

pub below_suc : {k n : ℕ} → k < suc n → (k ≡ n) ⊎ (k < n)
below_suc h = eq-or-lt_of_le (le_of_suc-le-suc h)

pub below_next : {j k : ℕ} → j < k + 1 → (j ≡ k) ⊎ (j < k)
below_next h = eq-or-lt_of_le (omega arith)

pub last_below : (i n : ℕ) → i < n → i ≤ n - 1
last_below i n l = omega arith

module _ (p : ℕ → Bool) where
  pub none_below_zero : some_below 0 p ≡ false
  unfolding some_below
  none_below_zero = refl

  pub none_more : (n : ℕ) → some_below n p ≡ false → p n ≡ false → some_below (n + 1) p ≡ false
  unfolding some_below
  none_more n h k = rw add-one (or_neither (some_below n p) (p n) h k)

  pub some_at : (n k : ℕ) → k < n → p k ≡ true → some_below n p ≡ true
  unfolding some_below
  some_at zero k h t = absurd (not-suc-le-zero h)
  some_at (suc n) k h t =
      ⊎_elim
      (λ e. or_r (some_below n p) (p n) (rw (← e) t))
      (λ l. or_l (some_below n p) (p n) (some_at n k l t))
      (below_suc h)

  pub none_at : (n k : ℕ) → some_below n p ≡ false → k < n → p k ≡ false
  none_at n k h l = ⊎_elim (λ t. absurd (clash (some_at n k l t) h)) (λ f. f) (test (p k))

  pub none_below : (n : ℕ) → ((k : ℕ) → k < n → p k ≡ false) → some_below n p ≡ false
  unfolding some_below
  none_below zero h = refl
  none_below (suc n) h = or_neither (some_below n p) (p n) (none_below n (λ k l. h k (omega arith))) (h n (omega arith))

  pub found : (n : ℕ) → some_below n p ≡ true → (k : ℕ) × (k < n) × (p k ≡ true)
  unfolding some_below
  found zero h = absurd (clash h refl)
  found (suc n) h =
      ⊎_elim
      (λ a. let f = found n a in (f.0, omega (arith, f.1), f.2))
      (λ b. (n, omega arith, b))
      (or_either (some_below n p) (p n) h)

  pub first_none : (n : ℕ) → some_below n p ≡ false → first_below n p ≡ 0
  unfolding some_below first_below
  first_none zero h = refl
  first_none (suc n) h = rw (or_fails_l (some_below n p) (p n) h, or_fails_r (some_below n p) (p n) h)

  pub first_at_lem : (n k : ℕ) → k < n → p k ≡ true → ((i : ℕ) → i < k → p i ≡ false) → first_below n p ≡ suc k
  unfolding first_below
  first_at_lem zero k l t h = absurd (not-suc-le-zero l)
  first_at_lem (suc n) k l t h =
      ⊎_elim
      (λ e. rw (none_below n (λ i j. h i (omega (arith, e))), ← e, t))
      (λ j. rw (some_at n k j t, first_at_lem n k j t h))
      (below_suc l)

pub count_below_same : (p q : ℕ → Bool) (n : ℕ) → ((k : ℕ) → k < n → p k ≡ q k) → count_below n p ≡ count_below n q
unfolding count_below
count_below_same p q zero h = refl
count_below_same p q (suc n) h = rw (count_below_same p q n (λ k l. h k (omega arith)), h n (omega arith))

pub count_below_none : (p : ℕ → Bool) (n : ℕ) → ((k : ℕ) → k < n → p k ≡ false) → count_below n p ≡ 0
unfolding count_below
count_below_none p zero h = refl
count_below_none p (suc n) h = rw (count_below_none p n (λ k l. h k (omega arith)), h n (omega arith))

pub count_one_more :
    (p q : ℕ → Bool) (n j : ℕ) → j < n → p j ≡ true → q j ≡ false → ((k : ℕ) → k < n → (k ≡ j → ⊥) → p k ≡ q k)
    → count_below n p ≡ suc (count_below n q)
unfolding count_below
count_one_more p q zero j l t f h = absurd (not-suc-le-zero l)
count_one_more p q (suc n) j l t f h =
    ⊎_elim
    (λ e. rw (← e, t, f, count_below_same p q j (λ k i. h k (omega (arith, e)) (λ d. omega arith))) (omega arith))
    (λ i. rw (count_one_more p q n j i t f (λ k g d. h k (omega arith) d), h n (omega arith) (λ d. omega arith)) (omega arith))
    (below_suc l)
