-- The least value of a function at 1 to n.
use Prim.Native.Nat.{ℕ, zero, suc, ◌≤◌, ◌<◌}
use mathlib.Core.Logic.{⊎_elim}
use mathlib.Core.Path.{◌≡◌}
use native.Mathlib.Omega.{arith}
use native.Mathlib.Nat.{eq-or-lt_of_le}
use Rattle.bounds.proofs.Basics.Members.{le_or_lt}
use Rattle.hybrid.specs.Hybrid.{least_up_to}

-- it is at most each of the values
pub least_most : (n : ℕ) (f : ℕ → ℕ) (k : ℕ) → 0 < k → k ≤ n → least_up_to n f ≤ f k
unfolding least_up_to
least_most zero f k l u = absurd (omega arith)
least_most (suc zero) f k l u = let e : k ≡ 1 = omega arith in rw e (omega arith)
least_most (suc (suc n)) f k l u =
    ⊎_elim (λ e. rw e (omega arith)) (λ less. omega (arith, least_most (suc n) f k l (omega arith))) (eq-or-lt_of_le u)

-- the k from 1 to n at which the value is at most v
pub record Reached (n : ℕ) (f : ℕ → ℕ) (v : ℕ) : Type 0 where
  pub k : ℕ
  pub some : 0 < k
  pub most : k ≤ n
  pub reaches : f k ≤ v

-- it is one of the values
pub least_reached : (n : ℕ) (f : ℕ → ℕ) → 0 < n → Reached n f (least_up_to n f)
unfolding least_up_to
least_reached zero f l = absurd (omega arith)
least_reached (suc zero) f l = record { k = 1; some = omega arith; most = omega arith; reaches = omega arith }
least_reached (suc (suc n)) f l =
    let before = least_reached (suc n) f (omega arith) in
    ⊎_elim
    (λ (h : least_up_to (suc n) f ≤ f (suc (suc n))). record { k = before.k; some = before.some; most = omega (arith, before.most); reaches = omega (arith, before.reaches) })
    (λ h. record { k = suc (suc n); some = omega arith; most = omega arith; reaches = omega arith })
    (le_or_lt (least_up_to (suc n) f) (f (suc (suc n))))

-- what is at most each of the values, and at least one of them, is it
pub least_is : (n : ℕ) (f : ℕ → ℕ) (v : ℕ) → ((k : ℕ) → 0 < k → k ≤ n → v ≤ f k) → Reached n f v → v ≡ least_up_to n f
least_is n f v below r =
    let l = least_reached n f (omega (arith, r.some, r.most)) in
    omega (arith, below l.k l.some l.most, l.reaches, least_most n f r.k r.some r.most, r.reaches)

-- with no value larger it is not larger
pub least_mono : (n : ℕ) (f g : ℕ → ℕ) → ((k : ℕ) → 0 < k → k ≤ n → f k ≤ g k) → least_up_to n f ≤ least_up_to n g
unfolding least_up_to
least_mono zero f g h = omega arith
least_mono (suc n) f g h =
    let l = least_reached (suc n) g (omega arith) in
    omega (arith, least_most (suc n) f l.k l.some l.most, h l.k l.some l.most, l.reaches)
