-- Counts: of a set in a range, and of a set up to a number.
use Prim.Native.Nat.{ℕ, zero, suc, ◌≤◌, ◌<◌}
use mathlib.Core.Bool.{true, false, ◌&&◌}
use mathlib.Core.Logic.{⊎_elim}
use mathlib.Core.Path.{◌≡◌, refl, ap}
use native.Mathlib.Decide.{le_ind}
use native.Mathlib.Nat.{eq-or-lt_of_le}
use native.Mathlib.Omega.{arith}
use Rattle.bounds.specs.Ranges.{Range, Peptides, has, card, count}
use Rattle.bounds.proofs.Basics.Members.{clash, refuted, and_l, and_r, and_both, bit, bit_mono}
use Rattle.bounds.proofs.Basics.Counting.{Subset, none, adding, adding_either, card_mono, card_none, count_mono, count_adding}

-- In a range.

pub count_zero : (m : ℕ) (X : Peptides) (r : Range) → ((p : ℕ) → 0 < p → p ≤ m → has r p ≡ true → X p ≡ true → ⊥) → count m X r ≡ 0
unfolding count
count_zero m X r h =
    card_none m (λ p. has r p && X p)
    (λ p l u. refuted (has r p && X p) (λ e. h p l u (and_l (has r p) (X p) e) (and_r (has r p) (X p) e)))

pub count_one : (m : ℕ) (X : Peptides) (r : Range) (p : ℕ) → 0 < p → p ≤ m → has r p ≡ true → X p ≡ true → 1 ≤ count m X r
count_one m X r p l u h e =
    let only : count m (adding p none) r ≤ count m X r =
    count_mono m (adding p none) X r (λ q k v i f. ⊎_elim (λ d. rw d e) (λ g. absurd (clash g refl)) (adding_either p none q f))
    in
    omega (arith, count_adding m p none r l u refl h)

pub count_card : (m : ℕ) (X : Peptides) (r : Range) → count m X r ≤ card m X
unfolding count
count_card m X r = card_mono m (λ p. has r p && X p) X (λ p l u e. and_r (has r p) (X p) e)

-- all of X is in r
pub card_in : (m : ℕ) (X : Peptides) (r : Range) → Subset m X (has r) → card m X ≤ count m X r
unfolding count
card_in m X r h = card_mono m X (λ p. has r p && X p) (λ p l u e. and_both (has r p) (X p) (h p l u e) e)

-- all of X is in S
pub count_all : (m : ℕ) (X S : Peptides) (r : Range) → Subset m X S → count m X r ≤ count m (λ p. X p && S p) r
count_all m X S r h = count_mono m X (λ p. X p && S p) r (λ p l u i e. and_both (X p) (S p) e (h p l u e))

-- q has every peptide of X that r has
pub count_wider : (m : ℕ) (X : Peptides) (r q : Range) → ((p : ℕ) → 0 < p → p ≤ m → has r p ≡ true → X p ≡ true → has q p ≡ true)
    → count m X r ≤ count m X q
unfolding count
count_wider m X r q h =
    card_mono m (λ p. has r p && X p) (λ p. has q p && X p)
    (λ p l u e.
    let x = and_r (has r p) (X p) e in
    and_both (has q p) (X p) (h p l u (and_l (has r p) (X p) e) x) x)

-- Up to a number.

pub card_up : (X : Peptides) (p q : ℕ) → p ≤ q → card p X ≤ card q X
unfolding card
card_up X p q h = le_ind (λ n. card p X ≤ card n X) (omega arith) (λ n k ih. omega arith) q h

-- q is in X, and adds one
pub card_rise : (X : Peptides) (p q : ℕ) → p < q → X q ≡ true → card p X < card q X
unfolding card
card_rise X p zero h e = absurd (omega arith)
card_rise X p (suc q) h e = rw e (omega (arith, card_up X p q (omega arith)))

-- nothing of X lies after p, up to q
card_flat : (X : Peptides) (p q : ℕ) → p ≤ q → ((x : ℕ) → p < x → x ≤ q → X x ≡ false) → card q X ≤ card p X
unfolding card
card_flat X p =
    le_ind (λ n. ((x : ℕ) → p < x → x ≤ n → X x ≡ false) → card n X ≤ card p X) (λ f. omega arith)
    (λ n k ih f. omega (arith, ih (λ x a b. f x a (omega arith)), ap bit (f (suc n) (omega arith) (omega arith))))

-- nothing of X lies after p and before q
pub card_step : (X : Peptides) (p q : ℕ) → p ≤ q → ((x : ℕ) → p < x → x < q → X x ≡ false) → card q X ≤ suc (card p X)
unfolding card
card_step X p zero h f = omega arith
card_step X p (suc q) h f =
    ⊎_elim (λ e. rw e (omega arith))
    (λ l. omega (arith, card_flat X p q (omega arith) (λ x a b. f x a (omega arith)), bit_mono (X (suc q)) true (λ e. refl)))
    (eq-or-lt_of_le h)
