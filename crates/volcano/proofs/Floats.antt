-- The order of the numbers of IEEE 754, for the comparisons that rules and causes are written with.
--   finite_is          what is not finite, in std's word
--   scale_is           what is outside 0 to 1, or no number, is not from 0 to 1
--   none_between       no number lies from one number to a smaller one
--   zero_number, zero_not_under   a zero, of either sign, is a number, and not under 0
--   zero_first         a p-value that is not refused is at least either zero
--   zero_side          a finite number is at least a zero, or at most the zero of the other sign
--   numbers_if_under   what is under something, and what is over it, are numbers
use Prim.Native.Nat.{ℕ, ◌+◌, ◌*◌, ◌<◌, ◌≤◌}
use native.Mathlib.Nat.{mul-le-mul_right, eq-or-lt_of_le}
use native.Mathlib.Omega.{arith}
use mathlib.Core.Bool.{Bool, true, false, cond, not, ◌&&◌, ◌||◌, true≢false}
use mathlib.Core.Path.{◌≡◌, refl, sym, ◌∙◌}
use mathlib.Core.Logic.{⊎_elim}
use lib.IntN.{ℤ, pos}
use lib.Dec.{eqb, ltb}
use lib.Ieee.{Float, nan, inf, fin, up, down, below, level, lt, le, eq, neg, is_nan, odd, of_fields, of_bits}
use lib.Ieee.Fits.{down_pos}
use borrow.Author.Tests.{ltb-true, ltb-false, lt-ltb, eqb-true, eq-eqb}
use Rattle.std.specs.Float.{NotNan, float_is_finite}
use Rattle.std.proofs.lemmas.Float.{T_from_true, T_from_false, lt_irrefl, lt_of_lt_of_le, lt_of_not-le}
use Rattle.reader.proofs.Bools.{test, clash, refuted, and_l, and_r, and_both, or_l, or_r, or_either, or_fails_l, or_fails_r}
use Rattle.volcano.specs.Rules.{zero, one, off_scale, not_finite}

pub finite_is : (x : Float) → not (float_is_finite x) ≡ not_finite x
unfolding float_is_finite not_finite
finite_is nan = refl
finite_is (inf s) = refl
finite_is (fin s m e) = refl

-- Of two numbers, one is at most the other, or the other is under it.
number_order : (x y : Float) → NotNan x → NotNan y → not (le x y) ≡ lt y x
number_order x y a b =
    ⊎_elim
    (λ (e : le x y ≡ true).
    rw e (sym (refuted (lt y x) (λ h. lt_irrefl y (lt_of_lt_of_le y x y (T_from_true (lt y x) h) (T_from_true (le x y) e))))))
    (λ (e : le x y ≡ false).
    rw e (sym (⊎_elim (λ t. t) (λ f. absurd (rw f at (lt_of_not-le x y a b (T_from_false (le x y) e)))) (test (lt y x)))))
    (test (le x y))

not_both : (a b : Bool) → not (a && b) ≡ not a || not b
not_both true b = refl
not_both false b = refl

number_scale : (p : Float) → NotNan p → not (le zero p && le p one) ≡ lt p zero || lt one p
unfolding of_bits of_fields odd is_nan
number_scale p h =
    not_both (le zero p) (le p one) ∙ rw (number_order zero p tt h, number_order p one h tt) refl

pub scale_is : (p : Float) → not (le zero p && le p one) ≡ off_scale p
unfolding off_scale is_nan le lt eq of_bits of_fields odd
scale_is nan = refl
scale_is (inf s) = number_scale (inf s) tt
scale_is (fin s m e) = number_scale (fin s m e) tt

-- A signed number, as what it has above zero and what it has below.

abbrev above : Bool → ℕ → ℕ
above s a = cond s 0 a

abbrev beneath : Bool → ℕ → ℕ
beneath s a = cond s a 0

le_facts : (s : Bool) (a : ℕ) (t : Bool) (b : ℕ) → below s a t b || level s a t b ≡ true → above s a + beneath t b ≤ above t b + beneath s a
le_facts false a false b h =
    ⊎_elim (λ (l : ltb a b ≡ true). omega (arith, ltb-true a b l)) (λ (q : eqb a b && true ≡ true). omega (arith, eqb-true a b (and_l (eqb a b) true q))) (or_either (ltb a b) (eqb a b && true) h)
le_facts false a true b h = omega (arith, eqb-true a b (and_l (eqb a b) (eqb a 0) h), eqb-true a 0 (and_r (eqb a b) (eqb a 0) h))
le_facts true a false b h = omega arith
le_facts true a true b h =
    ⊎_elim (λ (l : ltb b a ≡ true). omega (arith, ltb-true b a l)) (λ (q : eqb a b && true ≡ true). omega (arith, eqb-true a b (and_l (eqb a b) true q))) (or_either (ltb b a) (eqb a b && true) h)

le_holds : (s : Bool) (a : ℕ) (t : Bool) (b : ℕ) → above s a + beneath t b ≤ above t b + beneath s a → below s a t b || level s a t b ≡ true
le_holds false a false b h =
    ⊎_elim
    (λ (q : a ≡ b). or_r (ltb a b) (eqb a b && true) (and_both (eqb a b) true (eq-eqb a b q) refl))
    (λ (l : a < b). or_l (ltb a b) (eqb a b && true) (lt-ltb a b l))
    (eq-or-lt_of_le (omega arith))
le_holds false a true b h = and_both (eqb a b) (eqb a 0) (eq-eqb a b (omega arith)) (eq-eqb a 0 (omega arith))
le_holds true a false b h =
    ⊎_elim
    (λ (q : 0 ≡ a + b). or_r (ltb 0 (a + b)) (eqb a b && eqb a 0) (and_both (eqb a b) (eqb a 0) (eq-eqb a b (omega arith)) (eq-eqb a 0 (omega arith))))
    (λ (l : 0 < a + b). or_l (ltb 0 (a + b)) (eqb a b && eqb a 0) (lt-ltb 0 (a + b) l))
    (eq-or-lt_of_le (omega arith))
le_holds true a true b h =
    ⊎_elim
    (λ (q : b ≡ a). or_r (ltb b a) (eqb a b && true) (and_both (eqb a b) true (eq-eqb a b (sym q)) refl))
    (λ (l : b < a). or_l (ltb b a) (eqb a b && true) (lt-ltb b a l))
    (eq-or-lt_of_le (omega arith))

lt_facts : (s : Bool) (a : ℕ) (t : Bool) (b : ℕ) → below s a t b ≡ true → above s a + beneath t b < above t b + beneath s a
lt_facts false a false b h = omega (arith, ltb-true a b h)
lt_facts false a true b h = absurd (clash h refl)
lt_facts true a false b h = omega (arith, ltb-true 0 (a + b) h)
lt_facts true a true b h = omega (arith, ltb-true b a h)

lt_fails : (s : Bool) (a : ℕ) (t : Bool) (b : ℕ) → below s a t b ≡ false → above t b + beneath s a ≤ above s a + beneath t b
lt_fails false a false b h = omega (arith, ltb-false a b h)
lt_fails false a true b h = omega arith
lt_fails true a false b h = omega (arith, ltb-false 0 (a + b) h)
lt_fails true a true b h = omega (arith, ltb-false b a h)

-- No number lies from one number to a smaller one.

above_times : (s : Bool) (a d : ℕ) → above s (a * d) ≡ above s a * d
above_times true a d = omega arith
above_times false a d = refl

beneath_times : (s : Bool) (a d : ℕ) → beneath s (a * d) ≡ beneath s a * d
beneath_times true a d = refl
beneath_times false a d = omega arith

-- three fractions, each a difference over a number: the first at most the second, that at most the third, and the third under the first
round_trip : (a₁ a₀ a p₁ p₀ p b₁ b₀ b : ℕ) → 0 < p → a₁ * p + p₀ * a ≤ p₁ * a + a₀ * p → p₁ * b + b₀ * p ≤ b₁ * p + p₀ * b → b₁ * a + a₀ * b < a₁ * b + b₀ * a → ⊥
round_trip a₁ a₀ a p₁ p₀ p b₁ b₀ b some low high under =
    omega (arith, mul-le-mul_right b low, mul-le-mul_right a high, mul-le-mul_right p under)

module _ (r : Bool) (k : ℕ) (c : ℤ) (s : Bool) (m : ℕ) (e : ℤ) (t : Bool) (n : ℕ) (d : ℤ) where
  finite_apart : lt (fin t n d) (fin r k c) ≡ true → le (fin r k c) (fin s m e) ≡ true → le (fin s m e) (fin t n d) ≡ true → ⊥
  unfolding le lt eq
  finite_apart l a b =
      round_trip (above r (k * up c)) (beneath r (k * up c)) (down c) (above s (m * up e)) (beneath s (m * up e)) (down e) (above t (n * up d)) (beneath t (n * up d)) (down d)
      (down_pos e)
      (omega (arith, le_facts r (k * up c * down e) s (m * up e * down c) a, above_times r (k * up c) (down e), beneath_times r (k * up c) (down e), above_times s (m * up e) (down c), beneath_times s (m * up e) (down c)))
      (omega (arith, le_facts s (m * up e * down d) t (n * up d * down e) b, above_times s (m * up e) (down d), beneath_times s (m * up e) (down d), above_times t (n * up d) (down e), beneath_times t (n * up d) (down e)))
      (omega (arith, lt_facts t (n * up d * down c) r (k * up c * down d) l, above_times t (n * up d) (down c), beneath_times t (n * up d) (down c), above_times r (k * up c) (down d), beneath_times r (k * up c) (down d)))

apart : (low p high : Float) → lt high low ≡ true → le low p ≡ true → le p high ≡ true → ⊥
unfolding le lt eq
apart nan p high l a b = clash a refl
apart (inf s) nan high l a b = clash a refl
apart (inf true) (inf t) nan l a b = clash l refl
apart (inf true) (inf t) (inf true) l a b = clash l refl
apart (inf true) (inf t) (inf false) l a b = clash l refl
apart (inf true) (inf t) (fin u n d) l a b = clash l refl
apart (inf true) (fin t m e) nan l a b = clash l refl
apart (inf true) (fin t m e) (inf true) l a b = clash l refl
apart (inf true) (fin t m e) (inf false) l a b = clash l refl
apart (inf true) (fin t m e) (fin u n d) l a b = clash l refl
apart (inf false) (inf true) high l a b = clash a refl
apart (inf false) (inf false) nan l a b = clash l refl
apart (inf false) (inf false) (inf true) l a b = clash b refl
apart (inf false) (inf false) (inf false) l a b = clash l refl
apart (inf false) (inf false) (fin t n d) l a b = clash b refl
apart (inf false) (fin t m e) high l a b = clash a refl
apart (fin r k c) nan high l a b = clash a refl
apart (fin r k c) (inf true) high l a b = clash a refl
apart (fin r k c) (inf false) nan l a b = clash l refl
apart (fin r k c) (inf false) (inf true) l a b = clash b refl
apart (fin r k c) (inf false) (inf false) l a b = clash l refl
apart (fin r k c) (inf false) (fin t n d) l a b = clash b refl
apart (fin r k c) (fin s m e) nan l a b = clash l refl
apart (fin r k c) (fin s m e) (inf true) l a b = clash b refl
apart (fin r k c) (fin s m e) (inf false) l a b = clash l refl
apart (fin r k c) (fin s m e) (fin t n d) l a b = finite_apart r k c s m e t n d l a b

pub none_between : (low p high : Float) → lt high low ≡ true → le low p && le p high ≡ false
none_between low p high l =
    refuted (le low p && le p high) (λ h. apart low p high l (and_l (le low p) (le p high) h) (and_r (le low p) (le p high) h))

-- Zeros.

-- 0.0 and -0.0
abbrev pub zero_of : Bool → Float
zero_of s = cond s (neg zero) zero

zero_is : (s : Bool) → zero_of s ≡ fin s 0 (pos 0)
unfolding of_bits of_fields odd neg
zero_is true = refl
zero_is false = refl

pub zero_number : (s : Bool) → is_nan (zero_of s) ≡ false
unfolding is_nan
zero_number s = rw (zero_is s)

pub zero_not_under : (s : Bool) → lt (zero_of s) zero ≡ false
unfolding lt
zero_not_under s = rw (zero_is s, zero_is false) (sign s)
  where
    sign : (s : Bool) → below s (0 * up (pos 0) * down (pos 0)) false (0 * up (pos 0) * down (pos 0)) ≡ false
    sign true = refl
    sign false = refl

finite_zero_first : (s : Bool) (p : Float) → is_nan p ≡ false → lt p (fin false 0 (pos 0)) ≡ false → le (fin s 0 (pos 0)) p ≡ true
unfolding le lt eq is_nan
finite_zero_first s nan h k = absurd (true≢false h)
finite_zero_first s (inf true) h k = absurd (true≢false k)
finite_zero_first s (inf false) h k = refl
finite_zero_first true (fin t n d) h k =
    le_holds true (0 * up (pos 0) * down d) t (n * up d * down (pos 0)) (omega (arith, lt_fails t (n * up d * down (pos 0)) false (0 * up (pos 0) * down d) k))
finite_zero_first false (fin t n d) h k =
    le_holds false (0 * up (pos 0) * down d) t (n * up d * down (pos 0)) (lt_fails t (n * up d * down (pos 0)) false (0 * up (pos 0) * down d) k)

pub zero_first : (s : Bool) (p : Float) → off_scale p ≡ false → le (zero_of s) p ≡ true
unfolding off_scale
zero_first s p h =
    rw (zero_is s)
    (finite_zero_first s p (or_fails_l (is_nan p) (lt p zero || lt one p) h)
    (rw (zero_is false) at (or_fails_l (lt p zero) (lt one p) (or_fails_r (is_nan p) (lt p zero || lt one p) h))))

finite_zero_side : (s : Bool) (x : Float) → not_finite x ≡ false → le (fin s 0 (pos 0)) x || le x (neg (fin s 0 (pos 0))) ≡ true
unfolding le lt eq neg not_finite
finite_zero_side s nan h = absurd (true≢false h)
finite_zero_side s (inf t) h = absurd (true≢false h)
finite_zero_side false (fin false n d) h = or_l _ _ (le_holds false (0 * up (pos 0) * down d) false (n * up d * down (pos 0)) (omega arith))
finite_zero_side true (fin false n d) h = or_l _ _ (le_holds true (0 * up (pos 0) * down d) false (n * up d * down (pos 0)) (omega arith))
finite_zero_side false (fin true n d) h = or_r (le (fin false 0 (pos 0)) (fin true n d)) (le (fin true n d) (fin true 0 (pos 0))) (le_holds true (n * up d * down (pos 0)) true (0 * up (pos 0) * down d) (omega arith))
finite_zero_side true (fin true n d) h = or_r (le (fin true 0 (pos 0)) (fin true n d)) (le (fin true n d) (fin false 0 (pos 0))) (le_holds true (n * up d * down (pos 0)) false (0 * up (pos 0) * down d) (omega arith))

pub zero_side : (s : Bool) (x : Float) → not_finite x ≡ false → le (zero_of s) x || le x (neg (zero_of s)) ≡ true
zero_side s x h = rw (zero_is s) (finite_zero_side s x h)

-- What is not a number is under nothing, and nothing is under it.

pub numbers_if_under : (x y : Float) → lt x y ≡ true → (is_nan x ≡ false) × (is_nan y ≡ false)
unfolding lt is_nan
numbers_if_under nan y h = absurd (clash h refl)
numbers_if_under (inf s) nan h = absurd (clash h refl)
numbers_if_under (inf s) (inf t) h = (refl, refl)
numbers_if_under (inf s) (fin t n d) h = (refl, refl)
numbers_if_under (fin s m e) nan h = absurd (clash h refl)
numbers_if_under (fin s m e) (inf t) h = (refl, refl)
numbers_if_under (fin s m e) (fin t n d) h = (refl, refl)
