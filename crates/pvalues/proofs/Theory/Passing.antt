-- When v passes at a threshold.
--   passes_free       v passes with any constant if its excess is 0 or negative
--   passes_is         one inequality says it: where the excess is negative, `excess` is 0
--   passes_weaker     with a larger constant, a smaller gap and more p-values over the threshold, each smaller v passes too
--   passes_constant   .. with a larger constant alone
--   passes_gap        .. with a smaller gap alone
--   passes_over       .. with more p-values over the threshold alone
--   passes_down       the v that pass are closed downward
--   passes_few        v passes if it is at most the number of p-values over the threshold
--   passes_zero       0 passes
--   fails_positive    what fails is not 0
--   passes_no_gap     with a gap of 0 every v passes
--   passes_top        .. so at the threshold 1,000,000
use Prim.Native.Nat.{ℕ, zero, suc, ◌+◌, ◌-◌, ◌*◌, ◌<◌, ◌≤◌}
use mathlib.Core.Bool.{true, false}
use mathlib.Core.Logic.{⊎_elim}
use mathlib.Core.Path.{◌≡◌, sym, ap, ◌∙◌}
use native.Mathlib.Nat.{mul-le-mul, mul-le-mul_left, mul-le-mul_right, le_of_mul-le-mul_right}
use native.Mathlib.Omega.{arith}
use lib.Dec.{leb}
use borrow.Author.Tests.{leb-true, le-leb, lt-leb}
use Rattle.bounds.proofs.Basics.Members.{clash, le_or_lt}
use Rattle.pvalues.specs.FromP.{million, gap, no_excess, excess, passes}

pub passes_free : (C g c v : ℕ) → v * g ≤ million * c → passes C g c v ≡ true
unfolding passes no_excess
passes_free C g c v h = rw (le-leb (v * g) (million * c) h)

pub passes_is : (C g c v : ℕ) → passes C g c v ≡ leb (excess g c v * excess g c v) (C * v * million)
unfolding passes no_excess excess
passes_is C g c v =
    ⊎_elim
    (λ l. passes_free C g c v l ∙ sym (le-leb (e * e) (C * v * million) (let none : e ≡ 0 = omega arith in rw none (omega arith))))
    (λ l. rw (lt-leb (v * g) (million * c) l))
    (le_or_lt (v * g) (million * c))
  where
    e : ℕ
    e = v * g - million * c

-- Also where a difference would be negative, (u g - k) v is at most (v g - k) u for u at most v.
scaled : (g k u v : ℕ) → u ≤ v → (u * g - k) * v ≤ (v * g - k) * u
scaled g k u v h = ⊎_elim none more (le_or_lt (u * g) k)
  where
    none : u * g ≤ k → (u * g - k) * v ≤ (v * g - k) * u
    none l = let e : u * g - k ≡ 0 = omega arith in rw e (omega arith)

    exact : (e f : ℕ) → e + k ≡ u * g → f + k ≡ v * g → e * v ≤ f * u
    exact e f a b = omega (arith, ap (λ (x : ℕ). x * v) a, ap (λ (x : ℕ). x * u) b, mul-le-mul_left k h)

    more : k < u * g → (u * g - k) * v ≤ (v * g - k) * u
    more l = exact (u * g - k) (v * g - k) (omega arith) (omega (arith, mul-le-mul_right g h))

cancelled : (a e u v d : ℕ) → 0 < v → u ≤ v → a * v ≤ e * u → e * e ≤ d * v → a * a ≤ d * u
cancelled a e u v d some h s k =
    le_of_mul-le-mul_right {k = v * v}
    (omega (arith, mul-le-mul s s, mul-le-mul_right (u * u) k, mul-le-mul_left (d * v * u) h))
    (omega (arith, mul-le-mul some some))

pub passes_weaker : (C D g h c d v u : ℕ) → C ≤ D → h ≤ g → c ≤ d → u ≤ v → passes C g c v ≡ true → passes D h d u ≡ true
unfolding excess
passes_weaker C D g h c d zero u constant gap over down p = passes_free D h d u (let z : u ≡ 0 = omega arith in rw z (omega arith))
passes_weaker C D g h c d (suc v) u constant gap over down p =
    passes_is D h d u ∙ le-leb (e * e) (D * u * million) (omega (arith, mul-le-mul less less, square, mul-le-mul_right (u * million) constant))
  where
    e : ℕ
    e = u * h - million * d

    f : ℕ
    f = u * g - million * c

    full : ℕ
    full = suc v * g - million * c

    less : e ≤ f
    less = omega (arith, mul-le-mul_left u gap)

    square : f * f ≤ C * million * u
    square =
        cancelled f full u (suc v) (C * million) (omega arith) down (scaled g (million * c) u (suc v) down)
        (omega (arith, leb-true (full * full) (C * suc v * million) (sym (passes_is C g c (suc v)) ∙ p)))

module _ (C g c v : ℕ) where
  pub passes_constant : (D : ℕ) → C ≤ D → passes C g c v ≡ true → passes D g c v ≡ true
  passes_constant D h = passes_weaker C D g g c c v v h (omega arith) (omega arith) (omega arith)

  pub passes_gap : (h : ℕ) → h ≤ g → passes C g c v ≡ true → passes C h c v ≡ true
  passes_gap h l = passes_weaker C C g h c c v v (omega arith) l (omega arith) (omega arith)

  pub passes_over : (d : ℕ) → c ≤ d → passes C g c v ≡ true → passes C g d v ≡ true
  passes_over d h = passes_weaker C C g g c d v v (omega arith) (omega arith) h (omega arith)

  pub passes_down : (u : ℕ) → u ≤ v → passes C g c v ≡ true → passes C g c u ≡ true
  passes_down u h = passes_weaker C C g g c c v u (omega arith) (omega arith) (omega arith) h

  pub passes_few : g ≤ million → v ≤ c → passes C g c v ≡ true
  passes_few gap few = passes_free C g c v (omega (arith, mul-le-mul few gap))

pub passes_zero : (C g c : ℕ) → passes C g c 0 ≡ true
passes_zero C g c = passes_free C g c 0 (omega arith)

pub fails_positive : (C g c v : ℕ) → passes C g c v ≡ false → 0 < v
fails_positive C g c zero h = absurd (clash (passes_zero C g c) h)
fails_positive C g c (suc v) h = omega arith

pub passes_no_gap : (C c v : ℕ) → passes C 0 c v ≡ true
passes_no_gap C c v = passes_free C 0 c v (omega arith)

pub passes_top : (C c v t : ℕ) → million ≤ t → passes C (gap t) c v ≡ true
unfolding gap
passes_top C c v t h = let none : million - t ≡ 0 = omega arith in rw none (passes_no_gap C c v)
