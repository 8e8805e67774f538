-- The members of a list, and those that pass a test.
--   le_or_lt      of two numbers the first is at most the second, or the second is smaller
--   same_or_not   two numbers are equal, or they are not
--   bit           1 if the test holds, else 0
--   bit_few       it is at most 1
--   eqb_bit       it is 1 exactly if the test holds
--   bit_mono      a test that passes only if another does has no larger bit
--   Place         where a member stands
--   place         every member stands somewhere
--   in_at         what stands at a place of the list is a member
--   in_append     a member of two lists joined is a member of one of them
--   in_those      a member that passes is among `those`
--   those_in      what is among `those` is a member, and passes
--   those_same    tests that agree on the members choose the same list
use Prim.Native.Nat.{ℕ, zero, suc, ◌≤◌, ◌<◌}
use mathlib.Core.Bool.{Bool, true, false, cond}
use mathlib.Core.List.{List, [], ◌∷◌, ◌++◌}
use mathlib.Core.Logic.{◌⊎◌, inl, inr, ⊎_elim}
use mathlib.Core.Path.{◌≡◌, refl}
use native.Mathlib.Omega.{arith}
use lib.Dec.{eqb, leb}
use lib.ListN.{length, get_or}
use borrow.Author.Tests.{leb-true, leb-false, eqb-true, eqb-false}
use Rattle.reader.specs.Lists.{In, those}
use Rattle.reader.proofs.Bools.{test}

pub le_or_lt : (a b : ℕ) → (a ≤ b) ⊎ (b < a)
le_or_lt a b = ⊎_elim (λ e. inl (leb-true a b e)) (λ e. inr (leb-false a b e)) (test (leb a b))

pub same_or_not : (a b : ℕ) → (a ≡ b) ⊎ (a ≡ b → ⊥)
same_or_not a b = ⊎_elim (λ e. inl (eqb-true a b e)) (λ e. inr (eqb-false a b e)) (test (eqb a b))

abbrev pub bit : Bool → ℕ
bit b = cond b 1 0

pub bit_few : (b : Bool) → bit b ≤ 1
bit_few true = omega arith
bit_few false = omega arith

pub bit_mono : (a b : Bool) → (a ≡ true → b ≡ true) → bit a ≤ bit b
bit_mono true b h = rw (h refl) (omega arith)
bit_mono false b h = omega arith

pub eqb_bit : (b : Bool) → eqb (bit b) 1 ≡ b
eqb_bit true = refl
eqb_bit false = refl

pub in_append : {A : Type 0} (x : A) (L M : List A) → In x (L ++ M) → In x L ⊎ In x M
in_append x [] M i = inr i
in_append x (y ∷ L) M (inl e) = inl (inl e)
in_append x (y ∷ L) M (inr i) = ⊎_elim (λ j. inl (inr j)) inr (in_append x L M i)

module _ {A : Type 0} where
  pub record Place (x : A) (L : List A) (d : A) : Type 0 where
    pub at : ℕ
    pub in_range : at < length L
    pub there : x ≡ get_or L at d

  pub place : (d : A) (L : List A) (x : A) → In x L → Place x L d
  place d [] x i = elim i [ ]
  place d (y ∷ L) x (inl e) = record { at = 0; in_range = omega arith; there = e }
  place d (y ∷ L) x (inr i) = let p = place d L x i in record { at = suc p.at; in_range = omega arith; there = p.there }

  pub in_at : (d : A) (L : List A) (k : ℕ) → k < length L → In (get_or L k d) L
  in_at d [] k h = absurd (omega arith)
  in_at d (y ∷ L) zero h = inl refl
  in_at d (y ∷ L) (suc k) h = inr (in_at d L k (omega arith))

  -- `those` puts an element before the rest if it passes
  put : (b : Bool) (y : A) (L : List A) (x : A) → In x L → In x (cond b (y ∷ L) L)
  put true y L x i = inr i
  put false y L x i = i

  unput : (b : Bool) (y : A) (L : List A) (x : A) → In x (cond b (y ∷ L) L) → ((x ≡ y) × (b ≡ true)) ⊎ In x L
  unput true y L x (inl e) = inl (e, refl)
  unput true y L x (inr i) = inr i
  unput false y L x i = inr i

  pub in_those : (t : A → Bool) (L : List A) (x : A) → In x L → t x ≡ true → In x (those t L)
  unfolding those
  in_those t [] x i h = elim i [ ]
  in_those t (y ∷ L) x (inl e) h = rw (rw e at h) (inl e)
  in_those t (y ∷ L) x (inr i) h = put (t y) y (those t L) x (in_those t L x i h)

  pub those_in : (t : A → Bool) (L : List A) (x : A) → In x (those t L) → In x L × (t x ≡ true)
  unfolding those
  those_in t [] x i = absurd i
  those_in t (y ∷ L) x i =
      ⊎_elim (λ f. (inl f.0, rw f.0 f.1)) (λ j. let f = those_in t L x j in (inr f.0, f.1)) (unput (t y) y (those t L) x i)

  pub those_same : (t u : A → Bool) (L : List A) → ((x : A) → In x L → t x ≡ u x) → those t L ≡ those u L
  unfolding those
  those_same t u [] h = refl
  those_same t u (y ∷ L) h = cc (h y (inl refl), those_same t u L (λ x i. h x (inr i)))
