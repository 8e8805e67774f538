-- Tests read as facts; the members of a list, searches through it, and sums over it.
--   test .. or_either     laws of tests, handed on from reader's Bools: its head says what each says
--   le_or_lt .. those_same   laws of the members of a list, handed on from reader's Members
--   Found                 what a search finds: a member that passes the test
--   some_in, some_found   a search passes if a member does, and one that passes has found a member
--   nowhere_facts         where `not (some t L)` passes, no member passes
--   nowhere_holds         where no member passes, `not (some t L)` does
--   search_for            a search is a choice: a member that passes, or none does
--   sum_mono              with no term larger the sum is not larger
--   sum_same              with all terms the same the sum is the same
--   sum_less              one term smaller, and none larger: the sum is smaller
--   sum_ones              a 1 for each member adds up to the length
use Prim.Native.Nat.{ℕ, ◌≤◌, ◌<◌}
use mathlib.Core.Bool.{Bool, true, not}
use mathlib.Core.List.{List, [], ◌∷◌}
use mathlib.Core.Logic.{◌⊎◌, inl, inr, ⊎_elim}
use mathlib.Core.Path.{◌≡◌, refl, sym, ap}
use native.Mathlib.Omega.{arith}
use lib.ListN.{length}
use borrow.Author.Tests.{not-true}
pub use Rattle.reader.proofs.Bools.{test, clash, refuted, both_ways, and_l, and_r, and_both, ands, or_l, or_r, or_either}
pub use Rattle.reader.proofs.Members.{le_or_lt, bit, bit_few, bit_mono, eqb_bit, Place, place, in_at, in_append, in_those, those_in, those_same}
use Rattle.bounds.specs.Ranges.{some, sum_over, In}

module _ {A : Type 0} where
  -- Searches.

  pub record Found (t : A → Bool) (L : List A) : Type 0 where
    pub it : A
    pub member : In it L
    pub passes : t it ≡ true

  pub some_in : (t : A → Bool) (L : List A) (x : A) → In x L → t x ≡ true → some t L ≡ true
  unfolding some
  some_in t [] x x4 h = elim x4 [ ]
  some_in t (y ∷ L) x (inl e) h = or_l (t y) (some t L) (rw e at h)
  some_in t (y ∷ L) x (inr i) h = or_r (t y) (some t L) (some_in t L x i h)

  later : (t : A → Bool) (y : A) (L : List A) → Found t L → Found t (y ∷ L)
  later t y L f = record { it = f.it; member = inr f.member; passes = f.passes }

  pub some_found : (t : A → Bool) (L : List A) → some t L ≡ true → Found t L
  unfolding some
  some_found t [] e = absurd (clash refl (sym e))
  some_found t (y ∷ L) e =
      ⊎_elim (λ h. record { it = y; member = inl refl; passes = h }) (λ h. later t y L (some_found t L h)) (or_either (t y) (some t L) e)

  pub nowhere_facts : (t : A → Bool) (L : List A) → not (some t L) ≡ true → (x : A) → In x L → t x ≡ true → ⊥
  nowhere_facts t L e x i h = clash (some_in t L x i h) (not-true (some t L) e)

  pub nowhere_holds : (t : A → Bool) (L : List A) → ((x : A) → In x L → t x ≡ true → ⊥) → not (some t L) ≡ true
  nowhere_holds t L h = ap not (refuted (some t L) (λ e. let f = some_found t L e in h f.it f.member f.passes))

  pub search_for : (t : A → Bool) (L : List A) → Found t L ⊎ ((x : A) → In x L → t x ≡ true → ⊥)
  search_for t L = ⊎_elim (λ e. inl (some_found t L e)) (λ e. inr (nowhere_facts t L (ap not e))) (test (some t L))

  -- Sums.

  pub sum_mono : (f g : A → ℕ) (L : List A) → ((x : A) → In x L → f x ≤ g x) → sum_over f L ≤ sum_over g L
  unfolding sum_over
  sum_mono f g [] h = omega arith
  sum_mono f g (y ∷ L) h = omega (arith, h y (inl refl), sum_mono f g L (λ x i. h x (inr i)))

  pub sum_same : (f g : A → ℕ) (L : List A) → ((x : A) → In x L → f x ≡ g x) → sum_over f L ≡ sum_over g L
  sum_same f g L h = omega (arith, sum_mono f g L (λ x i. omega (arith, h x i)), sum_mono g f L (λ x i. omega (arith, h x i)))

  pub sum_less : (f g : A → ℕ) (L : List A) (x : A) → In x L → f x < g x → ((y : A) → In y L → f y ≤ g y) → sum_over f L < sum_over g L
  unfolding sum_over
  sum_less f g [] x x5 h le = elim x5 [ ]
  sum_less f g (y ∷ L) x (inl e) h le = omega (arith, rw e at h, sum_mono f g L (λ u i. le u (inr i)))
  sum_less f g (y ∷ L) x (inr i) h le = omega (arith, le y (inl refl), sum_less f g L x i h (λ u j. le u (inr j)))

  pub sum_ones : (L : List A) → sum_over (λ x. 1) L ≡ length L
  unfolding sum_over
  sum_ones [] = refl
  sum_ones (y ∷ L) = omega (arith, sum_ones L)
