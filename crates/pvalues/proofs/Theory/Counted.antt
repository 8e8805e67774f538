-- How many elements of a list pass a test.
--   those_fewer    a test that passes only if another does passes no more
--   some_those     where a member passes, it is not 0
--   those_some     where it is not 0, a member passes
--   part_counted   the elements of a list from place low to before place high, counted by their places
use Prim.Native.Nat.{ℕ, zero, suc, ◌+◌, ◌-◌, ◌<◌, ◌≤◌, min}
use mathlib.Core.Bool.{Bool, true, false, ◌&&◌}
use mathlib.Core.List.{List, [], ◌∷◌}
use mathlib.Core.Logic.{inl, inr, ⊎_elim}
use mathlib.Core.Path.{◌≡◌, refl}
use native.Mathlib.Omega.{arith}
use lib.ListN.{length, get_or, take, drop, length-drop}
use lib.Seq.{take-suc, get_or-drop}
use lib.Dec.{leb, ltb}
use borrow.Author.Tests.{ltb-false, leb-false}
use Rattle.reader.specs.Lists.{count_below}
use Rattle.reader.proofs.Bools.{and_fails}
use Rattle.sorting.proofs.Those.{those_first, those_last}
use Rattle.bounds.specs.Ranges.{Range, In, has, those}
use Rattle.bounds.proofs.Basics.Members.{test, bit, bit_mono, Found, in_those, those_in}
use Rattle.bounds.proofs.Basics.Nesting.{has_facts}

module _ {A : Type 0} (t : A → Bool) where
  pub some_those : (x : A) (L : List A) → In x L → t x ≡ true → 0 < length (those t L)
  some_those x L i h = member (those t L) (in_those t L x i h)
    where
      member : (M : List A) → In x M → 0 < length M
      member [] j = elim j [ ]
      member (y ∷ M) j = omega arith

  pub those_some : (L : List A) → 0 < length (those t L) → Found t L
  those_some L h = first (those t L) h (those_in t L)
    where
      first : (M : List A) → 0 < length M → ((x : A) → In x M → In x L × (t x ≡ true)) → Found t L
      first [] l f = absurd (omega arith)
      first (y ∷ M) l f = record { it = y; member = (f y (inl refl)).0; passes = (f y (inl refl)).1 }

pub those_fewer : {A : Type 0} (t u : A → Bool) (L : List A) → ((x : A) → In x L → t x ≡ true → u x ≡ true)
    → length (those t L) ≤ length (those u L)
unfolding those
those_fewer t u [] h = omega arith
those_fewer t u (x ∷ L) h =
    omega (arith, those_first t x L, those_first u x L, bit_mono (t x) (u x) (h x (inl refl)), those_fewer t u L (λ y i. h y (inr i)))

module _ (r : Range) (f : ℕ → Bool) (ps : List ℕ) where
  -- the elements from place low to before place n, and before place high
  abbrev up_to : ℕ → List ℕ
  up_to n = take (min r.high n - r.low) (drop r.low ps)

  up_to_next_lem : (n : ℕ) → n < length ps → length (those f (up_to (suc n))) ≡ length (those f (up_to n)) + bit (has r (suc n) && f (get_or ps n 0))
  unfolding has
  up_to_next_lem n h = ⊎_elim one other (test (has r (suc n)))
    where
      k : ℕ
      k = min r.high n - r.low

      one : has r (suc n) ≡ true → length (those f (up_to (suc n))) ≡ length (those f (up_to n)) + bit (has r (suc n) && f (get_or ps n 0))
      one e =
          let facts = has_facts r (suc n) e in
          let next : min r.high (suc n) - r.low ≡ suc k = omega (arith, facts) in
          let here : r.low + k ≡ n = omega (arith, facts) in
          rw (next, take-suc (drop r.low ps) k 0 (omega (arith, length-drop r.low ps)), get_or-drop r.low ps k 0, here, e)
          (those_last f (up_to n) (get_or ps n 0))

      other : has r (suc n) ≡ false → length (those f (up_to (suc n))) ≡ length (those f (up_to n)) + bit (has r (suc n) && f (get_or ps n 0))
      other e =
          let same : min r.high (suc n) - r.low ≡ k =
          ⊎_elim (λ a. omega (arith, ltb-false r.low (suc n) a)) (λ b. omega (arith, leb-false (suc n) r.high b)) (and_fails (ltb r.low (suc n)) (leb (suc n) r.high) e) in
          rw (same, e) (omega arith)

  up_to_counted : (n : ℕ) → n ≤ length ps → length (those f (up_to n)) ≡ count_below n (λ i. has r (suc i) && f (get_or ps i 0))
  unfolding count_below those
  up_to_counted zero h = let none : min r.high 0 - r.low ≡ 0 = omega arith in rw none
  up_to_counted (suc n) h = omega (arith, up_to_next_lem n h, up_to_counted n (omega arith))

  pub part_counted :
      r.high ≤ length ps
      → length (those f (take (r.high - r.low) (drop r.low ps))) ≡ count_below (length ps) (λ i. has r (suc i) && f (get_or ps i 0))
  part_counted h = let all : min r.high (length ps) ≡ r.high = omega arith in rw all at (up_to_counted (length ps) (omega arith))
