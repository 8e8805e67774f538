-- Choices by search: in a list, an element with a decided property, one that is least by a measure; and a set of a given size between two sets.
use Prim.Native.Nat.{ℕ, zero, suc, ◌+◌, ◌≤◌, ◌<◌}
use mathlib.Core.Bool.{true, not}
use mathlib.Core.List.{List, [], ◌∷◌}
use mathlib.Core.Logic.{◌⊎◌, inl, inr, ⊎_elim}
use mathlib.Core.Path.{◌≡◌, refl}
use native.Mathlib.Omega.{arith}
use borrow.Author.Tests.{not-true}
use Rattle.bounds.specs.Ranges.{Range, Peptides, card, inside, In}
use Rattle.bounds.proofs.Basics.Members.{test, clash, le_or_lt, and_l, and_r}
use Rattle.bounds.proofs.Basics.Counting.{Subset, adding, adding_old, adding_either, card_adding, card_more}
use Rattle.bounds.proofs.Basics.Nesting.{Inside, inside_facts, inside_holds}
use Rattle.reduction.proofs.Basics.Unless.{le_unless}

-- Decided properties.

abbrev pub Decided : Type 0 → Type 0
Decided P = P ⊎ (P → ⊥)

pub decide_lt : (a b : ℕ) → Decided (a < b)
decide_lt a b = ⊎_elim inl (λ h. inr (λ k. omega arith)) (le_or_lt (suc a) b)

pub decide_inside : (r q : Range) → Decided (Inside r q)
decide_inside r q = ⊎_elim (λ e. inl (inside_facts r q e)) (λ e. inr (λ n. clash (inside_holds n) e)) (test (inside r q))

pub decide_both : {P Q : Type 0} → Decided P → Decided Q → Decided (P × Q)
decide_both (inl p) (inl q) = inl (p, q)
decide_both (inl p) (inr n) = inr (λ c. n c.1)
decide_both (inr n) q = inr (λ c. n c.0)

-- In a list.

pub record Such {A : Type 0} (P : A → Type 0) (L : List A) : Type 0 where
  pub it : A
  pub member : In it L
  pub holds : P it

pub choose : {A : Type 0} (P : A → Type 0) → ((x : A) → Decided (P x)) → (L : List A) → Such P L ⊎ ((x : A) → In x L → P x → ⊥)
choose P d [] = inr (λ x i p. i)
choose {A} P d (y ∷ L) = go (d y) (choose P d L)
  where
    go : Decided (P y) → Such P L ⊎ ((x : A) → In x L → P x → ⊥) → Such P (y ∷ L) ⊎ ((x : A) → In x (y ∷ L) → P x → ⊥)
    go (inl p) rest = inl (record { it = y; member = inl refl; holds = p })
    go (inr n) (inl c) = inl (record { it = c.it; member = inr c.member; holds = c.holds })
    go (inr n) (inr none) = inr (λ x i p. ⊎_elim (λ e. n (rw e at p)) (λ j. none x j p) i)

-- one with the property and the least f
pub record Least {A : Type 0} (P : A → Type 0) (f : A → ℕ) (L : List A) : Type 0 where
  pub it : A
  pub member : In it L
  pub holds : P it
  pub least : (x : A) → In x L → P x → f it ≤ f x

module _ {A : Type 0} (P : A → Type 0) (d : (x : A) → Decided (P x)) (f : A → ℕ) (L : List A) where
  -- from x down: take a smaller one while there is one
  descend : (k : ℕ) (x : A) → f x ≤ k → In x L → P x → Least P f L
  descend zero x h i p = record { it = x; member = i; holds = p; least = λ y j q. omega arith }
  descend (suc k) x h i p =
      ⊎_elim (λ c. descend k c.it (omega (arith, c.holds.1)) c.member c.holds.0) stop
      (choose (λ y. P y × (f y < f x)) (λ y. decide_both (d y) (decide_lt (f y) (f x))) L)
    where
      stop : ((y : A) → In y L → P y × (f y < f x) → ⊥) → Least P f L
      stop n = record { it = x; member = i; holds = p; least = λ y j q. le_unless (f x) (f y) (λ l. n y j (q, l)) }

  pub least : (x : A) → In x L → P x → Least P f L
  least x i p = descend (f x) x (omega arith) i p

-- A set between X and Y with n peptides.
pub record Between (m : ℕ) (X Y : Peptides) (n : ℕ) : Type 0 where
  pub set : Peptides
  pub above : Subset m X set
  pub below : Subset m set Y
  pub size : card m set ≡ n

-- one peptide of Y after the other is added to X, k in all
pub between : (m : ℕ) (X Y : Peptides) (k n : ℕ) → Subset m X Y → card m X + k ≡ n → n ≤ card m Y → Between m X Y n
between m X Y zero n s e h = record { set = X; above = λ p l u i. i; below = s; size = omega arith }
between m X Y (suc k) n s e h =
    let c = card_more m X Y (omega arith) in
    let q = c.number in
    let new : Y q ≡ true = and_l (Y q) (not (X q)) c.chosen in
    let fresh = not-true (X q) (and_r (Y q) (not (X q)) c.chosen) in
    let more : card m (adding q X) ≡ suc (card m X) = card_adding m q X c.positive c.at_most fresh in
    let inner : Subset m (adding q X) Y = λ p l u i. ⊎_elim (λ d. rw d new) (s p l u) (adding_either q X p i) in
    let rest = between m (adding q X) Y k n inner (omega arith) h in
    record { set = rest.set; above = λ p l u i. rest.above p l u (adding_old q X p i); below = rest.below; size = rest.size }
