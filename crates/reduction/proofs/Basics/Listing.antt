-- The list of the peptides of a set, which is a path.
use Prim.Native.Nat.{ℕ, zero, suc, ◌+◌, ◌-◌, ◌≤◌, ◌<◌}
use mathlib.Core.Bool.{◌||◌, Bool, true, false, cond}
use mathlib.Core.List.{List, [], ◌∷◌}
use mathlib.Core.Logic.{◌⊎◌, inl, inr}
use mathlib.Core.Path.{◌≡◌, refl}
use native.Mathlib.Omega.{arith}
use native.Mathlib.Nat.{eq-or-lt_of_le}
use lib.Dec.{eqb, ltb}
use lib.ListN.{length, get_or}
use borrow.Author.Tests.{ne_eqb, le-ltb, eqb-true, eq-eqb}
use Rattle.reader.specs.Causes.{first_cause}
use Rattle.reader.proofs.Below.{none_below}
use Rattle.reader.proofs.Bools.{or_neither}
use Rattle.bounds.specs.Ranges.{Peptides, In}
use Rattle.bounds.specs.Curves.{among, cause11, cause12, repeated, cause13}
use Rattle.bounds.specs.Calls.{path_causes, IsPath}
use Rattle.bounds.proofs.Basics.Members.{in_at, some_in, some_found, clash}

-- from the last to the first
pub listing : ℕ → Peptides → List ℕ
listing zero X = []
listing (suc m) X = cond (X (suc m)) (suc m ∷ listing m X) (listing m X)

-- a number on the list
pub record OnList (m : ℕ) (X : Peptides) (p : ℕ) : Type 0 where
  pub positive : 1 ≤ p
  pub small : p ≤ m
  pub chosen : X p ≡ true

up : (m : ℕ) (X : Peptides) (p : ℕ) → OnList m X p → OnList (suc m) X p
up m X p c = record { positive = c.positive; small = omega arith; chosen = c.chosen }

pub listing_facts : (m : ℕ) (X : Peptides) (p : ℕ) → In p (listing m X) → OnList m X p
unfolding listing
listing_facts zero X p i = elim i [ ]
listing_facts (suc m) X p i = go (X (suc m)) refl i (listing_facts m X p)
  where
    go : (b : Bool) → X (suc m) ≡ b → In p (cond b (suc m ∷ listing m X) (listing m X)) → (In p (listing m X) → OnList m X p) → OnList (suc m) X p
    go true t (inl e) f = rw e (record { positive = omega arith; small = omega arith; chosen = t })
    go true t (inr j) f = up m X p (f j)
    go false t j f = up m X p (f j)

pub listing_holds : (m : ℕ) (X : Peptides) (p : ℕ) → OnList m X p → In p (listing m X)
unfolding listing
listing_holds zero X p c = absurd (omega arith)
listing_holds (suc m) X p c =
    go (X (suc m)) refl (eq-or-lt_of_le c.small) (λ l. listing_holds m X p (record { positive = c.positive; small = l; chosen = c.chosen }))
  where
    go : (b : Bool) → X (suc m) ≡ b → (p ≡ suc m) ⊎ (p < suc m) → (p ≤ m → In p (listing m X)) → In p (cond b (suc m ∷ listing m X) (listing m X))
    go true t (inl e) f = inl e
    go true t (inr l) f = inr (f (omega arith))
    go false t (inl e) f = absurd (clash c.chosen (rw e t))
    go false t (inr l) f = f (omega arith)

pub among_listing : (m : ℕ) (X : Peptides) (p : ℕ) → among (listing m X) p ≡ true → OnList m X p
unfolding among
among_listing m X p e =
    let f = some_found (λ q. eqb p q) (listing m X) e in
    rw (eqb-true p f.it f.passes) (listing_facts m X f.it f.member)

pub listing_among : (m : ℕ) (X : Peptides) (p : ℕ) → OnList m X p → among (listing m X) p ≡ true
unfolding among
listing_among m X p c = some_in (λ q. eqb p q) (listing m X) p (listing_holds m X p c) (eq-eqb p p refl)

-- It is a path.

listing_length : (m : ℕ) (X : Peptides) → length (listing m X) ≤ m
unfolding listing
listing_length zero X = omega arith
listing_length (suc m) X = go (X (suc m)) (listing_length m X)
  where
    go : (b : Bool) → length (listing m X) ≤ m → length (cond b (suc m ∷ listing m X) (listing m X)) ≤ suc m
    go true h = omega arith
    go false h = omega arith

listing_falls : (m : ℕ) (X : Peptides) (s t : ℕ) → s < t → t < length (listing m X) → get_or (listing m X) t 0 < get_or (listing m X) s 0
unfolding listing
listing_falls zero X s t h k = absurd (omega arith)
listing_falls (suc m) X s t h k = go (X (suc m)) s t h k (listing_falls m X)
  where
    go : (b : Bool) (s t : ℕ) → s < t → t < length (cond b (suc m ∷ listing m X) (listing m X))
        → ((s t : ℕ) → s < t → t < length (listing m X) → get_or (listing m X) t 0 < get_or (listing m X) s 0)
        → get_or (cond b (suc m ∷ listing m X) (listing m X)) t 0 < get_or (cond b (suc m ∷ listing m X) (listing m X)) s 0
    go true s zero h k f = absurd (omega arith)
    go true zero (suc t) h k f = omega (arith, listing_facts m X (get_or (listing m X) t 0) (in_at 0 (listing m X) t (omega arith)))
    go true (suc s) (suc t) h k f = f s t (omega arith) (omega arith)
    go false s t h k f = f s t h k

module _ (m : ℕ) (X : Peptides) where
  abbrev path : List ℕ
  path = listing m X

  placed : cause12 m path ≡ false
  unfolding cause12
  placed = none_below (λ i. eqb (get_or path i 0) 0 || ltb m (get_or path i 0)) (length path) at
    where
      at : (i : ℕ) → i < length path → (eqb (get_or path i 0) 0 || ltb m (get_or path i 0)) ≡ false
      at i h =
          let c = listing_facts m X (get_or path i 0) (in_at 0 path i h) in
          or_neither _ _ (ne_eqb (get_or path i 0) 0 (λ e. omega (arith, c.positive))) (le-ltb m (get_or path i 0) c.small)

  different : cause13 path ≡ false
  unfolding cause13 repeated
  different = none_below (λ i. repeated path (i + 1)) (length path) (λ i h. none_below (earlier i) (i + 1 - 1) (at i h))
    where
      earlier : ℕ → ℕ → Bool
      earlier i j = eqb (get_or path j 0) (get_or path (i + 1 - 1) 0)

      at : (i : ℕ) → i < length path → (j : ℕ) → j < i + 1 - 1 → earlier i j ≡ false
      at i h j k = ne_eqb (get_or path j 0) (get_or path (i + 1 - 1) 0) (λ e. omega (arith, listing_falls m X j (i + 1 - 1) k (omega arith)))

  pub listing_path : IsPath m (listing m X)
  unfolding first_cause path_causes cause11
  listing_path = rw (le-ltb m (length path) (listing_length m X), placed, different)
