-- The written family, read back: through the new leaf lengths each region has exactly the peptides of its range.
use Prim.Native.Nat.{ℕ, ◌+◌, ◌-◌}
use mathlib.Core.Bool.{true, ◌||◌}
use mathlib.Core.List.{List, [], ◌∷◌, map}
use mathlib.Core.Logic.{◌⊎◌, inl, inr, ⊎_elim}
use mathlib.Core.Path.{◌≡◌, refl, ap}
use native.Mathlib.Omega.{arith}
use native.Mathlib.Nat.{eq-zero-or-pos}
use lib.Dec.{eqb}
use borrow.Author.Tests.{eqb-true, eq-eqb}
use Rattle.reader.specs.Family.{peptides_up_to}
use Rattle.bounds.specs.Ranges.{Range, Peptides, card, count, range_of, ranges_of, In}
use Rattle.bounds.proofs.Basics.Members.{some_in, some_found, or_l, or_r, or_either}
use Rattle.bounds.proofs.Basics.Nesting.{has_facts, has_holds}
use Rattle.bounds.proofs.Theory.Greedy.{Respects}
use Rattle.reduction.specs.Reduction.{ends_leaf, region_of, written_family}
use Rattle.reduction.proofs.Basics.Counts.{count_wider}
use Rattle.reduction.proofs.Theory.Leaves.{peptides_up_to_end}
use Rattle.reduction.proofs.Basics.Plain.{Plain}

-- Members of a mapped list.

pub in_map : {A B : Type 0} (f : A → B) (L : List A) (y : B) → In y (map f L) → (x : A) × In x L × (y ≡ f x)
in_map {A = A} {B = B} f [] y x' = elim x' [ ]
in_map f (x ∷ L) y (inl e) = (x, inl refl, e)
in_map f (x ∷ L) y (inr i) = let c = in_map f L y i in (c.0, inr c.1, c.2)

pub map_in : {A B : Type 0} (f : A → B) (L : List A) (x : A) → In x L → In (f x) (map f L)
map_in {A = A} {B = B} f [] x x3 = elim x3 [ ]
map_in f (y ∷ L) x (inl e) = inl (ap f e)
map_in f (y ∷ L) x (inr i) = inr (map_in f L x i)

-- Where leaves end: at m, before each range and at its end.

pub ends_m : (m : ℕ) (Q : List Range) → ends_leaf m Q m ≡ true
unfolding ends_leaf
ends_m m Q = or_l (eqb m m) _ (eq-eqb m m refl)

pub ends_low : (m : ℕ) (Q : List Range) (q : Range) → In q Q → ends_leaf m Q q.low ≡ true
unfolding ends_leaf
ends_low m Q q i =
    let p = q.low in
    or_r (eqb p m) _ (some_in (λ t. eqb p t.low || eqb p t.high) Q q i (or_l _ _ (eq-eqb p p refl)))

pub ends_high : (m : ℕ) (Q : List Range) (q : Range) → In q Q → ends_leaf m Q q.high ≡ true
unfolding ends_leaf
ends_high m Q q i =
    let p = q.high in
    or_r (eqb p m) _ (some_in (λ t. eqb p t.low || eqb p t.high) Q q i (or_r (eqb p q.low) _ (eq-eqb p p refl)))

-- p ends a leaf: it is m, or just before a range, or the end of one
pub ends_facts : (m : ℕ) (Q : List Range) (p : ℕ) → ends_leaf m Q p ≡ true → (p ≡ m) ⊎ ((q : Range) × In q Q × ((p ≡ q.low) ⊎ (p ≡ q.high)))
unfolding ends_leaf
ends_facts m Q p e =
    ⊎_elim (λ t. inl (eqb-true p m t))
    (λ t.
    let f = some_found (λ q. eqb p q.low || eqb p q.high) Q t in
    inr (f.it, f.member, ⊎_elim (λ u. inl (eqb-true p f.it.low u)) (λ u. inr (eqb-true p f.it.high u)) (or_either _ _ f.passes)))
    (or_either (eqb p m) _ e)

-- the written region of q, as a range of the written family
unfoldable pub again : ℕ → List Range → Range → Range
again m Q q = range_of (written_family m Q) (region_of (ends_leaf m Q) q)

map_map : {A B C : Type 0} (f : A → B) (g : B → C) (L : List A) → map g (map f L) ≡ map (λ x. g (f x)) L
map_map f g [] = refl
map_map f g (x ∷ L) = ap (λ M. g (f x) ∷ M) (map_map f g L)

pub ranges_again : (m : ℕ) (Q : List Range) → ranges_of (written_family m Q) ≡ map (again m Q) Q
unfolding ranges_of again written_family
ranges_again m Q = map_map (region_of (ends_leaf m Q)) (range_of (written_family m Q)) Q

module _ (m : ℕ) (Q : List Range) (plain : (q : Range) → In q Q → Plain m q) where
  pub again_low : (q : Range) → In q Q → (again m Q q).low ≡ q.low
  unfolding again range_of region_of peptides_up_to written_family
  again_low q i =
      let w = plain q i in
      let ends = ends_leaf m Q in
      let back : card q.low ends + 1 - 1 ≡ card q.low ends = omega arith in
      rw back (peptides_up_to_end ends q.low m (omega arith) (⊎_elim inl (λ k. inr (ends_low m Q q i)) (eq-zero-or-pos q.low)))

  pub again_high : (q : Range) → In q Q → (again m Q q).high ≡ q.high
  unfolding again range_of region_of peptides_up_to written_family
  again_high q i = let w = plain q i in peptides_up_to_end (ends_leaf m Q) q.high m (omega arith) (inr (ends_high m Q q i))

  again_fits : (A : Peptides) (q : Range) → In q Q → (count m A (again m Q q) ≡ count m A q) × ((again m Q q).z ≡ q.z)
  unfolding again range_of region_of
  again_fits A q i =
      let r = again m Q q in
      let l : r.low ≡ q.low = again_low q i in
      let h : r.high ≡ q.high = again_high q i in
      let up = count_wider m A r q (λ p k u e a. let f = has_facts r p e in has_holds (record { above = omega arith; upto = omega arith })) in
      let down = count_wider m A q r (λ p k u e a. let f = has_facts q p e in has_holds (record { above = omega arith; upto = omega arith })) in
      (omega arith, refl)

  -- The written family has the same admissible sets.

  pub written_there : (A : Peptides) → Respects m Q A → Respects m (ranges_of (written_family m Q)) A
  written_there A h r i =
      let c = in_map (again m Q) Q r (rw (ranges_again m Q) at i) in
      rw c.2 (omega (arith, h c.0 c.1, again_fits A c.0 c.1))

  pub written_back : (A : Peptides) → Respects m (ranges_of (written_family m Q)) A → Respects m Q A
  written_back A h q i = omega (arith, h (again m Q q) (rw (ranges_again m Q) (map_in (again m Q) Q q i)), again_fits A q i)
