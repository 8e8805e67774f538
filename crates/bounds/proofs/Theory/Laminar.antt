-- Laminar lists of ranges: keys nested or disjoint, no key twice, and peptides that follow the keys.
-- A range may have no peptide, and two keys may have the same peptides.
--   Fit            how two ranges lie: one inside the other or one before the other, by their keys and by their peptides
--   Fits           every range fits all that follow it
--   Proper         the key ends no earlier than it begins, and no peptide is over m
--   Laminar        all members are proper, and any two fit
--   laminar_at     a list is laminar if every member is proper and fits the later ones, place by place
--   fit            two members are one and the same, or fit
--   meet           two members with a common peptide are one and the same, or one is inside the other
--   Hosts          q has the peptides of the members inside it
--   member_hosts   a member has the peptides of the members inside it
--   Flat           no member that passes the test is inside another that does
--   flat_apart     of members of which none is inside another no two have a common peptide
--   parts_apart    no two parts of q have a common peptide
--   in_a_part      a peptide of a member inside q is in a part of q
--   Around         q has the peptides 1 to m, and every member is inside it
--   around_hosts   a line around all members has their peptides
--   around_count   it has all peptides of a set that are in 1 to m
--   line           the root range of a list
--   line_around    it has the peptides 1 to m, and every member is inside it
use Prim.Native.Nat.{ℕ, suc, ◌≤◌, ◌<◌, max}
use mathlib.Core.Bool.{Bool, true, false, not, cond, ◌&&◌}
use mathlib.Core.List.{List, [], ◌∷◌}
use mathlib.Core.Logic.{◌⊎◌, inl, inr, ⊎_elim}
use mathlib.Core.Path.{◌≡◌, refl, sym, ◌∙◌, ap}
use native.Mathlib.Omega.{arith}
use lib.ListN.{length, get_or}
use Rattle.bounds.specs.Ranges.{Range, Peptides, has, card, count, those, just_inside, parts, outside, In}
use Rattle.bounds.proofs.Basics.Members.{Place, place, some_in, those_in}
use Rattle.bounds.proofs.Basics.Counting.{card_same, Disjoint, Apart, Contains}
use Rattle.bounds.proofs.Basics.Nesting.{has_facts, has_holds, Inside, inside_self, just_facts, part_holds, part_around}

-- How two ranges with different keys may lie: one is inside the other, and so are its peptides,
-- or one is before the other, and so are its peptides.
pub data Fit (r t : Range) : Type 0 where
  is_inside : Inside r t → t.low ≤ r.low → r.high ≤ t.high → Fit r t
  is_around : Inside t r → r.low ≤ t.low → t.high ≤ r.high → Fit r t
  is_before : r.to < t.from → r.high ≤ t.low → Fit r t
  is_after : t.to < r.from → t.high ≤ r.low → Fit r t

abbrev pub Fits : List Range → Type 0
Fits [] = Unit {0}
Fits (r ∷ R) = ((t : Range) → In t R → Fit r t) × Fits R

pub record Proper (m : ℕ) (r : Range) : Type 0 where
  pub order : r.from ≤ r.to
  pub ends : r.high ≤ m

pub record Laminar (m : ℕ) (R : List Range) : Type 0 where
  pub proper : (r : Range) → In r R → Proper m r
  pub fits : Fits R

-- Making laminar lists.

fits_at : (d : Range) (R : List Range) → ((i j : ℕ) → i < j → j < length R → Fit (get_or R i d) (get_or R j d)) → Fits R
fits_at d [] h = tt
fits_at d (r ∷ R) h = (λ t i. first t (place d R t i), fits_at d R (λ i j less u. h (suc i) (suc j) (omega arith) (omega arith)))
  where
    first : (t : Range) → Place t R d → Fit r t
    first t p = rw p.there (h 0 (suc p.at) (omega arith) (omega arith))

pub laminar_at : {m : ℕ} (d : Range) (R : List Range) → ((k : ℕ) → k < length R → Proper m (get_or R k d))
    → ((i j : ℕ) → i < j → j < length R → Fit (get_or R i d) (get_or R j d)) → Laminar m R
laminar_at d R own two = record { proper = λ r i. let p = place d R r i in rw p.there (own p.at p.in_range); fits = fits_at d R two }

-- Two members.

fit_swap : {r t : Range} → Fit r t → Fit t r
fit_swap (is_inside i l h) = is_around i l h
fit_swap (is_around i l h) = is_inside i l h
fit_swap (is_before k p) = is_after k p
fit_swap (is_after k p) = is_before k p

fits_two : (R : List Range) → Fits R → (r t : Range) → In r R → In t R → (r ≡ t) ⊎ Fit r t
fits_two [] f r t x3 _ = elim x3 [ ]
fits_two (x ∷ R) f r t (inl e) (inl g) = inl (e ∙ sym g)
fits_two (x ∷ R) f r t (inl e) (inr j) = inr (rw e (f.0 t j))
fits_two (x ∷ R) f r t (inr i) (inl g) = inr (rw g (fit_swap (f.0 r i)))
fits_two (x ∷ R) f r t (inr i) (inr j) = fits_two R f.1 r t i j

pub fit : {m : ℕ} {R : List Range} → Laminar m R → (r t : Range) → In r R → In t R → (r ≡ t) ⊎ Fit r t
fit {R = R} l = fits_two R l.fits

-- ranges that fit and have a common peptide are one inside the other
fit_meet : {r t : Range} → Fit r t → (p : ℕ) → has r p ≡ true → has t p ≡ true → Inside r t ⊎ Inside t r
fit_meet (is_inside i l h) p a b = inl i
fit_meet (is_around i l h) p a b = inr i
fit_meet {r} {t} (is_before k e) p a b = absurd (omega (arith, has_facts r p a, has_facts t p b))
fit_meet {r} {t} (is_after k e) p a b = absurd (omega (arith, has_facts r p a, has_facts t p b))

pub meet : {m : ℕ} {R : List Range} → Laminar m R → (r t : Range) → In r R → In t R → (p : ℕ) → has r p ≡ true → has t p ≡ true
    → (r ≡ t) ⊎ Inside r t ⊎ Inside t r
meet l r t i j p a b = ⊎_elim inl (λ f. inr (fit_meet f p a b)) (fit l r t i j)

-- nested keys have nested peptides
fit_contains : {r t : Range} → Fit r t → r.from ≤ r.to → Inside r t → Contains t r
fit_contains {r} {t} (is_inside i l h) o n p a = has_holds (omega (arith, has_facts r p a))
fit_contains (is_around i l h) o n p a = absurd (omega arith)
fit_contains (is_before k e) o n p a = absurd (omega arith)
fit_contains (is_after k e) o n p a = absurd (omega arith)

abbrev pub Hosts : List Range → Range → Type 0
Hosts R q = (r : Range) → In r R → Inside r q → Contains q r

pub member_hosts : {m : ℕ} {R : List Range} → Laminar m R → (q : Range) → In q R → Hosts R q
member_hosts l q j r i n = ⊎_elim (λ e. absurd (inside_self (rw e at n))) (λ f. fit_contains f (l.proper r i).order n) (fit l r q i j)

-- Members without a common peptide.

abbrev pub Flat : List Range → (Range → Bool) → Type 0
Flat R good = (r t : Range) → In r R → In t R → good r ≡ true → good t ≡ true → Inside r t → ⊥

fits_apart : (good : Range → Bool) (R : List Range) → Fits R → Flat R good → Apart (those good R)
unfolding those
fits_apart good [] f flat = tt
fits_apart good (x ∷ R) f flat = go (good x) refl (fits_apart good R f.1 (λ r t i j. flat r t (inr i) (inr j)))
  where
    disjoint : good x ≡ true → (t : Range) → In t (those good R) → Disjoint x t
    disjoint e t j p a c =
        let g = those_in good R t j in
        ⊎_elim (flat x t (inl refl) (inr g.0) e g.1) (flat t x (inr g.0) (inl refl) g.1 e) (fit_meet (f.0 t g.0) p a c)

    go : (b : Bool) → good x ≡ b → Apart (those good R) → Apart (cond b (x ∷ those good R) (those good R))
    go true e rest = (disjoint e, rest)
    go false e rest = rest

pub flat_apart : {m : ℕ} {R : List Range} → Laminar m R → (good : Range → Bool) → Flat R good → Apart (those good R)
flat_apart {R = R} l good flat = fits_apart good R l.fits flat

pub parts_apart : {m : ℕ} {R : List Range} → Laminar m R → (q : Range) → Apart (parts R q)
unfolding parts
parts_apart {R = R} l q = flat_apart l (λ r. just_inside R r q) (λ r t i j a b n. (just_facts R r q a).next t j n (just_facts R t q b).inner)

pub in_a_part : {m : ℕ} {R : List Range} → Laminar m R → (q t : Range) → In t R → Inside t q → (p : ℕ) → has t p ≡ true
    → outside (parts R q) p ≡ false
unfolding outside
in_a_part {R = R} l q t i n p a =
    let (j, f, around) = part_around R q t i n in
    let b : has j p ≡ true = ⊎_elim (λ e. rw e at a) (λ k. member_hosts l j f.member t i k p a) around in
    ap not (some_in (λ r. has r p) (parts R q) j (part_holds f) b)

-- The whole line.

pub record Around (m : ℕ) (R : List Range) (q : Range) : Type 0 where
  pub every : (r : Range) → In r R → Inside r q
  pub start : q.low ≡ 0
  pub end : q.high ≡ m

pub around_hosts : {m : ℕ} {R : List Range} {q : Range} → Laminar m R → Around m R q → Hosts R q
around_hosts l a r i n p h = has_holds (omega (arith, has_facts r p h, l.proper r i))

pub around_count : {m : ℕ} {R : List Range} {q : Range} → Around m R q → (X : Peptides) → count m X q ≡ card m X
unfolding count
around_count {m} {q = q} a X = card_same m (λ p. has q p && X p) X (λ p l u. rw (has_holds {r = q} {p = p} (omega arith)))

furthest : List Range → ℕ
furthest [] = 0
furthest (r ∷ R) = max r.to (furthest R)

furthest_le : (R : List Range) (r : Range) → In r R → r.to ≤ furthest R
unfolding furthest
furthest_le [] r x' = elim x' [ ]
furthest_le (x ∷ R) r (inl e) = rw e (omega arith)
furthest_le (x ∷ R) r (inr i) = omega (arith, furthest_le R r i)

pub line : ℕ → List Range → Range
line m R = record { from = 0; to = suc (furthest R); low = 0; high = m; z = 0 }

pub line_around : (m : ℕ) (R : List Range) → Around m R (line m R)
unfolding line
line_around m R = record { every = λ r i. omega (arith, furthest_le R r i); start = refl; end = refl }
