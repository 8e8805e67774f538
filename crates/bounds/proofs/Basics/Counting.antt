-- How many peptides a set has: on 1 to m, in a range, and in ranges that have no peptide in common.
--   Subset, SameSet          of the peptides 1 to m, those of X are in Y; X and Y have the same
--   none                     the set without a peptide
--   card_next                on 1 to n + 1 a set has as many peptides as on 1 to n, and the bit of n + 1 more
--   card_most                a set has no more of the peptides than there are
--   card_mono                a set has no fewer than its subset
--   card_same                sets that are the same on 1 to m have as many
--   card_none                a set that has none of 1 to m has 0
--   card_split               a set splits into what is in Z and what is not
--   PeptideOf                a peptide of the set, one of 1 to m
--   find                     a set has a peptide, or it has none
--   card_more                a larger set has a peptide that the smaller one has not
--   card_less                a set with all of another and one peptide more is larger
--   card_but_one             a set of which all peptides but one are in another is larger by at most one
--   adding                   a set with one more peptide, q
--   adding_it, adding_old    q is in it, and what was in the set still is
--   adding_other             for any other peptide nothing changes
--   adding_either            what is in it is q or was in the set
--   card_adding              it has one peptide more, if q is one of 1 to m and was not in the set
--   count_mono, count_same   a count goes by the peptides of the range alone: a subset there has no more, the same set there as many
--   count_none               a range has nothing of the set without a peptide
--   count_adding_most        one more peptide adds at most one to a count
--   count_adding             it adds one if the range has it, and it is one of 1 to m and new
--   count_adding_other       it adds nothing if the range does not have it
--   card_upto                the peptides up to n are counted as on 1 to n
--   count_between            the peptides of a range are those up to its high end, without those up to its low end
--   Disjoint, Apart          two ranges have no peptide in common; no two ranges of a list have
--   Contains                 every peptide of r is one of q's
--   cover                    every peptide of a set is in one of the ranges, or outside all of them: the counts add up to the whole or more
--   partition                with no peptide in common, the ranges and what is outside of them add up to the whole
--   cover_in                 the same as cover for the peptides of q
--   partition_in             the same as partition for the peptides of q, if q contains the ranges
use Prim.Native.Nat.{ℕ, zero, suc, ◌+◌, ◌≤◌, ◌<◌}
use mathlib.Core.Bool.{Bool, true, false, not, ◌&&◌, ◌||◌, and-false}
use mathlib.Core.List.{List, [], ◌∷◌}
use mathlib.Core.Logic.{◌≢◌, ◌⊎◌, inl, inr, ⊎_elim}
use mathlib.Core.Path.{◌≡◌, refl, ap}
use native.Mathlib.Decide.{le_ind}
use native.Mathlib.Nat.{eq-or-lt_of_le}
use native.Mathlib.Numerals.{add-one}
use native.Mathlib.Omega.{arith}
use lib.Dec.{eqb, leb}
use borrow.Author.Tests.{eqb-true, eqb-false, eq-eqb, ne_eqb, le-leb, lt-leb, le-ltb, lt-ltb}
use Rattle.bounds.specs.Ranges.{Range, Peptides, has, card, count, some, sum_over, outside, In}
use Rattle.bounds.proofs.Basics.Members.{test, le_or_lt, clash, refuted, and_both, ands, or_l, or_r, or_either, bit, bit_few, bit_mono, sum_mono, sum_same}

-- Sets of peptides, compared on 1 to m.

abbrev pub Subset : ℕ → Peptides → Peptides → Type 0
Subset m X Y = (p : ℕ) → 0 < p → p ≤ m → X p ≡ true → Y p ≡ true

abbrev pub SameSet : ℕ → Peptides → Peptides → Type 0
SameSet m X Y = (p : ℕ) → 0 < p → p ≤ m → X p ≡ Y p

abbrev pub none : Peptides
none p = false

pub card_next : (n : ℕ) (X : Peptides) → card (n + 1) X ≡ card n X + bit (X (suc n))
unfolding card
card_next n X = rw add-one

pub card_most : (n : ℕ) (X : Peptides) → card n X ≤ n
unfolding card
card_most zero X = omega arith
card_most (suc n) X = omega (arith, card_most n X, bit_few (X (suc n)))

pub card_mono : (m : ℕ) (X Y : Peptides) → Subset m X Y → card m X ≤ card m Y
unfolding card
card_mono zero X Y h = omega arith
card_mono (suc m) X Y h =
    let last = bit_mono (X (suc m)) (Y (suc m)) (h (suc m) (omega arith) (omega arith)) in
    omega (arith, card_mono m X Y (λ p l u. h p l (omega arith)))

pub card_same : (m : ℕ) (X Y : Peptides) → SameSet m X Y → card m X ≡ card m Y
card_same m X Y h = omega (arith, card_mono m X Y (λ p l u e. rw (h p l u) at e), card_mono m Y X (λ p l u e. rw (h p l u) e))

pub card_none : (m : ℕ) (X : Peptides) → SameSet m X none → card m X ≡ 0
unfolding card
card_none zero X h = refl
card_none (suc m) X h = omega (arith, card_none m X (λ p l u. h p l (omega arith)), ap bit (h (suc m) (omega arith) (omega arith)))

pub card_split : (m : ℕ) (Z X : Peptides) → card m X ≡ card m (λ p. Z p && X p) + card m (λ p. not (Z p) && X p)
unfolding card
card_split zero Z X = refl
card_split (suc m) Z X = omega (arith, card_split m Z X, bits (Z (suc m)) (X (suc m)))
  where
    bits : (z x : Bool) → bit x ≡ bit (z && x) + bit (not z && x)
    bits true x = omega arith
    bits false x = omega arith

pub record PeptideOf (m : ℕ) (X : Peptides) : Type 0 where
  pub number : ℕ
  pub positive : 0 < number
  pub at_most : number ≤ m
  pub chosen : X number ≡ true

pub find : (m : ℕ) (X : Peptides) → PeptideOf m X ⊎ SameSet m X none
find zero X = inr (λ p l u. absurd (omega arith))
find (suc m) X = ⊎_elim (λ e. inl (last e)) (λ e. ⊎_elim (λ f. inl (below f)) (λ h. inr (neither e h)) (find m X)) (test (X (suc m)))
  where
    last : X (suc m) ≡ true → PeptideOf (suc m) X
    last e = record { number = suc m; positive = omega arith; at_most = omega arith; chosen = e }

    below : PeptideOf m X → PeptideOf (suc m) X
    below f = record { number = f.number; positive = f.positive; at_most = omega arith; chosen = f.chosen }

    neither : X (suc m) ≡ false → SameSet m X none → SameSet (suc m) X none
    neither e h p l u = ⊎_elim (λ q. rw q e) (λ less. h p l (omega arith)) (eq-or-lt_of_le u)

pub card_more : (m : ℕ) (X Y : Peptides) → card m X < card m Y → PeptideOf m (λ p. Y p && not (X p))
card_more m X Y h = ⊎_elim (λ f. f) (λ n. absurd (omega (arith, card_mono m Y X (within n)))) (find m (λ p. Y p && not (X p)))
  where
    within : SameSet m (λ p. Y p && not (X p)) none → Subset m Y X
    within n p l u e = ⊎_elim (λ t. t) (λ f. absurd (clash (and_both (Y p) (not (X p)) e (ap not f)) (n p l u))) (test (X p))

pub card_less : (m q : ℕ) (X Y : Peptides) → Subset m X Y → 0 < q → q ≤ m → X q ≡ false → Y q ≡ true → card m X < card m Y
unfolding card
card_less zero q X Y h l u e f = absurd (omega arith)
card_less (suc m) q X Y h l u e f =
    let below : Subset m X Y = λ p a b. h p a (omega arith) in
    let last = bit_mono (X (suc m)) (Y (suc m)) (h (suc m) (omega arith) (omega arith)) in
    ⊎_elim (λ s. omega (arith, card_mono m X Y below, ap bit (rw s at e), ap bit (rw s at f)))
    (λ s. omega (arith, card_less m q X Y below l (omega arith) e f)) (eq-or-lt_of_le u)

pub card_but_one : (m q : ℕ) (X Y : Peptides) → ((p : ℕ) → 0 < p → p ≤ m → p ≢ q → X p ≡ true → Y p ≡ true) → card m X ≤ suc (card m Y)
unfolding card
card_but_one zero q X Y h = omega arith
card_but_one (suc m) q X Y h =
    ⊎_elim (λ e. one (eqb-true (suc m) q e)) (λ e. other (eqb-false (suc m) q e) (card_but_one m q X Y below)) (test (eqb (suc m) q))
  where
    below : (p : ℕ) → 0 < p → p ≤ m → p ≢ q → X p ≡ true → Y p ≡ true
    below p l u = h p l (omega arith)

    one : suc m ≡ q → card m X + bit (X (suc m)) ≤ suc (card m Y + bit (Y (suc m)))
    one e = omega (arith, card_mono m X Y (λ p l u. below p l u (omega arith)), bit_mono (X (suc m)) true (λ t. refl))

    other : suc m ≢ q → card m X ≤ suc (card m Y) → card m X + bit (X (suc m)) ≤ suc (card m Y + bit (Y (suc m)))
    other n ih = omega (arith, bit_mono (X (suc m)) (Y (suc m)) (h (suc m) (omega arith) (omega arith) n))

-- The set with one more peptide.

unfoldable pub adding : ℕ → Peptides → Peptides
adding q X p = eqb p q || X p

pub adding_it : (q : ℕ) (X : Peptides) → adding q X q ≡ true
unfolding adding
adding_it q X = or_l (eqb q q) (X q) (eq-eqb q q refl)

pub adding_old : (q : ℕ) (X : Peptides) (p : ℕ) → X p ≡ true → adding q X p ≡ true
unfolding adding
adding_old q X p e = or_r (eqb p q) (X p) e

pub adding_other : (q : ℕ) (X : Peptides) (p : ℕ) → p ≢ q → adding q X p ≡ X p
unfolding adding
adding_other q X p n = ap (λ b. b || X p) (ne_eqb p q n)

pub adding_either : (q : ℕ) (X : Peptides) (p : ℕ) → adding q X p ≡ true → (p ≡ q) ⊎ (X p ≡ true)
unfolding adding
adding_either q X p e = ⊎_elim (λ h. inl (eqb-true p q h)) inr (or_either (eqb p q) (X p) e)

pub card_adding : (m q : ℕ) (X : Peptides) → 0 < q → q ≤ m → X q ≡ false → card m (adding q X) ≡ suc (card m X)
card_adding m q X l u e =
    let most = card_but_one m q (adding q X) X (λ p a b n h. rw (adding_other q X p n) at h) in
    let more = card_less m q X (adding q X) (λ p a b. adding_old q X p) l u e (adding_it q X) in
    omega arith

-- The peptides of a set in a range.

pub count_mono : (m : ℕ) (X Y : Peptides) (r : Range) → ((p : ℕ) → 0 < p → p ≤ m → has r p ≡ true → X p ≡ true → Y p ≡ true)
    → count m X r ≤ count m Y r
unfolding count
count_mono m X Y r h = card_mono m (λ p. has r p && X p) (λ p. has r p && Y p) (λ p l u e. search (ands, h))

pub count_same : (m : ℕ) (X Y : Peptides) (r : Range) → ((p : ℕ) → 0 < p → p ≤ m → has r p ≡ true → X p ≡ Y p) → count m X r ≡ count m Y r
count_same m X Y r h =
    omega (arith, count_mono m X Y r (λ p l u i e. rw (h p l u i) at e), count_mono m Y X r (λ p l u i e. rw (h p l u i) e))

pub count_none : (m : ℕ) (r : Range) → count m none r ≡ 0
unfolding count
count_none m r = card_none m (λ p. has r p && false) (λ p l u. and-false (has r p))

pub count_adding_most : (m q : ℕ) (X : Peptides) (r : Range) → count m (adding q X) r ≤ suc (count m X r)
unfolding count
count_adding_most m q X r =
    card_but_one m q (λ p. has r p && adding q X p) (λ p. has r p && X p) (λ p a b n h. rw (adding_other q X p n) at h)

pub count_adding : (m q : ℕ) (X : Peptides) (r : Range) → 0 < q → q ≤ m → X q ≡ false → has r q ≡ true
    → count m (adding q X) r ≡ suc (count m X r)
unfolding count
count_adding m q X r l u e h =
    let old : Subset m (λ p. has r p && X p) (λ p. has r p && adding q X p) = λ p a b t. search (ands, adding_old) in
    let more = card_less m q (λ p. has r p && X p) (λ p. has r p && adding q X p) old l u (rw h e) (search (ands, adding_it)) in
    omega (arith, count_adding_most m q X r)

pub count_adding_other : (m q : ℕ) (X : Peptides) (r : Range) → has r q ≡ false → count m (adding q X) r ≡ count m X r
count_adding_other m q X r h = count_same m (adding q X) X r (λ p l u i. adding_other q X p (λ e. clash i (rw e h)))

-- Counts along the line.

pub card_upto : (n m : ℕ) (X : Peptides) → n ≤ m → card m (λ p. leb p n && X p) ≡ card n X
unfolding card
card_upto n m X h = le_ind (λ k. card k upto ≡ card n X) (card_same n upto X (λ p l u. rw (le-leb p n u))) more m h
  where
    upto : Peptides
    upto p = leb p n && X p

    more : (k : ℕ) → n ≤ k → card k upto ≡ card n X → card k upto + bit (leb (suc k) n && X (suc k)) ≡ card n X
    more k u ih = rw (lt-leb (suc k) n (omega arith)) (omega arith)

pub count_between : (m : ℕ) (X : Peptides) (r : Range) → r.low ≤ r.high → r.high ≤ m → card r.low X + count m X r ≡ card r.high X
unfolding count has
count_between m X r low high =
    let upto : Peptides = λ p. leb p r.high && X p in
    let first = card_same m (λ p. leb p r.low && upto p) (λ p. leb p r.low && X p) (λ p a b. below p (le_or_lt p r.low)) in
    let rest = card_same m (λ p. not (leb p r.low) && upto p) (λ p. has r p && X p) (λ p a b. above p (le_or_lt p r.low)) in
    omega (arith, card_split m (λ p. leb p r.low) upto, card_upto r.low m X (omega arith), card_upto r.high m X high)
  where
    below : (p : ℕ) → (p ≤ r.low) ⊎ (r.low < p) → (leb p r.low && (leb p r.high && X p)) ≡ (leb p r.low && X p)
    below p (inl h) = rw (le-leb p r.high (omega arith))
    below p (inr h) = rw (lt-leb p r.low h)

    above : (p : ℕ) → (p ≤ r.low) ⊎ (r.low < p) → (not (leb p r.low) && (leb p r.high && X p)) ≡ (has r p && X p)
    above p (inl h) = rw (le-leb p r.low h, le-ltb r.low p h)
    above p (inr h) = rw (lt-leb p r.low h, lt-ltb r.low p h)

-- Ranges with no peptide in common.

abbrev pub Disjoint : Range → Range → Type 0
Disjoint r t = (p : ℕ) → has r p ≡ true → has t p ≡ true → ⊥

abbrev pub Apart : List Range → Type 0
Apart [] = Unit {0}
Apart (r ∷ L) = ((t : Range) → In t L → Disjoint r t) × Apart L

abbrev pub Contains : Range → Range → Type 0
Contains q r = (p : ℕ) → has r p ≡ true → has q p ≡ true

-- what is outside j and the ranges of J
outside_both : (X : Peptides) (j : Range) (J : List Range) (p : ℕ) → (outside (j ∷ J) p && X p) ≡ (outside J p && (not (has j p) && X p))
unfolding outside some
outside_both X j J p = go (has j p) (some (λ r. has r p) J)
  where
    go : (a b : Bool) → (not (a || b) && X p) ≡ (not b && (not a && X p))
    go true true = refl
    go true false = refl
    go false b = refl

pub cover : (m : ℕ) (X : Peptides) (J : List Range) → card m X ≤ sum_over (count m X) J + card m (λ p. outside J p && X p)
unfolding sum_over outside some count
cover m X [] = omega arith
cover m X (j ∷ J) =
    let rest : Peptides = λ p. not (has j p) && X p in
    let fewer = sum_mono (count m rest) (count m X) J (λ r i. count_mono m rest X r (λ p l u h e. search ands)) in
    let free = card_same m (λ p. outside (j ∷ J) p && X p) (λ p. outside J p && rest p) (λ p l u. outside_both X j J p) in
    omega (arith, card_split m (has j) X, cover m rest J)

pub partition : (m : ℕ) (X : Peptides) (J : List Range) → Apart J → card m X ≡ sum_over (count m X) J + card m (λ p. outside J p && X p)
unfolding sum_over outside some count
partition m X [] a = omega arith
partition m X (j ∷ J) a =
    let rest : Peptides = λ p. not (has j p) && X p in
    let apart : (r : Range) → In r J → (p : ℕ) → has r p ≡ true → has j p ≡ false = λ r i p h. refuted (has j p) (λ e. a.0 r i p e h) in
    let same = sum_same (count m rest) (count m X) J (λ r i. count_same m rest X r (λ p l u h. rw (apart r i p h))) in
    let free = card_same m (λ p. outside (j ∷ J) p && X p) (λ p. outside J p && rest p) (λ p l u. outside_both X j J p) in
    omega (arith, card_split m (has j) X, partition m rest J a.1)

-- The same for the peptides of q.

pub cover_in : (m : ℕ) (X : Peptides) (J : List Range) (q : Range) → count m X q ≤ sum_over (count m X) J + count m (λ p. outside J p && X p) q
unfolding count
cover_in m X J q =
    let own : Peptides = λ p. has q p && X p in
    let fewer = sum_mono (count m own) (count m X) J (λ r i. count_mono m own X r (λ p l u h e. search ands)) in
    let free = card_mono m (λ p. outside J p && own p) (λ p. has q p && (outside J p && X p)) (λ p l u e. search ands) in
    omega (arith, cover m own J)

pub partition_in : (m : ℕ) (X : Peptides) (J : List Range) (q : Range) → Apart J → ((r : Range) → In r J → Contains q r)
    → count m X q ≡ sum_over (count m X) J + count m (λ p. outside J p && X p) q
unfolding count
partition_in m X J q a c =
    let own : Peptides = λ p. has q p && X p in
    let same = sum_same (count m own) (count m X) J (λ r i. count_same m own X r (λ p l u h. rw (c r i p h))) in
    let out = card_mono m (λ p. outside J p && own p) (λ p. has q p && (outside J p && X p)) (λ p l u e. search ands) in
    let back = card_mono m (λ p. has q p && (outside J p && X p)) (λ p. outside J p && own p) (λ p l u e. search ands) in
    omega (arith, partition m own J a)
