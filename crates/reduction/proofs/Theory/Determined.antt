-- The kept stretches are determined by the admissible sets: over two lists of stretches and one set S of peptides that are counted.
-- The argument. Let s be kept in the one list. Both ends of s, grown by the greedy walk (`grown`) and cut down to z + 1 peptides of s
-- (`picked`), are a `critical` set: too many for s, but with any one of them left out they respect all stretches of that list (`rest_fits`).
-- The other list allows the same sets. So the critical set breaks one of its stretches, by `kept_suffice` a kept one, t (`broken_there`),
-- but not with any one peptide left out (`few`): all of it lies in t (`all_there`), so t has the z of s, and is s or around s (`covers`).
-- In turn a kept u of the one list is t or around t (`covered`). Having the z of s it is not strictly around s, so t is s (`kept_same`).
use Prim.Native.Nat.{ℕ, suc, ◌+◌, ◌-◌, ◌≤◌, ◌<◌}
use mathlib.Core.Bool.{true, false, not, ◌&&◌}
use mathlib.Core.List.{List}
use mathlib.Core.Logic.{◌⊎◌, inl, inr, ⊎_elim}
use mathlib.Core.Path.{◌≡◌, refl, ap}
use native.Mathlib.Omega.{arith}
use lib.Dec.{eqb}
use borrow.Author.Tests.{eq-eqb, ne_eqb}
use Rattle.reader.proofs.Bools.{passes}
use Rattle.bounds.specs.Ranges.{Range, Peptides, has, card, count, In}
use Rattle.bounds.proofs.Basics.Members.{clash, and_l, and_r, and_both, refuted, le_or_lt}
use Rattle.bounds.proofs.Basics.Counting.{Subset, none, adding, adding_it, adding_old, adding_other, adding_either, card_none, card_less, card_but_one, count_none, count_mono, count_adding_most, count_adding_other}
use Rattle.bounds.proofs.Basics.Nesting.{Has, has_facts, Inside}
use Rattle.bounds.proofs.Theory.Laminar.{Fit, is_inside, is_around, is_before, is_after, fit}
use Rattle.bounds.proofs.Theory.Greedy.{Respects}
use Rattle.reduction.proofs.Basics.Unless.{le_unless}
use Rattle.reduction.proofs.Basics.Counts.{count_zero, count_card, card_in}
use Rattle.reduction.proofs.Basics.Choices.{choose, decide_lt, Between, between}
use Rattle.reduction.proofs.Theory.Grown.{Grown, grow}
use Rattle.reduction.proofs.Theory.Kept.{Stretch, stretch_has, has_stretch_lem, Stretches, Kept}
use Rattle.reduction.proofs.Theory.Suffice.{Breaks, BreaksKept, kept_suffice}

-- One peptide less.

removing : ℕ → Peptides → Peptides
removing q X p = not (eqb p q) && X p

removing_in : (q : ℕ) (X : Peptides) (p : ℕ) → removing q X p ≡ true → X p ≡ true
unfolding removing
removing_in q X p e = and_r (not (eqb p q)) (X p) e

removing_other : (q : ℕ) (X : Peptides) (p : ℕ) → (p ≡ q → ⊥) → X p ≡ true → removing q X p ≡ true
unfolding removing
removing_other q X p n e = and_both (not (eqb p q)) (X p) (ap not (ne_eqb p q n)) e

removing_it : (q : ℕ) (X : Peptides) → removing q X q ≡ false
unfolding removing
removing_it q X = rw (eq-eqb q q refl)

card_removing : (m q : ℕ) (X : Peptides) → 0 < q → q ≤ m → X q ≡ true → card m (removing q X) < card m X
card_removing m q X l u e = card_less m q (removing q X) X (λ p k v i. removing_in q X p i) l u (removing_it q X) e

count_removing : (m q : ℕ) (X : Peptides) (r : Range) → count m X r ≤ suc (count m (removing q X) r)
unfolding count
count_removing m q X r =
    card_but_one m q (λ p. has r p && X p) (λ p. has r p && removing q X p)
    (λ p l u n e. and_both (has r p) _ (and_l _ (X p) e) (removing_other q X p n (and_r (has r p) (X p) e)))

count_removing_other : (m q : ℕ) (X : Peptides) (r : Range) → has r q ≡ false → count m X r ≤ count m (removing q X) r
count_removing_other m q X r h = count_mono m X (removing q X) r (λ p l u i e. removing_other q X p (λ d. clash i (rw d h)) e)

-- Both ends of a stretch.

ends : Range → Peptides
ends s = adding s.to (adding s.from none)

ends_facts : (s : Range) (p : ℕ) → ends s p ≡ true → (p ≡ s.to) ⊎ (p ≡ s.from)
unfolding ends
ends_facts s p e =
    ⊎_elim inl (λ f. ⊎_elim inr (λ g. absurd (clash g refl)) (adding_either s.from none p f)) (adding_either s.to (adding s.from none) p e)

ends_first : (s : Range) → ends s s.from ≡ true
unfolding ends
ends_first s = adding_old s.to (adding s.from none) s.from (adding_it s.from none)

ends_last : (s : Range) → ends s s.to ≡ true
unfolding ends
ends_last s = adding_it s.to (adding s.from none)

-- what holds of both ends holds of the set
ends_all : (P : Peptides) (s : Range) → P s.from ≡ true → P s.to ≡ true → (p : ℕ) → ends s p ≡ true → P p ≡ true
ends_all P s f t p e = ⊎_elim (λ d. rw d t) (λ d. rw d f) (ends_facts s p e)

ends_size : (m : ℕ) (s : Range) → card m (ends s) ≤ 2
unfolding ends
ends_size m s =
    let one : Peptides = adding s.from none in
    let first = card_but_one m s.from one none (λ p l u n e. rw (adding_other s.from none p n) at e) in
    let second = card_but_one m s.to (adding s.to one) one (λ p l u n e. rw (adding_other s.to one p n) at e) in
    omega (arith, card_none m none (λ p l u. refl))

-- a stretch inside s holds at most one of them
ends_fit : {m : ℕ} {S : Peptides} (s r : Range) → Stretch m S r → Inside r s → count m (ends s) r ≤ r.z
unfolding ends
ends_fit {m} s r w n =
    let one : Peptides = adding s.from none in
    ⊎_elim
    (λ h.
    let last = count_adding_other m s.to one r (refuted (has r s.to) (λ e. omega (arith, has_stretch_lem w s.to e))) in
    omega (arith, count_none m r, count_adding_most m s.from none r, w.bound))
    (λ h.
    let first = count_adding_other m s.from none r (refuted (has r s.from) (λ e. omega (arith, has_stretch_lem w s.from e))) in
    omega (arith, count_none m r, count_adding_most m s.to one r, w.bound))
    (le_or_lt r.from s.from)

-- Of a kept stretch s: z + 1 of its counted peptides, both ends among them, that respect all stretches when any one of them is left out.
record Critical (m : ℕ) (S : Peptides) (T : List Range) (s : Range) : Type 0 where
  set : Peptides
  size : card m set ≡ suc s.z
  inner : Subset m set (has s)
  counted : Subset m set S
  first : set s.from ≡ true
  last : set s.to ≡ true
  minimal : (q : ℕ) → 0 < q → q ≤ m → set q ≡ true → Respects m T (removing q set)

module _ {m : ℕ} {S : Peptides} {T : List Range} (W : Stretches m S T) (s : Range) (i : In s T) (k : Kept m T S s) where
  abbrev s_stretch : Stretch m S s
  s_stretch = W.member s i

  -- the set grown from both ends
  grown : Grown m T S s (ends s)
  grown =
      grow W.laminar S s i (ends s) (λ p l u. ends_all S s s_stretch.first s_stretch.last p) (λ r j n. ends_fit s r (W.member r j) n)

  -- its peptides in s, among them both ends, and z + 1 of these
  grown_in : Peptides
  grown_in p = has s p && grown.set p

  ends_grown : Subset m (ends s) grown_in
  unfolding grown_in
  ends_grown p l u e =
      let w = s_stretch in
      let own = ends_all (has s) s (stretch_has w s.from (omega arith) w.order) (stretch_has w s.to w.order (omega arith)) p e in
      and_both (has s p) _ own (grown.above p l u e)

  picked : Between m (ends s) grown_in (suc s.z)
  unfolding grown_in count
  picked =
      between m (ends s) grown_in (suc s.z - card m (ends s)) (suc s.z) ends_grown
      (omega (arith, ends_size m s, s_stretch.bound)) (omega (arith, k.less, grown.reaches))

  picked_in : Subset m picked.set (has s)
  unfolding grown_in
  picked_in p l u e = and_l (has s p) (grown.set p) (picked.below p l u e)

  picked_grown : Subset m picked.set grown.set
  unfolding grown_in
  picked_grown p l u e = and_r (has s p) (grown.set p) (picked.below p l u e)

  module _ (q : ℕ) (l : 0 < q) (u : q ≤ m) (e : picked.set q ≡ true) where
    rest : Peptides
    rest = removing q picked.set

    rest_in : (p : ℕ) → rest p ≡ true → picked.set p ≡ true
    unfolding rest
    rest_in p f = removing_in q picked.set p f

    rest_has : (p : ℕ) → 0 < p → p ≤ m → rest p ≡ true → Has s p
    rest_has p c d f = has_facts s p (picked_in p c d (rest_in p f))

    rest_size : card m rest ≤ s.z
    unfolding rest
    rest_size = omega (arith, card_removing m q picked.set l u e, picked.size)

    -- inside s it is part of the grown set; s has z of it; what is around has a larger z; elsewhere there is none of it
    rest_fits : (r : Range) → In r T → Fit r s → count m rest r ≤ r.z
    rest_fits r j (is_inside n a b) =
        omega (arith, grown.respects r j n, count_mono m rest grown.set r (λ p c d f g. picked_grown p c d (rest_in p g)))
    rest_fits r j (is_around n a b) = omega (arith, rest_size, count_card m rest r, k.larger r j n)
    rest_fits r j (is_before n a) = omega (arith, count_zero m rest r (λ p c d f g. omega (arith, has_facts r p f, rest_has p c d g)))
    rest_fits r j (is_after n a) = omega (arith, count_zero m rest r (λ p c d f g. omega (arith, has_facts r p f, rest_has p c d g)))

    rest_respects : Respects m T rest
    rest_respects r j = ⊎_elim (λ d. rw d (omega (arith, rest_size, count_card m rest s))) (rest_fits r j) (fit W.laminar r s j i)

  critical : Critical m S T s
  unfolding rest
  critical =
      let w = s_stretch in
      record {
        set = picked.set;
        size = picked.size;
        inner = picked_in;
        counted = λ p l u e. grown.counted p l u (picked_grown p l u e);
        first = picked.above s.from (omega arith) (omega arith) (ends_first s);
        last = picked.above s.to (omega arith) w.small (ends_last s);
        minimal = rest_respects;
      }

-- Two lists of stretches that allow the same sets of counted peptides.

abbrev pub Allows : ℕ → Peptides → List Range → List Range → Type 0
Allows m S T U = (A : Peptides) → Subset m A S → Respects m T A → Respects m U A

-- a kept stretch with the same z that is s, or around s
record Covers (m : ℕ) (S : Peptides) (U : List Range) (s : Range) : Type 0 where
  it : Range
  member : In it U
  kept : Kept m U S it
  level : it.z ≡ s.z
  left : it.from ≤ s.from
  right : s.to ≤ it.to

module _ {m : ℕ} {S : Peptides} {T U : List Range} (X : Stretches m S T) (W : Stretches m S U) (there : Allows m S T U) (back : Allows m S U T) where
  module _ (s : Range) (i : In s T) (c : Critical m S T s) where
    -- the critical set breaks a kept stretch of the other list
    broken_there : BreaksKept m U S c.set
    broken_there =
        ⊎_elim (λ f. kept_suffice W c.set c.counted f.it f.member f.holds) (λ n. absurd (intact n))
        (choose (Breaks m c.set) (λ t. decide_lt t.z (count m c.set t)) U)
      where
        -- else it would respect s, of which it has z + 1 peptides
        intact : ((t : Range) → In t U → Breaks m c.set t → ⊥) → ⊥
        intact n =
            let fits : Respects m U c.set = λ r j. le_unless (count m c.set r) r.z (n r j) in
            omega (arith, back c.set c.counted fits s i, c.size, card_in m c.set s c.inner)

    module _ (b : BreaksKept m U S c.set) where
      -- without any one of its peptides it breaks nothing,
      few : (q : ℕ) → 0 < q → q ≤ m → c.set q ≡ true → count m (removing q c.set) b.it ≤ b.it.z
      few q l u e =
          there (removing q c.set) (λ p a d f. c.counted p a d (removing_in q c.set p f)) (c.minimal q l u e) b.it b.member

      -- so all of it lies there
      all_there : Subset m c.set (has b.it)
      all_there q l u e =
          passes (has b.it q) (λ h. omega (arith, few q l u e, count_removing_other m q c.set b.it h, b.broken))

      covers : Covers m S U s
      covers =
          let v = X.member s i in
          let w = W.member b.it b.member in
          let first = has_stretch_lem w s.from (all_there s.from (omega arith) (omega arith) c.first) in
          let last = has_stretch_lem w s.to (all_there s.to (omega arith) (omega arith) c.last) in
          let most = few s.from (omega arith) (omega arith) c.first in
          let all = card_in m c.set b.it all_there in
          record {
            it = b.it;
            member = b.member;
            kept = b.kept;
            level = omega (arith, b.broken, c.size, count_card m c.set b.it, count_removing m s.from c.set b.it);
            left = first.0;
            right = last.1;
          }

  covered : (s : Range) → In s T → Kept m T S s → Covers m S U s
  covered s i k = let c = critical X s i k in covers s i c (broken_there s i c)

range_same : (r t : Range) → r.from ≡ t.from → r.to ≡ t.to → r.low ≡ t.low → r.high ≡ t.high → r.z ≡ t.z → r ≡ t
range_same r t a b c d e = λ i. record { from = a i; to = b i; low = c i; high = d i; z = e i }

-- A kept stretch s of the one list is a kept stretch of the other: t of the other covers s, and u of the one covers t;
-- u is not strictly around s, since its z is no larger.
pub kept_same : {m : ℕ} {S : Peptides} {T U : List Range} → Stretches m S T → Stretches m S U → Allows m S T U → Allows m S U T
    → (s : Range) → In s T → Kept m T S s → In s U × Kept m U S s
kept_same {m} {S} {T} {U} X W there back s i k = (rw e at t.member, rw e at t.kept)
  where
    t : Covers m S U s
    t = covered X W there back s i k

    u : Covers m S T t.it
    u = covered W X back there t.it t.member t.kept

    -- the keys of s, t and u are nested, and that of u is no longer than that of s
    nested : (u.it.from ≤ s.from) × (s.to ≤ u.it.to)
    nested = omega (arith, t.left, t.right, u.left, u.right)

    short : s.from + u.it.to ≤ u.it.from + s.to
    short =
        le_unless (s.from + u.it.to) (u.it.from + s.to)
        (λ h. omega (arith, k.larger u.it u.member (record { left = nested.0; right = nested.1; less = h }), t.level, u.level))

    keys : (t.it.from ≡ s.from) × (t.it.to ≡ s.to)
    keys = omega (arith, short, t.left, t.right, u.left, u.right)

    e : t.it ≡ s
    e =
        let v = X.member s i in
        let w = W.member t.it t.member in
        range_same t.it s keys.0 keys.1 (omega (arith, keys)) (omega (arith, keys)) t.level
