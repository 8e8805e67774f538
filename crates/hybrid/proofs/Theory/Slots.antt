-- The Simes bound as taken slots: each peptide of a path takes the last slot that is free up to the last k at which it is counted.
use Prim.Native.Nat.{ℕ, zero, suc, ◌+◌, ◌-◌, ◌*◌, ◌≤◌, ◌<◌}
use mathlib.Core.Bool.{Bool, true, false, not, ◌&&◌, and-true, and-false}
use mathlib.Core.List.{List}
use mathlib.Core.Logic.{◌≢◌, ◌⊎◌, inl, inr, ⊎_elim}
use mathlib.Core.Path.{◌≡◌, refl, sym, ap, ◌∙◌}
use native.Mathlib.Nat.{mul-le-mul_left}
use native.Mathlib.Numerals.{add-one}
use native.Mathlib.Omega.{arith}
use lib.ListN.{length, get_or, take, get_or-eq_default}
use lib.Dec.{eqb, leb, ltb}
use borrow.Author.Tests.{leb-true, ltb-true, le-leb, lt-leb, lt-ltb, le-ltb, eqb-true, eq-eqb, ne_eqb}
use Rattle.bounds.specs.Ranges.{Peptides, card, some}
use Rattle.bounds.specs.Curves.{among, largest_up_to}
use Rattle.bounds.proofs.Basics.Members.{test, clash, both_ways, le_or_lt, and_l, bit, bit_mono}
use Rattle.bounds.proofs.Basics.Counting.{Subset, card_most, card_mono, card_same, card_none, card_split, card_upto, card_less, card_but_one, adding, adding_it, adding_other}
use Rattle.bounds.proofs.Calls.PathLaws.{accepted_path}
use Rattle.bounds.proofs.Theory.Marks.{among_next, not_among}
use Rattle.bounds.proofs.Theory.CutTheorem.{largest_most, largest_is}
use Rattle.hybrid.specs.Hybrid.{p_value_of, counted_at, simes_at, simes}
use Rattle.hybrid.specs.Private.Simes.{last_counted, is_free, Taken, taken_from, counted_of, Seated, SimesInputs}
use Rattle.hybrid.proofs.Theory.Least.{Reached, least_is}

-- The last k at which a peptide is counted.

-- the largest number that passes a test passes it, if it is not 0
largest_some : (n : ℕ) (p : ℕ → Bool) → 0 < largest_up_to n p → p (largest_up_to n p) ≡ true
unfolding largest_up_to
largest_some zero p some = absurd (omega arith)
largest_some (suc n) p some = ⊎_elim (λ y. rw y y) (λ no. rw no (largest_some n p (rw no at some))) (test (p (suc n)))

module _ (m level p : ℕ) where
  abbrev counted : ℕ → Bool
  counted k = ltb (level * k) (p * m)

  abbrev end : ℕ
  end = last_counted m level p

  pub last_counted_most : last_counted m level p ≤ m
  unfolding last_counted
  last_counted_most = largest_most m counted

  end_counted : 0 < end → level * end < p * m
  unfolding last_counted
  end_counted some = ltb-true (level * end) (p * m) (largest_some m counted some)

  end_last : (k : ℕ) → k ≤ m → level * k < p * m → k ≤ end
  unfolding last_counted
  end_last k most h = largest_is m counted k most (lt-ltb (level * k) (p * m) h)

  -- a peptide is counted at each k from 1 up to the last, and at none above
  pub last_counted_is : (k : ℕ) → 0 < k → k ≤ m → ltb (level * k) (p * m) ≡ leb k (last_counted m level p)
  last_counted_is k some most =
      both_ways (counted k) (leb k end) (λ h. le-leb k end (end_last k most (ltb-true (level * k) (p * m) h)))
      (λ h.
      let l : k ≤ end = leb-true k end h in
      lt-ltb (level * k) (p * m) (omega (arith, end_counted (omega arith), mul-le-mul_left level l)))

  pub last_counted_none : p * m ≡ 0 → 0 ≡ last_counted m level p
  last_counted_none none = ⊎_elim (λ l. omega arith) (λ l. absurd (omega (arith, end_counted l))) (le_or_lt end 0)

  -- the last k at which the level times k is less than p times m, and m if that is not larger
  pub last_counted_below : (last : ℕ) → level * last < p * m → p * m ≤ level * (last + 1) → last < m → last ≡ last_counted m level p
  last_counted_below last here next less =
      ⊎_elim
      (λ l. omega (arith, end_last last (omega arith) here))
      (λ l. absurd (omega (arith, end_counted (omega arith), mul-le-mul_left level l)))
      (le_or_lt end last)

  pub last_counted_all : (last : ℕ) → level * last < p * m → m ≤ last → m ≡ last_counted m level p
  last_counted_all last here more =
      omega (arith, last_counted_most, end_last m (omega arith) (omega (arith, mul-le-mul_left level more)))

-- Counts.

-- Where only q can make a difference between two sets, and the first does not have it, the second has more by the bit of q.
card_grows : (m q : ℕ) (X Y : Peptides) → 0 < q → q ≤ m → X q ≡ false → ((p : ℕ) → 0 < p → p ≤ m → p ≢ q → Y p ≡ X p)
    → card m Y ≡ card m X + bit (Y q)
card_grows m q X Y l u lacks others =
    ⊎_elim
    (λ has. rw has (omega (arith, card_less m q X Y old l u lacks has, card_but_one m q Y X (λ p a b d y. rw (others p a b d) at y))))
    (λ no. rw no (omega (arith, card_mono m X Y old, card_mono m Y X (λ p a b y. rw (others p a b (λ e. clash y (rw e no))) at y))))
    (test (Y q))
  where
    old : Subset m X Y
    old p a b x = rw (others p a b (λ e. clash x (rw e lacks))) x

-- a set has what it has up to n, and from n + 1 on
card_from : (m n : ℕ) (X : Peptides) → n ≤ m → card m X ≡ card n X + card m (λ q. leb (suc n) q && X q)
card_from m n X h =
    let rest = card_same m (λ q. not (leb q n) && X q) (λ q. leb (suc n) q && X q) (λ q l u. above q (le_or_lt q n)) in
    omega (arith, card_split m (λ q. leb q n) X, card_upto n m X h)
  where
    above : (q : ℕ) → (q ≤ n) ⊎ (n < q) → (not (leb q n) && X q) ≡ (leb (suc n) q && X q)
    above q (inl h) = rw (le-leb q n h, le-ltb n q h)
    above q (inr h) = rw (lt-leb q n h, lt-ltb n q h)

-- The slots before the first peptide: all are free.

pub seated_starts : (m : ℕ) (path ps : List ℕ) (level : ℕ) (slots : List ℕ) → m ≤ 4096 → length slots ≡ 4097
    → ((i : ℕ) → i < 4097 → get_or slots i 0 ≡ i) → Seated m ps level (among (take 0 path)) slots 0
unfolding is_free taken_from among some
seated_starts m path ps level slots few sized own =
    record {
      kept = record { sized = sized; falling = falling; between = λ q r l below most. absurd (omega (arith, own q l)) };
      number = sym (none_taken 1);
      most = λ k l u. omega (arith, none_taken k);
      equal = λ k l u free. omega (arith, none_taken k, card_none m (λ p. false) (λ p a b. refl));
    }
  where
    falling : (q : ℕ) → get_or slots q 0 ≤ q
    falling q =
        ⊎_elim (λ l. omega (arith, own q l)) (λ l. omega (arith, get_or-eq_default slots 0 {n = q} (omega arith))) (le_or_lt (suc q) 4097)

    none_taken : (k : ℕ) → card m (λ q. leb k q && not (eqb (get_or slots q 0) q)) ≡ 0
    none_taken k =
        card_none m (λ q. leb k q && not (eqb (get_or slots q 0) q))
        (λ q l u. rw (eq-eqb (get_or slots q 0) q (own q (omega arith))) (and-false (leb k q)))

-- One peptide more, the next.

module _ {m : ℕ} {path ps : List ℕ} {level : ℕ} (i : SimesInputs m path ps level) (t : ℕ) (h : t < length path) where
  abbrev next : ℕ
  next = get_or path t 0

  abbrev before : Peptides
  before = among (take t path)

  abbrev after : Peptides
  after = among (take (t + 1) path)

  abbrev last : ℕ
  last = last_counted m level (get_or ps (next - 1) 0)

  after_is : (p : ℕ) → after p ≡ adding next before p
  after_is p = rw add-one (among_next path t h p)

  not_before : before next ≡ false
  not_before = not_among (accepted_path m path i.is_path) t h

  -- at each k up to the last, one more is counted
  counted_grows : (k : ℕ) → 0 < k → k ≤ m → counted_of m ps level after k ≡ counted_of m ps level before k + bit (leb k last)
  unfolding counted_at p_value_of
  counted_grows k some most =
      let X : Peptides = λ p. before p && counted_at m ps level k p in
      let Y : Peptides = λ p. after p && counted_at m ps level k p in
      let is = accepted_path m path i.is_path in
      let here : Y next ≡ leb k last = rw (after_is next, adding_it next before) (last_counted_is m level (get_or ps (next - 1) 0) k some most) in
      rw here at (card_grows m next X Y (is.some t h) (is.most t h) (rw not_before) (λ p a b d. rw (after_is p, adding_other next before p d)))

  module _ (slots new : List ℕ) (v : ℕ) (got : Bool) (seated : Seated m ps level before slots v) (taken : Taken slots last new got) where
    abbrev slot : ℕ
    slot = taken.slot

    -- from each k up to the slot found on, one slot more is taken; slot 0 is not counted
    taken_grows : (k : ℕ) → 0 < k → taken_from m new k ≡ taken_from m slots k + bit (leb k slot)
    unfolding taken_from
    taken_grows k some =
        let X : Peptides = λ q. leb k q && not (is_free slots q) in
        let Y : Peptides = λ q. leb k q && not (is_free new q) in
        let others : (q : ℕ) → 0 < q → q ≤ m → q ≢ slot → Y q ≡ X q = λ q a b d. rw (taken.others q (omega (arith, i.few)) d) in
        ⊎_elim
        (λ (none : slot ≤ 0). rw (lt-leb k slot (omega arith)) (omega (arith, card_same m Y X (λ q a b. others q a b (λ e. omega arith)))))
        (λ (l : 0 < slot).
        let most : slot ≤ m = omega (arith, taken.found.most, last_counted_most m level (get_or ps (next - 1) 0)) in
        let here : Y slot ≡ leb k slot = rw (taken.taken l) (and-true (leb k slot)) in
        rw here at (card_grows m slot X Y l most (rw taken.found.free (and-false (leb k slot))) others))
        (le_or_lt slot 0)

    got_is : bit got ≡ bit (leb 1 slot)
    got_is = ap bit (taken.counted ∙ go slot)
      where
        go : (s : ℕ) → not (eqb s 0) ≡ leb 1 s
        go zero = refl
        go (suc s) = rw (ne_eqb (suc s) 0 (λ e. omega arith), le-leb 1 (suc s) (omega arith))

    up_to_last : (k : ℕ) → leb k slot ≡ true → leb k last ≡ true
    up_to_last k e = le-leb k last (omega (arith, leb-true k slot e, taken.found.most))

    -- a free k is up to the slot found, or above the last
    both_grow : (k : ℕ) → is_free slots k ≡ true → leb k slot ≡ leb k last
    both_grow k free =
        both_ways (leb k slot) (leb k last) (up_to_last k)
        (λ e. ⊎_elim (le-leb k slot) (λ l. absurd (clash free (taken.found.above k l (leb-true k last e)))) (le_or_lt k slot))

    free_before : (k : ℕ) → 0 < k → k ≤ m → is_free new k ≡ true → is_free slots k ≡ true
    free_before k some most free =
        rw (taken.others k (omega (arith, i.few)) (λ e. clash free (rw e (taken.taken (omega arith))))) at free

    pub seated_steps : Seated m ps level (among (take (t + 1) path)) new (v + bit got)
    seated_steps =
        record {
          kept = taken.kept;
          number = omega (arith, seated.number, taken_grows 1 (omega arith), got_is);
          most = λ k l u. omega (arith, seated.most k l u, taken_grows k l, counted_grows k l u, bit_mono (leb k slot) (leb k last) (up_to_last k));
          equal = λ k l u free.
              let old = free_before k l u free in
              omega (arith, seated.equal k l u old, taken_grows k l, counted_grows k l u, ap bit (both_grow k old));
        }

-- The number of slots taken.

module _ {m : ℕ} {ps : List ℕ} {level : ℕ} {S : Peptides} {slots : List ℕ} {v : ℕ} (s : Seated m ps level S slots v) where
  abbrev taken_slot : Peptides
  taken_slot q = not (is_free slots q)

  pub seated_most : v ≤ m
  unfolding taken_from
  seated_most = omega (arith, s.number, card_most m (λ q. leb 1 q && taken_slot q))

  number_from : (n : ℕ) → n ≤ m → v ≡ card n taken_slot + taken_from m slots (suc n)
  unfolding taken_from card
  number_from n h = omega (arith, s.number, card_from m 0 taken_slot (omega arith), card_from m n taken_slot h)

  -- it is at most the value at each k
  simes_most : (k : ℕ) → 0 < k → k ≤ m → v ≤ simes_at m ps level S k
  unfolding simes_at
  simes_most zero l u = absurd (omega arith)
  simes_most (suc n) l u = omega (arith, number_from n (omega arith), card_most n taken_slot, s.most (suc n) l u)

  -- it is the value at the first free slot; else all are taken
  first_free : (n : ℕ) → n ≤ m → Reached m (simes_at m ps level S) v ⊎ (card n taken_slot ≡ n)
  unfolding simes_at card
  first_free zero h = inr refl
  first_free (suc n) h =
      ⊎_elim inl
      (λ (full : card n taken_slot ≡ n).
      ⊎_elim
      (λ free. inl (record { k = suc n; some = omega arith; most = h; reaches = omega (arith, number_from n (omega arith), s.equal (suc n) (omega arith) h free) }))
      (λ no. inr (rw no (omega arith)))
      (test (is_free slots (suc n))))
      (first_free n (omega arith))

  -- with all slots taken it is m, and the value at 1 is no larger
  reached : 0 < m → Reached m (simes_at m ps level S) v
  unfolding simes_at
  reached some =
      ⊎_elim (λ r. r)
      (λ (full : card m taken_slot ≡ m).
      record { k = 1; some = omega arith; most = some; reaches = omega (arith, number_from m (omega arith), card_most m (λ p. S p && counted_at m ps level 1 p)) })
      (first_free m (omega arith))

  is_simes : 0 < m → v ≡ simes m ps level S
  unfolding simes simes_at
  is_simes some =
      ⊎_elim
      (λ empty.
      let few = card_mono m (λ p. S p && counted_at m ps level 1 p) S (λ p a b. and_l (S p) (counted_at m ps level 1 p)) in
      rw empty (omega (arith, eqb-true (card m S) 0 empty, simes_most 1 (omega arith) some)))
      (λ more. rw more (least_is m (simes_at m ps level S) v simes_most (reached some)))
      (test (eqb (card m S) 0))

-- It is the Simes bound of the peptides passed.
pub seated_is : {m : ℕ} {path ps : List ℕ} {level : ℕ} → SimesInputs m path ps level → (t : ℕ) → t ≤ length path → (slots : List ℕ) (v : ℕ)
    → Seated m ps level (among (take t path)) slots v → v ≡ simes m ps level (among (take t path))
seated_is i t h slots v s = is_simes s i.some
