-- The parents: the climb that finds them, and what they say about nesting and depth.
use Prim.Native.Nat.{ℕ, zero, suc, ◌+◌, ◌-◌, ◌<◌, ◌≤◌}
use native.Mathlib.Nat.{eq-or-lt_of_le}
use native.Mathlib.Omega.{arith}
use mathlib.Core.Bool.{true, false, not, ◌&&◌}
use mathlib.Core.List.{List}
use mathlib.Core.Path.{◌≡◌, refl, sym, ap, subst, ◌∙◌}
use mathlib.Core.Logic.{◌⊎◌, inl, inr, ⊎_elim}
use lib.ListN.{length, get_or, set, take}
use lib.Seq.{get_or-set_same, get_or-set_other, get_or-take, ext_get_or, length-take-le}
use lib.Dec.{leb, ltb, eqb}
use borrow.Author.Tests.{ltb-true, ltb-false, leb-true, leb-false, eqb-true, lt-ltb, le-ltb, le-leb, ne_eqb, not-true, not-false}
use Rattle.reader.specs.Lists.{tabulate, some_below}
use Rattle.reader.specs.Family.{Region, Family, region_count, region}
use Rattle.reader.specs.Nesting.{share_leaf, region_within, crossing, region_inside, regions_around, region_just_inside, parent, parents}
use Rattle.reader.specs.Causes.{cause9, cause10}
use Rattle.reader.specs.WellFormed.{Ordered, NestedBelow, IsParent, ParentsBelow}
use Rattle.reader.specs.Private.Climb.{Climbed, ends_before, one_deeper}
use Rattle.reader.proofs.Bools.{test, clash, refuted, and_l, and_r, and_both, and_fails, not_passes}
use Rattle.reader.proofs.Lists.{length_tabulate, get_d_tabulate, set_more}
use Rattle.reader.proofs.Below.{below_next, last_below, none_at, none_below, some_at, first_at_lem, first_none, count_below_none, count_one_more}

-- Leaf ranges that lie within each other, as inequalities.

pub record Within (r q : Region) : Type 0 where
  pub left : q.first ≤ r.first
  pub right : r.last ≤ q.last

pub is_within : (r q : Region) → region_within r q ≡ true → Within r q
unfolding region_within
is_within r q h =
    record {
      left = leb-true q.first r.first (and_l (leb q.first r.first) (leb r.last q.last) h);
      right = leb-true r.last q.last (and_r (leb q.first r.first) (leb r.last q.last) h);
    }

pub from_within : (r q : Region) → Within r q → region_within r q ≡ true
unfolding region_within
from_within r q w = and_both (leb q.first r.first) (leb r.last q.last) (le-leb q.first r.first w.left) (le-leb r.last q.last w.right)

pub not_within : (r q : Region) → (Within r q → ⊥) → region_within r q ≡ false
not_within r q h = refuted (region_within r q) (λ t. h (is_within r q t))

module _ (F : Family) (o : Ordered F) where
  -- In file order the k-th region is inside the i-th one exactly when it comes later and does not end later.
  pub inside_later : (k i : ℕ) → k < region_count F → i < region_count F → region_inside (region F k) (region F i) ≡ true → (i < k) × ((region F k).last ≤ (region F i).last)
  unfolding region_inside
  inside_later k i lk li h =
      let w = is_within (region F k) (region F i) (and_l (region_within (region F k) (region F i)) (not (region_within (region F i) (region F k))) h) in
      let n = not-true (region_within (region F i) (region F k)) (and_r (region_within (region F k) (region F i)) (not (region_within (region F i) (region F k))) h) in
      let back : ((region F k).first ≤ (region F i).first → (region F i).last ≤ (region F k).last → ⊥) =
      λ a b. clash (from_within (region F i) (region F k) (record { left = a; right = b })) n in (
        ⊎_elim
            (λ t. ltb-true i k t)
            (λ f.
            absurd
            (⊎_elim
            (λ e. back (rw e (omega arith)) (rw e (omega arith)))
            (λ l. back (o.rising k i l li) (absurd_last k i l li w back))
            (eq-or-lt_of_le (ltb-false i k f))))
            (test (ltb i k)),
        w.right,
      )
    where
      absurd_last : (k i : ℕ) → k < i → i < region_count F → Within (region F k) (region F i) → ((region F k).first ≤ (region F i).first → (region F i).last ≤ (region F k).last → ⊥) → (region F i).last ≤ (region F k).last
      absurd_last k i l li w back = absurd (omega (arith, o.falling k i l li (omega (arith, o.rising k i l li))))

  pub later_inside : (k i : ℕ) → i < k → k < region_count F → (region F k).last ≤ (region F i).last → region_inside (region F k) (region F i) ≡ true
  unfolding region_inside
  later_inside k i l lk h =
      and_both (region_within (region F k) (region F i)) (not (region_within (region F i) (region F k)))
      (from_within (region F k) (region F i) (record { left = o.rising i k l lk; right = h }))
      (not_passes (region_within (region F i) (region F k))
      (not_within (region F i) (region F k) (λ w. omega (arith, o.rising i k l lk, o.falling i k l lk (omega (arith, o.rising i k l lk, w))))))

  pub later_crossing : (i k : ℕ) → i < k → k < region_count F → (region F k).first ≤ (region F i).last → (region F i).last < (region F k).last → crossing (region F i) (region F k) ≡ true
  unfolding crossing share_leaf
  later_crossing i k l lk a b =
      let rise = o.rising i k l lk in
      and_both (share_leaf (region F i) (region F k) && not (region_within (region F i) (region F k))) (not (region_within (region F k) (region F i)))
      (and_both (share_leaf (region F i) (region F k)) (not (region_within (region F i) (region F k)))
      (and_both (leb (region F i).first (region F k).last) (leb (region F k).first (region F i).last)
      (le-leb (region F i).first (region F k).last (omega (arith, o.first_last k lk)))
      (le-leb (region F k).first (region F i).last a))
      (not_passes (region_within (region F i) (region F k)) (not_within (region F i) (region F k) (λ w. omega (arith, w, o.falling i k l lk (omega (arith, w)))))))
      (not_passes (region_within (region F k) (region F i)) (not_within (region F k) (region F i) (λ w. omega (arith, w))))

  pub later_not_crossing : (i k : ℕ) → i < k → k < region_count F → ((region F i).last < (region F k).first) ⊎ ((region F k).last ≤ (region F i).last) → crossing (region F i) (region F k) ≡ false
  unfolding crossing share_leaf
  later_not_crossing i k l lk h =
      refuted (crossing (region F i) (region F k))
      (λ t.
      let s = share_leaf (region F i) (region F k) in
      let a = not (region_within (region F i) (region F k)) in
      let b = not (region_within (region F k) (region F i)) in
      ⊎_elim
      (λ d. omega (arith, leb-true (region F k).first (region F i).last (and_r (leb (region F i).first (region F k).last) (leb (region F k).first (region F i).last) (and_l s a (and_l (s && a) b t)))))
      (λ d. clash (from_within (region F k) (region F i) (record { left = o.rising i k l lk; right = d })) (not-true (region_within (region F k) (region F i)) (and_r (s && a) b t)))
      h)

  pub nested_if_clear : cause9 F ≡ false → NestedBelow F (region_count F)
  unfolding cause9
  nested_if_clear h i j l lj =
      ⊎_elim
      (λ t.
      ⊎_elim
      (λ u. absurd (clash (later_crossing i j l lj (leb-true (region F j).first (region F i).last t) (ltb-true (region F i).last (region F j).last u)) none))
      (λ u. inr (ltb-false (region F i).last (region F j).last u))
      (test (ltb (region F i).last (region F j).last)))
      (λ f. inl (leb-false (region F j).first (region F i).last f))
      (test (leb (region F j).first (region F i).last))
    where
      none : crossing (region F i) (region F j) ≡ false
      none = none_at (λ i. crossing (region F i) (region F j)) j i (none_at (λ j. some_below j (λ i. crossing (region F i) (region F j))) (region_count F) j h lj) l

  pub clear_if_nested : NestedBelow F (region_count F) → cause9 F ≡ false
  unfolding cause9
  clear_if_nested h =
      none_below (λ j. some_below j (λ i. crossing (region F i) (region F j))) (region_count F)
      (λ j lj. none_below (λ i. crossing (region F i) (region F j)) j (λ i l. later_not_crossing i j l lj (h i j l lj)))

  pub crossing_found : (i k : ℕ) → i < k → k < region_count F → (region F k).first ≤ (region F i).last → (region F i).last < (region F k).last → cause9 F ≡ true
  unfolding cause9
  crossing_found i k l lk a b =
      some_at (λ j. some_below j (λ i. crossing (region F i) (region F j))) (region_count F) k lk
      (some_at (λ i. crossing (region F i) (region F k)) k i l (later_crossing i k l lk a b))

-- The climb for the k-th region has come to the number c: every region before the k-th one that ends at its first leaf
-- or later is the one of that number or around it.
abbrev pub Climbable : Family → ℕ → ℕ → Type 0
Climbable F k c = (c ≤ k) × ((i : ℕ) → i < k → (region F k).first ≤ (region F i).last → (i < c) × ((region F (c - 1)).last ≤ (region F i).last))

module _ (F : Family) (o : Ordered F) (k : ℕ) (lk : k < region_count F) where
  pub climb_starts : NestedBelow F k → Climbable F k k
  climb_starts nested = (
    omega arith,
    λ i l h. (
      l,
      ⊎_elim
          (λ e. rw e (omega arith))
          (λ d. ⊎_elim (λ a. absurd (omega (arith, o.rising (k - 1) k (omega arith) lk))) (λ b. b) (nested i (k - 1) d (omega arith)))
          (eq-or-lt_of_le (last_below i k l)),
    ),
  )

  pub climb_steps :
      (n p : ℕ) → (n ≡ 0 → ⊥) → Climbable F k n → (region F (n - 1)).last < (region F k).first → IsParent F (n - 1) p → Climbable F k p
  climb_steps n p some inv ends parent-n = (
    omega (arith, inv.0, parent-n.earlier),
    λ i l h. let at = inv.1 i l h in parent-n.innermost i (earlier i h at.0) at.1,
  )
    where
      earlier : (i : ℕ) → (region F k).first ≤ (region F i).last → i < n → i < n - 1
      earlier i h l = ⊎_elim (λ e. absurd (omega (arith, rw e at h))) (λ d. d) (eq-or-lt_of_le (last_below i n l))

  pub climb_stops : (n : ℕ) → Climbable F k n → (region F k).first ≤ (region F (n - 1)).last → Climbed F k n
  climb_stops n inv h =
      record {
        earlier = inv.0;
        reaches = λ i e. subst (λ (t : ℕ). (region F k).first ≤ (region F t).last) (omega arith) h;
        innermost = inv.1;
      }

  pub climb_ends : Climbable F k 0 → Climbed F k 0
  climb_ends inv = record { earlier = inv.0; reaches = λ i e. absurd (omega arith); innermost = inv.1 }

  -- The region where the climb stops crosses the k-th one, or is its parent.

  pub climbed_crosses : (c : ℕ) → Climbed F k c → ends_before F c (region F k).last ≡ true → cause9 F ≡ true
  unfolding ends_before
  climbed_crosses zero d h = absurd (clash h refl)
  climbed_crosses (suc j) d h =
      crossing_found F o j k d.earlier lk (d.reaches j refl)
      (subst (λ (t : ℕ). (region F t).last < (region F k).last) (omega arith)
      (ltb-true (region F (suc j - 1)).last (region F k).last (and_r (not (eqb (suc j) 0)) (ltb (region F (suc j - 1)).last (region F k).last) h)))

  -- the region where the climb stops does not end before the k-th one
  last_reaches : (c i : ℕ) → i < c → ends_before F c (region F k).last ≡ false → (region F k).last ≤ (region F (c - 1)).last
  unfolding ends_before
  last_reaches c i l h =
      ⊎_elim
      (λ f. absurd (eqb_zero f))
      (λ f. ltb-false (region F (c - 1)).last (region F k).last f)
      (and_fails (not (eqb c 0)) (ltb (region F (c - 1)).last (region F k).last) h)
    where
      eqb_zero : not (eqb c 0) ≡ false → ⊥
      eqb_zero f = omega (arith, eqb-true c 0 (not-false (eqb c 0) f))

  pub climbed_parent : (c : ℕ) → Climbed F k c → ends_before F c (region F k).last ≡ false → IsParent F k c
  climbed_parent c d h =
      record {
        earlier = d.earlier;
        around = λ j e. subst (λ (t : ℕ). (region F k).last ≤ (region F t).last) (omega arith) (last_reaches c j (omega arith) h);
        innermost = λ i l b. d.innermost i l (omega (arith, o.first_last k lk));
      }

  pub climbed_nested :
      (c : ℕ) → Climbed F k c → ends_before F c (region F k).last ≡ false
      → (i : ℕ) → i < k → ((region F i).last < (region F k).first) ⊎ ((region F k).last ≤ (region F i).last)
  climbed_nested c d h i l =
      ⊎_elim
      (λ t. let at = d.innermost i l (leb-true (region F k).first (region F i).last t) in inr (omega (arith, at.1, last_reaches c i at.0 h)))
      (λ f. inl (leb-false (region F k).first (region F i).last f))
      (test (leb (region F k).first (region F i).last))

-- one more region, with its parent written
pub nested_more :
    (F : Family) (k : ℕ) → NestedBelow F k → ((i : ℕ) → i < k → ((region F i).last < (region F k).first) ⊎ ((region F k).last ≤ (region F i).last))
    → NestedBelow F (k + 1)
nested_more F k old new i j l lj =
    ⊎_elim (λ e. rw e (new i (omega arith))) (λ d. old i j l d) (below_next lj)

pub parents_more :
    (F : Family) (P : List ℕ) (k c : ℕ) → k < length P → ParentsBelow F P k → IsParent F k c → ParentsBelow F (set P k c) (k + 1)
parents_more F P k c room old new i l =
    ⊎_elim
    (λ e. subst (λ (t : ℕ). IsParent F t (get_or (set P k c) t 0)) (sym e) (subst (IsParent F k) (sym (get_or-set_same P k c 0 room)) new))
    (λ d. rw (get_or-set_other P k i c 0 (λ e. omega arith)) (old i d))
    (below_next l)

-- The parent as defined, and the depth.

module _ (F : Family) (o : Ordered F) (nested : NestedBelow F (region_count F)) where
  -- what is around a region is its parent or around its parent
  around_parent :
      (k j : ℕ) → k < region_count F → IsParent F k (suc j) → (i : ℕ) → i < region_count F → (i ≡ j → ⊥)
      → region_inside (region F k) (region F i) ≡ region_inside (region F j) (region F i)
  around_parent k j lk p i li apart =
      ⊎_elim
      (λ t.
      let at = inside_later F o k i lk li t in
      let inn = p.innermost i at.0 at.1 in
      t ∙ sym (later_inside F o j i (omega (arith, inn.0)) (omega (arith, p.earlier)) (subst (λ (n : ℕ). (region F n).last ≤ (region F i).last) (omega arith) inn.1)))
      (λ f.
      f
      ∙ sym (refuted (region_inside (region F j) (region F i))
      (λ t.
      let at = inside_later F o j i (omega (arith, p.earlier)) li t in
      clash (later_inside F o k i (omega (arith, at.0, p.earlier)) lk (omega (arith, at.1, p.around j refl))) f)))
      (test (region_inside (region F k) (region F i)))

  -- what is around a region comes before it, so nothing is around a region without a parent
  none_around : (k : ℕ) → k < region_count F → IsParent F k 0 → (i : ℕ) → i < region_count F → region_inside (region F k) (region F i) ≡ false
  none_around k lk p i li =
      refuted (region_inside (region F k) (region F i))
      (λ t. let at = inside_later F o k i lk li t in omega (arith, (p.innermost i at.0 at.1).0))

  inside_parent : (k j : ℕ) → k < region_count F → IsParent F k (suc j) → region_inside (region F k) (region F j) ≡ true
  inside_parent k j lk p = later_inside F o k j p.earlier lk (p.around j refl)

  -- the number of regions around a region is one more than that of its parent
  pub depth_outermost : (k : ℕ) → k < region_count F → IsParent F k 0 → regions_around F k ≡ 0
  depth_outermost k lk p = count_below_none (λ i. region_inside (region F k) (region F i)) (region_count F) (none_around k lk p)

  pub depth_inner : (k j : ℕ) → k < region_count F → IsParent F k (suc j) → regions_around F k ≡ suc (regions_around F j)
  depth_inner k j lk p =
      count_one_more (λ i. region_inside (region F k) (region F i)) (λ i. region_inside (region F j) (region F i)) (region_count F) j
      (omega (arith, p.earlier)) (inside_parent k j lk p)
      (refuted (region_inside (region F j) (region F j)) (λ t. omega (arith, (inside_later F o j j (omega (arith, p.earlier)) (omega (arith, p.earlier)) t).0)))
      (around_parent k j lk p)

  -- the parent that the climb finds is the parent as defined
  pub parent_is : (k c : ℕ) → k < region_count F → IsParent F k c → parent F k ≡ c
  unfolding parent region_just_inside
  parent_is k zero lk p =
      first_none (λ q. region_just_inside F (region F k) (region F q)) (region_count F)
      (none_below (λ q. region_just_inside F (region F k) (region F q)) (region_count F)
      (λ q lq. refuted _ (λ t. clash (and_l (region_inside (region F k) (region F q)) _ t) (none_around k lk p q lq))))
  parent_is k (suc j) lk p =
      first_at_lem (λ q. region_just_inside F (region F k) (region F q)) (region_count F) j (omega (arith, p.earlier))
      (and_both (region_inside (region F k) (region F j)) _ (inside_parent k j lk p)
      (not_passes _
      (none_below (λ t. region_inside (region F k) (region F t) && region_inside (region F t) (region F j)) (region_count F)
      (λ t lt.
      refuted _
      (λ b.
      let out = inside_later F o k t lk lt (and_l (region_inside (region F k) (region F t)) (region_inside (region F t) (region F j)) b) in
      let inn = inside_later F o t j lt (omega (arith, p.earlier)) (and_r (region_inside (region F k) (region F t)) (region_inside (region F t) (region F j)) b) in
      omega (arith, (p.innermost t out.0 out.1).0, inn.0))))))
      (λ i l.
      refuted _
      (λ b.
      let li : i < region_count F = omega (arith, p.earlier) in
      let lj : j < region_count F = omega (arith, p.earlier) in
      let out = inside_later F o k i lk li (and_l (region_inside (region F k) (region F i)) _ b) in
      let inn = p.innermost i out.0 out.1 in
      clash
      (and_both (region_inside (region F k) (region F j)) (region_inside (region F j) (region F i)) (inside_parent k j lk p)
      (later_inside F o j i l lj (subst (λ (n : ℕ). (region F n).last ≤ (region F i).last) (omega arith) inn.1)))
      (none_at (λ t. region_inside (region F k) (region F t) && region_inside (region F t) (region F i)) (region_count F) j
      (not-true _ (and_r (region_inside (region F k) (region F i)) _ b)) lj)))

-- The depths that are counted along the parents are right for the first k regions, and none is over 63.
pub record Counted (F : Family) (D : List ℕ) (k : ℕ) : Type 0 where
  pub depth : (i : ℕ) → i < k → get_or D i 0 ≡ regions_around F i
  pub shallow : (i : ℕ) → i < k → regions_around F i ≤ 63

module _ (F : Family) (o : Ordered F) (nested : NestedBelow F (region_count F)) (D : List ℕ) (k : ℕ) (lk : k < region_count F) (counted : Counted F D k) where
  pub counts_one_deeper : (c : ℕ) → IsParent F k c → one_deeper D c ≡ regions_around F k
  unfolding one_deeper
  counts_one_deeper zero p = sym (depth_outermost F o nested k lk p)
  counts_one_deeper (suc j) p =
      rw (ne_eqb (suc j) 0 (λ e. omega arith))
      (ap suc (ap (λ (n : ℕ). get_or D n 0) (omega arith) ∙ counted.depth j p.earlier) ∙ sym (depth_inner F o nested k j lk p))

  pub counted_more : (d : ℕ) → k < length D → d ≡ regions_around F k → d ≤ 63 → Counted F (set D k d) (k + 1)
  counted_more d room e most =
      record {
        depth = set_more (regions_around F) D k d room counted.depth e;
        shallow = λ i l. ⊎_elim (λ q. rw q (omega arith)) (λ b. counted.shallow i b) (below_next l);
      }

pub too_deep : (F : Family) (k : ℕ) → k < region_count F → 63 < regions_around F k → cause10 F ≡ true
unfolding cause10
too_deep F k l h = some_at (λ k. ltb 63 (regions_around F k)) (region_count F) k l (lt-ltb 63 (regions_around F k) h)

pub not_too_deep : (F : Family) → ((k : ℕ) → k < region_count F → regions_around F k ≤ 63) → cause10 F ≡ false
unfolding cause10
not_too_deep F h = none_below (λ k. ltb 63 (regions_around F k)) (region_count F) (λ k l. le-ltb 63 (regions_around F k) (h k l))

pub shallow_if_clear : (F : Family) → cause10 F ≡ false → (k : ℕ) → k < region_count F → regions_around F k ≤ 63
unfolding cause10
shallow_if_clear F h k l = ltb-false 63 (regions_around F k) (none_at (λ k. ltb 63 (regions_around F k)) (region_count F) k h l)

-- The list of parents as the climb writes it.
pub parents_written :
    (F : Family) → Ordered F → NestedBelow F (region_count F) → (P : List ℕ) → ParentsBelow F P (region_count F) → region_count F ≤ length P
    → take (region_count F) P ≡ parents F
unfolding parents
parents_written F o nested P known room =
    ext_get_or 0 (take (region_count F) P) (tabulate (region_count F) (parent F))
    (length-take-le (region_count F) P room ∙ sym (length_tabulate (region_count F) (parent F)))
    (λ k l.
    let lk : k < region_count F = omega (arith, length-take-le (region_count F) P room) in
    get_or-take (region_count F) P k 0 lk
    ∙ sym (get_d_tabulate (region_count F) (parent F) 0 k lk ∙ parent_is F o nested k (get_or P k 0) lk (known k lk)))
