-- Two lists with the same regions, each as often in the one as in the other: what rests on the regions alone, and not on where they stand.
--   count_those                             the number of places where a test passes is that of the elements that pass
--   SameRegions                             as many of the one list pass any test as of the other
--   same_refl, same_back                    it holds for a list and itself, and the other way round
--   same_count                              the two lists have the same length
--   same_in                                 and the same members
--   members                                 what holds for the region of every number holds for every member
--   at_member                               the region of every number is a member
--   AllOn                                   all regions of the list lie on the leaves 1 to n
--   placed_members, from_placed             so it is where cause 7 does not hold, and back
--   crossing_swap                           of two regions that cross either may come first
--   apart_members, from_apart               no two members cross where cause 9 does not hold, and back
--   level_is                                the level as one more than the length of a list
--   level_some                              it is at least 1
--   level_around                            that of the k-th region is one more than the number of regions around it
--   levels_most, from_levels                every level is at most 64 where cause 10 does not hold, and back
--   level_same                              families with the same regions give a region the same level
--   cause7_same                             and have the same cause 7, if they have as many leaves
--   cause9_same, cause10_same               the same causes 9 and 10
--   in_order                                 a list of regions on n leaves in file order
--   order_in, order_same                    its members are those of the list, and it has the same regions
--   file_order_same, file_order_count       a family in file order has the same regions, and so as many
--   by_level_same, by_level_count           and so has a family by level, if no level is over 64
use Prim.Native.Nat.{ℕ, zero, suc, ◌+◌, ◌-◌, ◌<◌, ◌≤◌}
use native.Mathlib.Nat.{eq-or-lt_of_le}
use native.Mathlib.Omega.{arith}
use mathlib.Core.Bool.{Bool, true, false, not, ◌&&◌}
use mathlib.Core.List.{List, [], ◌∷◌}
use mathlib.Core.Logic.{⊎_elim}
use mathlib.Core.Path.{◌≡◌, refl, sym, ap, subst, ◌∙◌}
use lib.Dec.{leb, eqb}
use lib.ListN.{length, get_or}
use borrow.Author.Tests.{eqb-true, eq-eqb}
use Rattle.reader.specs.Lists.{In, those, count_below, some_below}
use Rattle.reader.specs.Family.{Region, Family, leaves, region_count, no_region, region}
use Rattle.reader.specs.Nesting.{share_leaf, region_within, crossing, region_inside, regions_around}
use Rattle.reader.specs.Causes.{cause7, cause9, cause10}
use Rattle.reader.proofs.Bools.{and_l, and_r, and_both, and_swap, not_fails}
use Rattle.reader.proofs.Below.{none_at, none_below}
use Rattle.reader.proofs.Members.{bit, in_at, in_those, those_in, le_or_lt}
use Rattle.reader.proofs.Judged.{OnLeaves, regions_placed, from_regions_placed}
use Rattle.reader.proofs.Climbing.{from_within, shallow_if_clear, not_too_deep}
use Rattle.sorting.specs.ByKey.{by_key}
use Rattle.sorting.proofs.Those.{those_first, those_all}
use Rattle.sorting.proofs.Chains.{all_from}
use Rattle.sorting.proofs.ByKey.{by_key_in, by_key_passing}
use Rattle.levels.specs.Levels.{level_of, by_level, in_file_order}

-- Places and elements.

count_first : (n : ℕ) (p : ℕ → Bool) → count_below (suc n) p ≡ bit (p 0) + count_below n (λ i. p (suc i))
unfolding count_below
count_first zero p = omega arith
count_first (suc n) p = omega (arith, count_first n p)

pub count_those : {A : Type 0} (t : A → Bool) (d : A) (L : List A) → count_below (length L) (λ i. t (get_or L i d)) ≡ length (those t L)
unfolding count_below those
count_those t d [] = refl
count_those t d (x ∷ L) =
    omega (arith, count_first (length L) (λ i. t (get_or (x ∷ L) i d)), those_first t x L, count_those t d L)

-- Lists with the same regions.

abbrev pub SameRegions : List Region → List Region → Type 0
SameRegions L M = (t : Region → Bool) → length (those t L) ≡ length (those t M)

-- the test for one region
is_region : Region → Region → Bool
is_region r q = eqb r.first q.first && eqb r.last q.last && eqb r.z q.z

region_of_lem : (a b c d e f : ℕ) → a ≡ d → b ≡ e → c ≡ f
    → ◌≡◌ {A = Region} (record { first = a; last = b; z = c }) (record { first = d; last = e; z = f })
region_of_lem a b c d e f p q s = rw (p, q, s)

is_region_lem : (r q : Region) → is_region r q ≡ true → r ≡ q
unfolding is_region
is_region_lem r q h =
    let a : Bool = eqb r.first q.first in
    let b : Bool = eqb r.last q.last in
    let c : Bool = eqb r.z q.z in
    let ab : (a && b) ≡ true = and_l (a && b) c h in
    region_of_lem r.first r.last r.z q.first q.last q.z
    (eqb-true r.first q.first (and_l a b ab)) (eqb-true r.last q.last (and_r a b ab)) (eqb-true r.z q.z (and_r (a && b) c h))

is_itself : (r : Region) → is_region r r ≡ true
unfolding is_region
is_itself r =
    and_both (eqb r.first r.first && eqb r.last r.last) (eqb r.z r.z)
    (and_both (eqb r.first r.first) (eqb r.last r.last) (eq-eqb r.first r.first refl) (eq-eqb r.last r.last refl))
    (eq-eqb r.z r.z refl)

member_some : {A : Type 0} (x : A) (L : List A) → In x L → 0 < length L
member_some {A = A} x [] i = elim i [ ]
member_some x (y ∷ L) i = omega arith

pub same_refl : (L : List Region) → SameRegions L L
same_refl L t = refl

module _ (L M : List Region) where
  pub same_back : SameRegions L M → SameRegions M L
  same_back s t = sym (s t)

  pub same_count : SameRegions L M → length L ≡ length M
  same_count s =
      ap length (sym (those_all (λ r. true) L (λ r i. refl))) ∙ s (λ r. true) ∙ ap length (those_all (λ r. true) M (λ r i. refl))

  pub same_in : SameRegions L M → (r : Region) → In r L → In r M
  same_in s r i =
      let t : Region → Bool = is_region r in
      let some : 0 < length (those t M) = omega (arith, s t, member_some r (those t L) (in_those t L r i (is_itself r))) in
      let q : Region = get_or (those t M) 0 no_region in
      let f = those_in t M q (in_at no_region (those t M) 0 some) in
      subst (λ (p : Region). In p M) (sym (is_region_lem r q f.1)) f.0

-- Members and numbers.

module _ (F : Family) where
  pub members : (P : Region → Type 0) → ((k : ℕ) → k < region_count F → P (region F k)) → (r : Region) → In r F.regions → P r
  unfolding region
  members P h = all_from P no_region F.regions h

  pub at_member : (k : ℕ) → k < region_count F → In (region F k) F.regions
  unfolding region
  at_member k l = in_at no_region F.regions k l

abbrev pub AllOn : ℕ → List Region → Type 0
AllOn n L = (r : Region) → In r L → OnLeaves n r

module _ (F : Family) where
  pub placed_members : cause7 F ≡ false → AllOn (leaves F) F.regions
  placed_members h = members F (OnLeaves (leaves F)) (regions_placed F h)

  pub from_placed : AllOn (leaves F) F.regions → cause7 F ≡ false
  from_placed h = from_regions_placed F (λ k l. h (region F k) (at_member F k l))

-- Crossing.

swap_tests : (s a b : Bool) → s && a && b ≡ s && b && a
swap_tests true a b = and_swap a b
swap_tests false a b = refl

fails_after : (s b : Bool) → s && false && b ≡ false
fails_after true b = refl
fails_after false b = refl

pub crossing_swap : (r q : Region) → crossing r q ≡ crossing q r
unfolding crossing share_leaf
crossing_swap r q =
    rw (and_swap (leb r.first q.last) (leb q.first r.last))
    (swap_tests (leb q.first r.last && leb r.first q.last) (not (region_within r q)) (not (region_within q r)))

crossing_itself : (r : Region) → crossing r r ≡ false
unfolding crossing
crossing_itself r =
    rw (not_fails (region_within r r) (from_within r r (record { left = omega arith; right = omega arith })))
    (fails_after (share_leaf r r) false)

module _ (F : Family) where
  later_apart : cause9 F ≡ false → (i j : ℕ) → i < j → j < region_count F → crossing (region F i) (region F j) ≡ false
  unfolding cause9
  later_apart h i j l lj =
      none_at (λ i. crossing (region F i) (region F j)) j i (none_at (λ j. some_below j (λ i. crossing (region F i) (region F j))) (region_count F) j h lj) l

  both_apart : cause9 F ≡ false → (i j : ℕ) → i < region_count F → j < region_count F → crossing (region F i) (region F j) ≡ false
  both_apart h i j li lj =
      ⊎_elim
      (λ (le : i ≤ j).
      ⊎_elim
      (λ (e : i ≡ j). rw e (crossing_itself (region F j)))
      (λ (l : i < j). later_apart h i j l lj)
      (eq-or-lt_of_le le))
      (λ (l : j < i). crossing_swap (region F i) (region F j) ∙ later_apart h j i l li)
      (le_or_lt i j)

  pub apart_members : cause9 F ≡ false → (r q : Region) → In r F.regions → In q F.regions → crossing r q ≡ false
  apart_members h r q i j =
      members F (λ r. crossing r q ≡ false) (λ a la. members F (λ q. crossing (region F a) q ≡ false) (λ b lb. both_apart h a b la lb) q j) r i

  pub from_apart : ((r q : Region) → In r F.regions → In q F.regions → crossing r q ≡ false) → cause9 F ≡ false
  unfolding cause9
  from_apart h =
      none_below (λ j. some_below j (λ i. crossing (region F i) (region F j))) (region_count F)
      (λ j lj.
      none_below (λ i. crossing (region F i) (region F j)) j
      (λ i l. h (region F i) (region F j) (at_member F i (omega arith)) (at_member F j lj)))

-- Levels.

module _ (F : Family) where
  pub level_is : (r : Region) → level_of F r ≡ suc (length (those (region_inside r) F.regions))
  unfolding level_of region
  level_is r = ap suc (count_those (region_inside r) no_region F.regions)

  pub level_some : (r : Region) → 1 ≤ level_of F r
  level_some r = omega (arith, level_is r)

  pub level_around : (k : ℕ) → level_of F (region F k) ≡ suc (regions_around F k)
  unfolding level_of
  level_around k = refl

  pub levels_most : cause10 F ≡ false → (r : Region) → In r F.regions → level_of F r ≤ 64
  levels_most h = members F (λ r. level_of F r ≤ 64) (λ k l. omega (arith, level_around k, shallow_if_clear F h k l))

  pub from_levels : ((r : Region) → In r F.regions → level_of F r ≤ 64) → cause10 F ≡ false
  from_levels h = not_too_deep F (λ k l. omega (arith, level_around k, h (region F k) (at_member F k l)))

fail_alike : (a b : Bool) → (a ≡ false → b ≡ false) → (b ≡ false → a ≡ false) → a ≡ b
fail_alike true true f g = refl
fail_alike true false f g = g refl
fail_alike false b f g = sym (f refl)

module _ (F G : Family) (s : SameRegions F.regions G.regions) where
  pub level_same : (r : Region) → level_of F r ≡ level_of G r
  level_same r = level_is F r ∙ ap suc (s (region_inside r)) ∙ sym (level_is G r)

  there : (r : Region) → In r F.regions → In r G.regions
  there = same_in F.regions G.regions s

  back : (r : Region) → In r G.regions → In r F.regions
  back = same_in G.regions F.regions (same_back F.regions G.regions s)

  pub cause7_same : leaves F ≡ leaves G → cause7 F ≡ cause7 G
  cause7_same e =
      fail_alike (cause7 F) (cause7 G)
      (λ h. from_placed G (λ r i. subst (λ (n : ℕ). OnLeaves n r) e (placed_members F h r (back r i))))
      (λ h. from_placed F (λ r i. subst (λ (n : ℕ). OnLeaves n r) (sym e) (placed_members G h r (there r i))))

  pub cause9_same : cause9 F ≡ cause9 G
  cause9_same =
      fail_alike (cause9 F) (cause9 G)
      (λ h. from_apart G (λ r q i j. apart_members F h r q (back r i) (back q j)))
      (λ h. from_apart F (λ r q i j. apart_members G h r q (there r i) (there q j)))

  pub cause10_same : cause10 F ≡ cause10 G
  cause10_same =
      fail_alike (cause10 F) (cause10 G)
      (λ h. from_levels G (λ r i. omega (arith, level_same r, levels_most F h r (back r i))))
      (λ h. from_levels F (λ r i. omega (arith, level_same r, levels_most G h r (there r i))))

-- File order.

abbrev pub in_order : ℕ → List Region → List Region
in_order n L = by_key (suc n) (λ r. r.first) (by_key n (λ r. n - r.last) L)

module _ (n : ℕ) (L : List Region) where
  -- by the last leaf alone
  abbrev by_last : List Region
  by_last = by_key n (λ (r : Region). n - r.last) L

  last_in_lem : (r : Region) → In r by_last → In r L
  last_in_lem r i = (by_key_in (λ (r : Region). n - r.last) L n r i).0

  pub order_in : (r : Region) → In r (in_order n L) → In r L
  order_in r i = last_in_lem r (by_key_in (λ (r : Region). r.first) by_last (suc n) r i).0

  pub order_same : AllOn n L → SameRegions (in_order n L) L
  order_same on t =
      by_key_passing (λ (r : Region). r.first) by_last (suc n) (λ r i. let o = on r (last_in_lem r i) in omega arith) t
      ∙ by_key_passing (λ (r : Region). n - r.last) L n (λ r i. let o = on r i in omega arith) t

module _ (F : Family) where
  pub file_order_same : cause7 F ≡ false → SameRegions (in_file_order F).regions F.regions
  unfolding in_file_order
  file_order_same h = order_same (leaves F) F.regions (placed_members F h)

  pub file_order_count : cause7 F ≡ false → region_count (in_file_order F) ≡ region_count F
  file_order_count h = same_count (in_file_order F).regions F.regions (file_order_same h)

  -- By level.

  pub by_level_same : ((r : Region) → In r F.regions → level_of F r ≤ 64) → SameRegions (by_level F).regions F.regions
  unfolding by_level
  by_level_same h = by_key_passing (level_of F) F.regions 65 (λ r i. omega (arith, h r i))

  pub by_level_count : ((r : Region) → In r F.regions → level_of F r ≤ 64) → region_count (by_level F) ≡ region_count F
  by_level_count h = same_count (by_level F).regions F.regions (by_level_same h)
