-- A family by level and in file order again, and the other way round.
--   Inside                       a region is strictly inside another
--   inside_facts, inside_holds   the test `region_inside` as a fact, and back
--   level_by_leaves              the level of a region rests on its leaves
--   level_inside                 the level rises from a region to one inside it
--   order_again                  a list of regions by any key, then in file order, is the list in file order
--   of_level                      the regions of a level, as they stand in the family
--   level_count                  the level counts, one by one
--   counted_levels               there are 64 of them
--   level_starts                 the regions of the levels 1 to h come first, as many as the level counts say
--   level_total_lem                  the level counts add to the number of regions
--   in_level_lem                     what stands at a place of a level
--   LeveledWell                  what a family by level has: no cause holds, and in file order it is the family
--   leveled_well                 so it is for every well-formed family
--   Stretch, stretch             the level and the place in it of each region that the level counts have
--   LeveledAt, leveled_at        the level and the place in it, where cause 27 does not hold
--   none_repeated                where 27 does not hold, no region repeats
--   counts_add                   where 26 does not hold, the counts add to K
--   AcceptedListing              a family with level counts for which no cause holds
--   ListedWell                   in file order it is well formed, and by level again it is as it was
--   listed_well                  so it is
use Prim.Native.Nat.{ℕ, zero, suc, ◌+◌, ◌*◌, ◌-◌, ◌<◌, ◌≤◌}
use native.Mathlib.Nat.{eq-or-lt_of_le}
use native.Mathlib.Omega.{arith}
use mathlib.Core.Bool.{Bool, true, false, not, cond, ◌&&◌}
use mathlib.Core.List.{List, [], ◌∷◌}
use mathlib.Core.Logic.{◌⊎◌, inl, inr, ⊎_elim}
use mathlib.Core.Path.{◌≡◌, refl, sym, ap, subst, ◌∙◌}
use lib.Dec.{ltb, eqb}
use lib.ListN.{length, get_or, take}
use lib.Seq.{take_all, ext_get_or}
use borrow.Author.Tests.{ltb-true, lt-ltb, le-ltb, eqb-true, eq-eqb, ne_eqb, not-true, not-false}
use Rattle.reader.specs.Lists.{In, those, sum, tabulate, some_below, count_below}
use Rattle.reader.specs.Family.{Region, Family, leaves, region_count, no_region, region}
use Rattle.reader.specs.Nesting.{region_within, region_inside}
use Rattle.reader.specs.Causes.{cause6, cause7, cause9, cause10}
use Rattle.reader.specs.WellFormed.{Ordered, WellFormed}
use Rattle.reader.proofs.Bools.{test, clash, refuted, and_l, and_r, and_both, or_neither, or_fails_l, or_fails_r, not_fails, not_passes}
use Rattle.reader.proofs.Lists.{length_tabulate, get_d_tabulate, sum_take_suc, sum_take}
use Rattle.reader.proofs.Below.{none_at, none_below, count_below_none}
use Rattle.reader.proofs.Members.{le_or_lt, in_at, those_in, those_same}
use Rattle.reader.proofs.Judged.{Before, lengths_clear, from_lengths_clear}
use Rattle.reader.proofs.Climbing.{Within, is_within, from_within, not_within, nested_if_clear, clear_if_nested, shallow_if_clear, not_too_deep}
use Rattle.sorting.specs.ByKey.{by_key}
use Rattle.sorting.proofs.Those.{those_none, those_more}
use Rattle.sorting.proofs.Chains.{Chain, chain_those, chain_same, chain_at, chain_next}
use Rattle.sorting.proofs.ByKey.{those_by_key, by_key_suc, by_key_cells, by_key_same, by_key_length, rising_stays, by_key_at}
use Rattle.levels.specs.Levels.{level_of, with_regions, by_level, level_counts, in_file_order, same_range, distinct}
use Rattle.levels.specs.Causes.{cause26, in_level, misleveled, repeated, cause27}
use Rattle.levels.proofs.Theory.Rearranged.{count_those, SameRegions, same_in, AllOn, members, at_member, placed_members, level_is, level_some, level_around, level_same, levels_most, cause7_same, cause9_same, cause10_same, in_order, file_order_same, file_order_count, by_level_same, by_level_count}
use Rattle.levels.proofs.Theory.Distinct.{same_range_facts, same_range_holds, Apart, ByLeaves, repeats_by_key, repeats_none, repeats_apart, distinct_all, no_repeats_if_apart}
use Rattle.levels.proofs.Theory.FileOrder.{order_stays, ordered_on, ordered_chain, ordered_apart, ordered_placed, file_order_ordered}

-- Regions inside others.

pub record Inside (r q : Region) : Type 0 where
  pub within : Within r q
  pub strictly : Within q r → ⊥

module _ (r q : Region) where
  pub inside_facts : region_inside r q ≡ true → Inside r q
  unfolding region_inside
  inside_facts h =
      record {
        within = is_within r q (and_l (region_within r q) (not (region_within q r)) h);
        strictly = λ w. clash (from_within q r w) (not-true (region_within q r) (and_r (region_within r q) (not (region_within q r)) h));
      }

  pub inside_holds : Inside r q → region_inside r q ≡ true
  unfolding region_inside
  inside_holds i =
      and_both (region_within r q) (not (region_within q r)) (from_within r q i.within) (not_passes (region_within q r) (not_within q r i.strictly))

  inside_same : same_range r q ≡ true → (p : Region) → region_inside r p ≡ region_inside q p
  unfolding region_inside region_within
  inside_same h p = let s = same_range_facts r q h in rw (s.first, s.last)

inside_through : (q r p : Region) → region_inside q r ≡ true → region_inside r p ≡ true → region_inside q p ≡ true
inside_through q r p a b =
    let i = inside_facts q r a in
    let j = inside_facts r p b in
    inside_holds q p
    (record {
      within = record { left = omega arith; right = omega arith };
      strictly = λ w. j.strictly (record { left = omega arith; right = omega arith });
    })

not_inside_itself : (r : Region) → region_inside r r ≡ false
not_inside_itself r = refuted (region_inside r r) (λ t. let i = inside_facts r r t in i.strictly i.within)

module _ (F : Family) where
  pub level_by_leaves : ByLeaves (level_of F)
  level_by_leaves r q s =
      level_is F r
      ∙ ap (λ (L : List Region). suc (length L)) (those_same (region_inside r) (region_inside q) F.regions (λ p i. inside_same r q s p))
      ∙ sym (level_is F q)

  pub level_inside : (r q : Region) → In r F.regions → region_inside q r ≡ true → level_of F r < level_of F q
  level_inside r q i h =
      omega (
        arith,
        level_is F r,
        level_is F q,
        those_more (region_inside r) (region_inside q) F.regions r (λ p j t. inside_through q r p h t) i (not_inside_itself r) h,
      )

-- In file order again.

module _ (n : ℕ) (L : List Region) (on : AllOn n L) (apart : Apart L) (key : Region → ℕ) (m : ℕ) (few : (r : Region) → In r L → key r < m) where
  -- the regions with one first and one last leaf are at most one
  cell_again :
      (v w : ℕ)
      → those (λ r. eqb (n - r.last) w) (those (λ r. eqb r.first v) (by_key m key L)) ≡ those (λ r. eqb (n - r.last) w) (those (λ r. eqb r.first v) L)
  cell_again v w =
      let t : Region → Bool = λ r. eqb r.first v in
      let u : Region → Bool = λ r. eqb (n - r.last) w in
      let M : List Region = those u (those t L) in
      let facts : (r : Region) → In r M → In r L × (r.first ≡ v) × (n - r.last ≡ w) =
      λ r i.
      let a = those_in u (those t L) r i in
      let b = those_in t L r a.0 in
      (b.0, eqb-true r.first v b.1, eqb-true (n - r.last) w a.1) in
      ap (those u) (those_by_key key L t m) ∙ those_by_key key (those t L) u m
      ∙ rising_stays key M
      (chain_same (λ r q. same_range r q ≡ false) (λ r q. key r ≤ key q) M
      (λ r q i j f.
      let a = facts r i in
      let b = facts q j in
      let c = on r a.0 in
      let d = on q b.0 in
      absurd (clash (same_range_holds r q (record { first = omega arith; last = omega arith })) f))
      (chain_those (λ r q. same_range r q ≡ false) u (those t L) (chain_those (λ r q. same_range r q ≡ false) t L apart)))
      m
      (λ r i. few r (facts r i).0)

  pub order_again : in_order n (by_key m key L) ≡ in_order n L
  order_again =
      let first : Region → ℕ = λ r. r.first in
      let last : Region → ℕ = λ r. n - r.last in
      by_key_cells first (by_key n last (by_key m key L)) (by_key n last L) (suc n)
      (λ v l.
      let t : Region → Bool = λ r. eqb r.first v in
      those_by_key last (by_key m key L) t n
      ∙ by_key_cells last (those t (by_key m key L)) (those t L) n (λ w k. cell_again v w)
      ∙ sym (those_by_key last L t n))

-- The level counts.

module _ (F : Family) where
  abbrev pub of_level : ℕ → List Region
  of_level h = those (λ r. eqb (level_of F r) h) F.regions

  pub level_count : (h : ℕ) → h < 64 → get_or (level_counts F) h 0 ≡ length (of_level (suc h))
  unfolding level_counts
  level_count h l = get_d_tabulate 64 (λ h. length (of_level (suc h))) 0 h l

  pub counted_levels : length (level_counts F) ≡ 64
  unfolding level_counts
  counted_levels = length_tabulate 64 (λ h. length (of_level (suc h)))

  no_level_zero : length (by_key 1 (level_of F) F.regions) ≡ 0
  unfolding by_key
  no_level_zero =
      ap length (those_none (λ r. eqb (level_of F r) 0) F.regions (λ r i. ne_eqb (level_of F r) 0 (λ e. omega (arith, level_some F r))))

  pub level_starts : (h : ℕ) → h ≤ 64 → sum (take h (level_counts F)) ≡ length (by_key (suc h) (level_of F) F.regions)
  unfolding sum
  level_starts zero l = sym no_level_zero
  level_starts (suc h) l =
      omega (
        arith,
        sum_take_suc (level_counts F) h,
        level_count h (omega arith),
        level_starts h (omega arith),
        by_key_suc (level_of F) F.regions (suc h),
      )

  pub level_total_lem : ((r : Region) → In r F.regions → level_of F r ≤ 64) → sum (level_counts F) ≡ region_count F
  level_total_lem h =
      ap sum (sym (take_all 64 (level_counts F) (omega (arith, counted_levels))))
      ∙ level_starts 64 (omega arith)
      ∙ by_key_length (level_of F) F.regions 65 (λ r i. omega (arith, h r i))

  pub in_level_lem : (h i : ℕ) → h < 64 → i < get_or (level_counts F) h 0 → in_level (level_counts F) (by_level F) h i ≡ get_or (of_level (suc h)) i no_region
  unfolding in_level region by_level
  in_level_lem h i l li =
      rw (level_starts h (omega arith))
      (by_key_at (level_of F) no_region F.regions 65 (suc h) i (omega arith) (omega (arith, level_count h l)))

-- A well-formed family by level.

pub record LeveledWell (F : Family) : Type 0 where
  pub back : in_file_order (by_level F) ≡ F
  pub single : repeated (by_level F) ≡ false
  pub no6 : cause6 (by_level F) ≡ false
  pub no7 : cause7 (by_level F) ≡ false
  pub no9 : cause9 (distinct (by_level F)) ≡ false
  pub no10 : cause10 (distinct (by_level F)) ≡ false
  pub no26 : cause26 (level_counts F) (region_count (by_level F)) ≡ false
  pub no27 : cause27 (level_counts F) (by_level F) ≡ false
  pub same_peptides : (by_level F).peptides ≡ F.peptides
  pub same_lengths : (by_level F).lengths ≡ F.lengths
  pub same_regions : SameRegions (by_level F).regions F.regions
  pub same_regions_count : region_count (by_level F) ≡ region_count F
  pub level_least : (k : ℕ) → k < region_count F → 1 ≤ level_of F (region F k)
  pub level_most : (k : ℕ) → k < region_count F → level_of F (region F k) ≤ 64
  pub counts_sum : sum (level_counts F) ≡ region_count F
  pub counts_all : length (level_counts F) ≡ 64

module _ (F : Family) (w : WellFormed F) where
  shallow_levels : (r : Region) → In r F.regions → level_of F r ≤ 64
  shallow_levels = members F (λ r. level_of F r ≤ 64) (λ k l. omega (arith, level_around F k, w.shallow k l))

  same_leveled : SameRegions (by_level F).regions F.regions
  same_leveled = by_level_same F shallow_levels

  back_leveled : in_file_order (by_level F) ≡ F
  unfolding in_file_order by_level
  back_leveled =
      let on = ordered_on F w.ordered in
      ap (with_regions F)
      (order_again (leaves F) F.regions on (ordered_apart F w.ordered) (level_of F) 65 (λ r i. omega (arith, shallow_levels r i))
      ∙ order_stays (leaves F) F.regions on (ordered_chain F w.ordered))

  single_leveled : repeated (by_level F) ≡ false
  unfolding by_level
  single_leveled =
      no_repeats_if_apart (by_level F)
      (subst Apart
      (repeats_by_key (level_of F) (level_by_leaves F) 65 F.regions
      ∙ ap (by_key 65 (level_of F)) (repeats_none F.regions (ordered_apart F w.ordered)))
      (repeats_apart (by_key 65 (level_of F) F.regions)))

  lengths_leveled : cause6 (by_level F) ≡ false
  unfolding by_level
  lengths_leveled = from_lengths_clear (by_level F) w.lengths_sum

  -- two regions of a level, one before the other in file order: its first leaf comes before
  first_rises : (h : ℕ) (r q : Region) → In r (of_level F h) → In q (of_level F h) → Before r q → r.first < q.first
  first_rises h r q i j b =
      let t : Region → Bool = λ p. eqb (level_of F p) h in
      let a = those_in t F.regions r i in
      let c = those_in t F.regions q j in
      ⊎_elim
      (λ l. l)
      (λ (e : (r.first ≡ q.first) × (q.last < r.last)).
      absurd
      (omega (
        arith,
        eqb-true (level_of F r) h a.1,
        eqb-true (level_of F q) h c.1,
        level_inside F r q a.0
            (inside_holds q r (record { within = record { left = omega arith; right = omega arith }; strictly = λ s. omega arith })),
      )))
      b

  placed_leveled : (h i : ℕ) → h < 64 → i < get_or (level_counts F) h 0 → misleveled (level_counts F) (by_level F) h i ≡ false
  unfolding misleveled
  placed_leveled h i l li =
      let t : Region → Bool = λ r. eqb (level_of F r) (suc h) in
      let M : List Region = of_level F (suc h) in
      let counted = level_count F h l in
      let at : (j : ℕ) → j < length M → In (get_or M j no_region) M = in_at no_region M in
      let level : level_of (by_level F) (in_level (level_counts F) (by_level F) h i) ≡ suc h =
      level_same (by_level F) F same_leveled (in_level (level_counts F) (by_level F) h i)
      ∙ ap (level_of F) (in_level_lem F h i l li)
      ∙ eqb-true (level_of F (get_or M i no_region)) (suc h) (those_in t F.regions (get_or M i no_region) (at i (omega arith))).1 in
      or_neither (not (eqb (level_of (by_level F) (in_level (level_counts F) (by_level F) h i)) (suc h))) _
      (not_fails (eqb (level_of (by_level F) (in_level (level_counts F) (by_level F) h i)) (suc h)) (eq-eqb _ (suc h) level))
      (⊎_elim
      (λ (e : ltb 0 i ≡ true).
      let some = ltb-true 0 i e in
      rw (e, in_level_lem F h i l li, in_level_lem F h (i - 1) l (omega arith))
      (not_fails (ltb (get_or M (i - 1) no_region).first (get_or M i no_region).first)
      (lt-ltb (get_or M (i - 1) no_region).first (get_or M i no_region).first
      (first_rises (suc h) (get_or M (i - 1) no_region) (get_or M i no_region) (at (i - 1) (omega arith)) (at i (omega arith))
      (chain_at Before no_region M (chain_those Before t F.regions (ordered_chain F w.ordered)) (i - 1) i (omega arith) (omega arith))))))
      (λ (e : ltb 0 i ≡ false). rw e)
      (test (ltb 0 i)))

  pub leveled_well : LeveledWell F
  unfolding cause26 cause27 by_level
  leveled_well =
      let single = single_leveled in
      let total = level_total_lem F shallow_levels in
      let count = by_level_count F shallow_levels in
      let counts : List ℕ = level_counts F in
      record {
        back = back_leveled;
        single = single;
        no6 = lengths_leveled;
        no7 = cause7_same (by_level F) F same_leveled refl ∙ ordered_placed F w.ordered;
        no9 = rw (distinct_all (by_level F) single) (cause9_same (by_level F) F same_leveled ∙ clear_if_nested F w.ordered w.nested);
        no10 = rw (distinct_all (by_level F) single) (cause10_same (by_level F) F same_leveled ∙ not_too_deep F w.shallow);
        no26 = not_fails (eqb (sum counts) (region_count (by_level F))) (eq-eqb (sum counts) (region_count (by_level F)) (omega arith));
        no27 =
            or_neither (repeated (by_level F)) (some_below 64 (λ h. some_below (get_or counts h 0) (λ i. misleveled counts (by_level F) h i))) single
            (none_below (λ h. some_below (get_or counts h 0) (λ i. misleveled counts (by_level F) h i)) 64
            (λ h l. none_below (λ i. misleveled counts (by_level F) h i) (get_or counts h 0) (λ i li. placed_leveled h i l li)));
        same_peptides = refl;
        same_lengths = refl;
        same_regions = same_leveled;
        same_regions_count = count;
        level_least = λ k l. level_some F (region F k);
        level_most = λ k l. omega (arith, level_around F k, w.shallow k l);
        counts_sum = total;
        counts_all = counted_levels F;
      }

-- Regions along their level counts.

pub record Stretch (counts : List ℕ) (k : ℕ) : Type 0 where
  pub before : ℕ
  pub place : ℕ
  pub counted : before < length counts
  pub room : place < get_or counts before 0
  pub there : k ≡ sum (take before counts) + place

pub stretch : (counts : List ℕ) (k : ℕ) → k < sum counts → Stretch counts k
unfolding sum
stretch [] k l = absurd (omega arith)
stretch (c ∷ cs) k l =
    ⊎_elim
    (λ (le : c ≤ k).
    let s = stretch cs (k - c) (omega arith) in
    record { before = suc s.before; place = s.place; counted = omega arith; room = s.room; there = omega (arith, s.there) })
    (λ (lt : k < c). record { before = 0; place = k; counted = omega arith; room = lt; there = omega arith })
    (le_or_lt c k)

pub record LeveledAt (counts : List ℕ) (G : Family) (h i : ℕ) : Type 0 where
  pub level : level_of G (in_level counts G h i) ≡ suc h
  pub rises : 0 < i → (in_level counts G h (i - 1)).first < (in_level counts G h i).first

module _ (counts : List ℕ) (G : Family) where
  well_leveled : (h i : ℕ) → misleveled counts G h i ≡ false → LeveledAt counts G h i
  unfolding misleveled
  well_leveled h i f =
      let level : Bool = eqb (level_of G (in_level counts G h i)) (suc h) in
      let rise : Bool = ltb (in_level counts G h (i - 1)).first (in_level counts G h i).first in
      let b : ltb 0 i && not rise ≡ false = or_fails_r (not level) (ltb 0 i && not rise) f in
      record {
        level = eqb-true (level_of G (in_level counts G h i)) (suc h) (not-false level (or_fails_l (not level) (ltb 0 i && not rise) f));
        rises =
            λ some.
            let c : true && not rise ≡ false = rw (lt-ltb 0 i some) at b in
            ltb-true (in_level counts G h (i - 1)).first (in_level counts G h i).first (not-false rise c);
      }

  pub leveled_at : cause27 counts G ≡ false → (h i : ℕ) → h < 64 → i < get_or counts h 0 → LeveledAt counts G h i
  unfolding cause27
  leveled_at f h i l li =
      well_leveled h i
      (none_at (λ i. misleveled counts G h i) (get_or counts h 0) i
      (none_at (λ h. some_below (get_or counts h 0) (λ i. misleveled counts G h i)) 64 h
      (or_fails_r (repeated G) (some_below 64 (λ h. some_below (get_or counts h 0) (λ i. misleveled counts G h i))) f)
      l)
      li)

  pub none_repeated : cause27 counts G ≡ false → repeated G ≡ false
  unfolding cause27
  none_repeated f = or_fails_l (repeated G) (some_below 64 (λ h. some_below (get_or counts h 0) (λ i. misleveled counts G h i))) f

pub counts_add : (counts : List ℕ) (k : ℕ) → cause26 counts k ≡ false → sum counts ≡ k
unfolding cause26
counts_add counts k h = eqb-true (sum counts) k (not-false (eqb (sum counts) k) h)

-- How many regions of a level there are along the counts.

count_add : (a b : ℕ) (p : ℕ → Bool) → count_below (a + b) p ≡ count_below a p + count_below b (λ i. p (a + i))
unfolding count_below
count_add a zero p = let e : a + 0 ≡ a = omega arith in rw e (omega arith)
count_add a (suc b) p =
    let e : a + suc b ≡ suc (a + b) = omega arith in
    rw e (omega (arith, count_add a b p))

count_all : (p : ℕ → Bool) (n : ℕ) → ((k : ℕ) → k < n → p k ≡ true) → count_below n p ≡ n
unfolding count_below
count_all p zero h = refl
count_all p (suc n) h = rw (count_all p n (λ k l. h k (omega arith)), h n (omega arith)) (omega arith)

-- A listing for which no cause holds.

pub record AcceptedListing (counts : List ℕ) (G : Family) : Type 0 where
  pub counts_all : length counts ≡ 64
  pub peptides_some : 1 ≤ G.peptides
  pub peptides_most : G.peptides ≤ 4096
  pub leaves_some : 1 ≤ leaves G
  pub leaves_most : leaves G ≤ 4096
  pub regions_most : region_count G ≤ 2 * leaves G - 1
  pub z_fits : (k : ℕ) → k < region_count G → (region G k).z < 65536
  pub no6 : cause6 G ≡ false
  pub no7 : cause7 G ≡ false
  pub no9 : cause9 (distinct G) ≡ false
  pub no10 : cause10 (distinct G) ≡ false
  pub no26 : cause26 counts (region_count G) ≡ false
  pub no27 : cause27 counts G ≡ false

pub record ListedWell (counts : List ℕ) (G : Family) : Type 0 where
  pub single : repeated G ≡ false
  pub well : WellFormed (in_file_order G)
  pub back : by_level (in_file_order G) ≡ G
  pub counts_back : level_counts (in_file_order G) ≡ counts

-- a region comes sooner by level, or by first leaf in the same level
abbrev Sooner : Family → Region → Region → Type 0
Sooner G r q = (level_of G r < level_of G q) ⊎ ((level_of G r ≡ level_of G q) × (r.first < q.first))

module _ (counts : List ℕ) (G : Family) (a : AcceptedListing counts G) where
  total_listed : sum counts ≡ region_count G
  total_listed = counts_add counts (region_count G) a.no26

  single_listed : repeated G ≡ false
  single_listed = none_repeated counts G a.no27

  placed_listed : (k h i : ℕ) → h < 64 → i < get_or counts h 0 → k ≡ sum (take h counts) + i → region G k ≡ in_level counts G h i
  unfolding in_level
  placed_listed k h i l li e = ap (region G) e

  next_sooner : (k : ℕ) → suc k < region_count G → Sooner G (region G k) (region G (suc k))
  next_sooner k l =
      let s = stretch counts k (omega (arith, total_listed)) in
      let t = stretch counts (suc k) (omega (arith, total_listed)) in
      let h : ℕ = t.before in
      let i : ℕ = t.place in
      let lh : h < 64 = omega (arith, t.counted, a.counts_all) in
      let here = leveled_at counts G a.no27 h i lh t.room in
      let is : region G (suc k) ≡ in_level counts G h i = placed_listed (suc k) h i lh t.room t.there in
      ⊎_elim
      (λ (z : i ≤ 0).
      let g : ℕ = s.before in
      let lg : g < 64 = omega (arith, s.counted, a.counts_all) in
      let there = leveled_at counts G a.no27 g s.place lg s.room in
      let was : region G k ≡ in_level counts G g s.place = placed_listed k g s.place lg s.room s.there in
      let less : g < h =
      ⊎_elim (λ (le : h ≤ g). absurd (omega (arith, sum_take h g counts le, s.there, t.there))) (λ (lt : g < h). lt) (le_or_lt h g) in
      inl (rw (was, is, there.level, here.level) (omega arith)))
      (λ (some : 0 < i).
      let li : i - 1 < get_or counts h 0 = omega (arith, t.room) in
      let there = leveled_at counts G a.no27 h (i - 1) lh li in
      let was : region G k ≡ in_level counts G h (i - 1) = placed_listed k h (i - 1) lh li (omega (arith, t.there)) in
      inr (rw (was, is, there.level, here.level) refl, rw (was, is) (here.rises some)))
      (le_or_lt i 0)

  sooner_listed : Chain (Sooner G) G.regions
  unfolding region
  sooner_listed =
      chain_next (Sooner G)
      (λ r q p x y.
      ⊎_elim
      (λ b. ⊎_elim (λ c. inl (omega arith)) (λ c. inl (omega arith)) y)
      (λ b. ⊎_elim (λ c. inl (omega arith)) (λ c. inr (omega arith, omega arith)) y)
      x)
      no_region G.regions next_sooner

  all_listed : distinct G ≡ G
  all_listed = distinct_all G single_listed

  levels_listed : (r : Region) → In r G.regions → level_of G r ≤ 64
  levels_listed = levels_most G (subst (λ (H : Family). cause10 H ≡ false) all_listed a.no10)

  same_listed : SameRegions (in_file_order G).regions G.regions
  same_listed = file_order_same G a.no7

  levels_stay : by_key 65 (level_of G) G.regions ≡ G.regions
  levels_stay =
      rising_stays (level_of G) G.regions
      (chain_same (Sooner G) (λ r q. level_of G r ≤ level_of G q) G.regions (λ r q i j b. ⊎_elim (λ c. omega arith) (λ c. omega arith) b) sooner_listed)
      65
      (λ r i. omega (arith, levels_listed r i))

  level_stays : (v : ℕ) → those (λ r. eqb (level_of G r) v) (in_order (leaves G) G.regions) ≡ those (λ r. eqb (level_of G r) v) G.regions
  level_stays v =
      let n : ℕ = leaves G in
      let t : Region → Bool = λ r. eqb (level_of G r) v in
      let first : Region → ℕ = λ r. r.first in
      let last : Region → ℕ = λ r. n - r.last in
      let M : List Region = those t G.regions in
      those_by_key first (by_key n last G.regions) t (suc n)
      ∙ ap (by_key (suc n) first) (those_by_key last G.regions t n)
      ∙ order_stays n M (λ r i. placed_members G a.no7 r (those_in t G.regions r i).0)
      (chain_same (Sooner G) Before M
      (λ r q i j b.
      let c = eqb-true (level_of G r) v (those_in t G.regions r i).1 in
      let d = eqb-true (level_of G q) v (those_in t G.regions q j).1 in
      ⊎_elim (λ e. absurd (omega arith)) (λ e. inl e.1) b)
      (chain_those (Sooner G) t G.regions sooner_listed))

  back_listed : by_level (in_file_order G) ≡ G
  unfolding by_level in_file_order
  back_listed =
      let L : List Region = in_order (leaves G) G.regions in
      ap (with_regions G)
      (by_key_same (level_of (in_file_order G)) (level_of G) L (λ r i. level_same (in_file_order G) G same_listed r) 65
      ∙ by_key_cells (level_of G) L G.regions 65 (λ v l. level_stays v)
      ∙ levels_stay)

  -- the regions of level h + 1 among those that the first g counts have
  module _ (h : ℕ) where
    abbrev has : ℕ → Bool
    has k = eqb (level_of G (region G k)) (suc h)

    has_level : (g i : ℕ) → g < 64 → i < get_or counts g 0 → has (sum (take g counts) + i) ≡ eqb (suc g) (suc h)
    has_level g i l li =
        rw (placed_listed (sum (take g counts) + i) g i l li refl, (leveled_at counts G a.no27 g i l li).level)

    counted_up_to : (g : ℕ) → g ≤ 64 → count_below (sum (take g counts)) has ≡ cond (ltb h g) (get_or counts h 0) 0
    unfolding sum count_below
    counted_up_to zero l = rw (le-ltb h 0 (omega arith))
    counted_up_to (suc g) l =
        let n : ℕ = sum (take g counts) in
        let m : ℕ = get_or counts g 0 in
        let p : ℕ → Bool = λ i. has (n + i) in
        let ih = counted_up_to g (omega arith) in
        let added = ap (λ (k : ℕ). count_below k has) (sum_take_suc counts g) ∙ count_add n m has in
        ⊎_elim
        (λ (le : g ≤ h).
        ⊎_elim
        (λ (e : g ≡ h).
        let none : count_below n has ≡ 0 = ih ∙ rw (le-ltb h g le) in
        let all : count_below m p ≡ m = count_all p m (λ i li. has_level g i (omega arith) li ∙ eq-eqb (suc g) (suc h) (omega arith)) in
        rw (lt-ltb h (suc g) (omega arith)) (omega (arith, ap (λ (k : ℕ). get_or counts k 0) e)))
        (λ (lt : g < h).
        let none : count_below n has ≡ 0 = ih ∙ rw (le-ltb h g le) in
        let more : count_below m p ≡ 0 = count_below_none p m (λ i li. has_level g i (omega arith) li ∙ ne_eqb (suc g) (suc h) (λ e. omega arith)) in
        rw (le-ltb h (suc g) (omega arith)) (omega arith))
        (eq-or-lt_of_le le))
        (λ (lt : h < g).
        let some : count_below n has ≡ get_or counts h 0 = ih ∙ rw (lt-ltb h g lt) in
        let more : count_below m p ≡ 0 = count_below_none p m (λ i li. has_level g i (omega arith) li ∙ ne_eqb (suc g) (suc h) (λ e. omega arith)) in
        rw (lt-ltb h (suc g) (omega arith)) (omega arith))
        (le_or_lt g h)

    counted_listed : h < 64 → length (those (λ r. eqb (level_of G r) (suc h)) G.regions) ≡ get_or counts h 0
    unfolding region
    counted_listed l =
        let total : sum (take 64 counts) ≡ region_count G = ap sum (take_all 64 counts (omega (arith, a.counts_all))) ∙ total_listed in
        sym (count_those (λ r. eqb (level_of G r) (suc h)) no_region G.regions)
        ∙ ap (λ (k : ℕ). count_below k has) (sym total)
        ∙ counted_up_to 64 (omega arith)
        ∙ rw (lt-ltb h 64 l)

  counts_listed : level_counts (in_file_order G) ≡ counts
  unfolding level_counts
  counts_listed =
      let H : Family = in_file_order G in
      let f : ℕ → ℕ = λ h. length (those (λ r. eqb (level_of H r) (suc h)) H.regions) in
      ext_get_or 0 (tabulate 64 f) counts (length_tabulate 64 f ∙ sym a.counts_all)
      (λ h l.
      let lh : h < 64 = omega (arith, length_tabulate 64 f) in
      let t : Region → Bool = λ r. eqb (level_of G r) (suc h) in
      get_d_tabulate 64 f 0 h lh
      ∙ ap length
      (those_same (λ r. eqb (level_of H r) (suc h)) t H.regions
      (λ r i. ap (λ (k : ℕ). eqb k (suc h)) (level_same H G same_listed r)))
      ∙ same_listed t
      ∙ counted_listed h lh)

  ordered_listed : Ordered (in_file_order G)
  ordered_listed = file_order_ordered G a.no7 single_listed

  clear9 : cause9 (in_file_order G) ≡ false
  clear9 = cause9_same (in_file_order G) G same_listed ∙ subst (λ (H : Family). cause9 H ≡ false) all_listed a.no9

  clear10 : cause10 (in_file_order G) ≡ false
  clear10 = cause10_same (in_file_order G) G same_listed ∙ subst (λ (H : Family). cause10 H ≡ false) all_listed a.no10

  z_listed : (k : ℕ) → k < region_count (in_file_order G) → (region (in_file_order G) k).z < 65536
  z_listed k l =
      members G (λ r. r.z < 65536) a.z_fits (region (in_file_order G) k)
      (same_in (in_file_order G).regions G.regions same_listed (region (in_file_order G) k) (at_member (in_file_order G) k l))

  well_listed : WellFormed (in_file_order G)
  unfolding in_file_order
  well_listed =
      record {
        peptides_some = a.peptides_some;
        peptides_most = a.peptides_most;
        leaves_some = a.leaves_some;
        leaves_most = a.leaves_most;
        regions_most = omega (arith, file_order_count G a.no7, a.regions_most);
        lengths_sum = lengths_clear G a.no6;
        ordered = ordered_listed;
        nested = nested_if_clear (in_file_order G) ordered_listed clear9;
        shallow = shallow_if_clear (in_file_order G) clear10;
        z_fits = z_listed;
      }

  pub listed_well : ListedWell counts G
  listed_well = record { single = single_listed; well = well_listed; back = back_listed; counts_back = counts_listed }
