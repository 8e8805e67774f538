-- Rows in file order: what lies inside a region is one block of regions after it, and a walk along the block adds up its inside total.
use Prim.Native.Nat.{ℕ, zero, suc, ◌+◌, ◌-◌, ◌≤◌, ◌<◌}
use mathlib.Core.Bool.{Bool, true, false, cond}
use mathlib.Core.List.{List, [], ◌∷◌}
use mathlib.Core.Logic.{⊎_elim}
use mathlib.Core.Path.{◌≡◌, refl, ap, ◌∙◌}
use native.Mathlib.Nat.{eq-or-lt_of_le}
use native.Mathlib.Omega.{arith}
use lib.ListN.{length, get_or}
use Rattle.reader.specs.Family.{Family, leaves, region_count, region, peptides_up_to}
use Rattle.reader.specs.WellFormed.{WellFormed}
use Rattle.reader.proofs.Walk.{up_to_end, nothing_before, up_to_mono}
use Rattle.bounds.specs.Ranges.{Range, Peptides, card, count, those, sum_over, just_inside, parts, range_of, ranges_of, range_at}
use Rattle.bounds.specs.Bound.{total, value}
use Rattle.bounds.specs.Private.Rows.{whole_line, row_range, leaf_before, last_leaf}
use Rattle.bounds.proofs.Basics.Members.{le_or_lt, refuted}
use Rattle.bounds.proofs.Basics.Counting.{count_between, partition_in}
use Rattle.bounds.proofs.Basics.Nesting.{Inside, just_facts, just_holds, part_facts}
use Rattle.bounds.proofs.Theory.Laminar.{Hosts, member_hosts, parts_apart, Around, around_hosts}
use Rattle.bounds.proofs.Theory.Totals.{total_is}
use Rattle.bounds.proofs.Theory.Family.{no_range, ranges_length, range_at_lem, range_in, family_laminar, leaf_most, OfRegion, of_region}

-- Sums over the numbers below a limit.

pub sum_below : ℕ → (ℕ → ℕ) → ℕ
sum_below zero g = 0
sum_below (suc n) g = sum_below n g + g n

sum_front : (n : ℕ) (g : ℕ → ℕ) → sum_below (suc n) g ≡ g 0 + sum_below n (λ k. g (suc k))
unfolding sum_below
sum_front zero g = omega arith
sum_front (suc n) g = omega (arith, sum_front n g)

-- where nothing is added
pub sum_skip : (i j : ℕ) (g : ℕ → ℕ) → i ≤ j → ((k : ℕ) → i ≤ k → k < j → g k ≡ 0) → sum_below j g ≡ sum_below i g
unfolding sum_below
sum_skip zero zero g h none = refl
sum_skip (suc i) zero g h none = absurd (omega arith)
sum_skip i (suc j) g h none =
    ⊎_elim (λ e. rw e) (λ l. omega (arith, sum_skip i j g (omega arith) (λ k a b. none k a (omega arith)), none j (omega arith) (omega arith)))
    (eq-or-lt_of_le h)

sum_alike : (n : ℕ) (g h : ℕ → ℕ) → ((k : ℕ) → k < n → g k ≡ h k) → sum_below n g ≡ sum_below n h
unfolding sum_below
sum_alike zero g h same = refl
sum_alike (suc n) g h same = omega (arith, sum_alike n g h (λ k l. same k (omega arith)), same n (omega arith))

-- the term of a member that passes the test
abbrev pub term : {A : Type 0} → (A → Bool) → (A → ℕ) → A → ℕ
term t f x = cond (t x) (f x) 0

-- a sum over the members that pass a test, by their places
sum_those : {A : Type 0} (d : A) (t : A → Bool) (f : A → ℕ) (L : List A) → sum_over f (those t L) ≡ sum_below (length L) (λ k. term t f (get_or L k d))
unfolding sum_over those sum_below
sum_those d t f [] = refl
sum_those d t f (x ∷ L) = omega (arith, sum_those d t f L, sum_front (length L) (λ k. term t f (get_or (x ∷ L) k d)), head (t x))
  where
    head : (b : Bool) → sum_over f (cond b (x ∷ those t L) (those t L)) ≡ cond b (f x) 0 + sum_over f (those t L)
    head true = refl
    head false = omega arith

-- Region k is just inside the range of the row that begins at region b.
abbrev pub is_part : Family → ℕ → ℕ → Bool
is_part F b k = just_inside (ranges_of F) (range_at F k) (row_range F b)

-- the sum over the parts of that row among the first j regions
pub part_sum : Family → ℕ → (Range → ℕ) → ℕ → ℕ
part_sum F b f j = sum_below j (λ k. cond (is_part F b k) (f (range_at F k)) 0)

-- The regions in file order.

module _ {F : Family} (w : WellFormed F) where
  -- Region k is inside region i exactly if it comes later and begins before region i ends.
  pub inside_before : (k i : ℕ) → k < region_count F → i < region_count F → Inside (range_at F k) (range_at F i) → (i < k) × ((region F k).first ≤ (region F i).last)
  unfolding range_of
  inside_before k i lk li n =
      let o = w.ordered in (
        ⊎_elim
            (λ h. ⊎_elim (λ e. absurd (omega (arith, rw e at n.less))) (λ l. absurd (omega (arith, n.left, n.right, n.less, o.rising k i l li, o.falling k i l li (omega (arith, n.left, o.rising k i l li))))) (eq-or-lt_of_le h))
            (λ l. l)
            (le_or_lt k i),
        omega (arith, n.right, o.first_last k lk),
      )

  pub inside_block : (k i : ℕ) → i < k → k < region_count F → (region F k).first ≤ (region F i).last → Inside (range_at F k) (range_at F i)
  unfolding range_of
  inside_block k i l lk h =
      let o = w.ordered in
      let rise = o.rising i k l lk in
      let right : (region F k).last ≤ (region F i).last = ⊎_elim (λ a. absurd (omega arith)) (λ b. b) (w.nested i k l lk) in
      let less : (region F i).first + (region F k).last < (region F k).first + (region F i).last =
      ⊎_elim (λ e. omega (arith, o.falling i k l lk e)) (λ a. omega arith) (eq-or-lt_of_le rise) in
      record { left = rise; right = right; less = less }

  -- The same for the row that begins at region b.
  pub row_inner : (b k : ℕ) → b ≤ region_count F → k < region_count F → Inside (range_at F k) (row_range F b) → (b ≤ k) × ((region F k).first ≤ last_leaf F b)
  unfolding row_range last_leaf
  row_inner zero k h l n = (omega arith, omega (arith, w.ordered.first_last k l, w.ordered.last_leaf k l))
  row_inner (suc i) k h l n = inside_before k i l h n

  line_holds : (k : ℕ) → k < region_count F → Inside (range_at F k) (whole_line F)
  unfolding range_of whole_line
  line_holds k l = record { left = omega arith; right = omega (arith, w.ordered.last_leaf k l); less = omega (arith, w.ordered.last_leaf k l, w.ordered.first_some k l) }

  pub row_block : (b k : ℕ) → b ≤ k → k < region_count F → (region F k).first ≤ last_leaf F b → Inside (range_at F k) (row_range F b)
  unfolding row_range last_leaf
  row_block zero k h l a = line_holds k l
  row_block (suc i) k h l a = inside_block k i h l a

  pub line_is_around : Around F.peptides (ranges_of F) (whole_line F)
  unfolding whole_line
  line_is_around = record { every = λ r i. every r (of_region F r i); start = refl; end = refl }
    where
      every : (r : Range) → OfRegion F r → Inside r (whole_line F)
      every r f = rw f.is (line_holds f.at f.few)

  row_hosts : (b : ℕ) → b ≤ region_count F → Hosts (ranges_of F) (row_range F b)
  unfolding row_range
  row_hosts zero h = around_hosts (family_laminar w) line_is_around
  row_hosts (suc i) h = member_hosts (family_laminar w) (range_at F i) (range_in F i h)

  -- The parts of a row.

  -- a region of the block is a part, if all regions of the block before it end before it begins;
  pub part_here : (b j : ℕ) → b ≤ j → j < region_count F → (region F j).first ≤ last_leaf F b
      → ((i : ℕ) → b ≤ i → i < j → (region F i).last < (region F j).first) → is_part F b j ≡ true
  part_here b j h l a ended = just_holds (record { inner = row_block b j h l a; next = λ t i tj tq. between t (of_region F t i) tj tq })
    where
      between : (t : Range) → OfRegion F t → Inside (range_at F j) t → Inside t (row_range F b) → ⊥
      between t f tj tq =
          let k = f.at in
          let out = inside_before j k l f.few (rw f.is at tj) in
          let inn = row_inner b k (omega arith) f.few (rw f.is at tq) in
          omega (arith, ended k inn.0 out.0, out.1)

  -- the regions inside a region of the block are not,
  pub part_deeper : (b j k : ℕ) → b ≤ j → (region F j).first ≤ last_leaf F b → j < k → k < region_count F → (region F k).first ≤ (region F j).last
      → is_part F b k ≡ false
  part_deeper b j k h a less l inn =
      refuted (is_part F b k)
      (λ e. (just_facts (ranges_of F) (range_at F k) (row_range F b) e).next (range_at F j) (range_in F j (omega arith)) (inside_block k j less l inn) (row_block b j h (omega arith) a))

  -- nor are those before the block, or after it
  pub part_before : (b k : ℕ) → b ≤ region_count F → k < b → is_part F b k ≡ false
  part_before b k h l =
      refuted (is_part F b k)
      (λ e. omega (arith, (row_inner b k h (omega arith) (just_facts (ranges_of F) (range_at F k) (row_range F b) e).inner).0))

  pub part_after : (b k : ℕ) → b ≤ region_count F → k < region_count F → last_leaf F b < (region F k).first → is_part F b k ≡ false
  part_after b k h l a =
      refuted (is_part F b k)
      (λ e. omega (arith, (row_inner b k h l (just_facts (ranges_of F) (range_at F k) (row_range F b) e).inner).1))

  -- Sums over the parts of a row.

  pub part_sum_all : (b : ℕ) (f : Range → ℕ) → sum_over f (parts (ranges_of F) (row_range F b)) ≡ part_sum F b f (region_count F)
  unfolding parts part_sum
  part_sum_all b f =
      let q = row_range F b in
      let t : Range → Bool = λ r. just_inside (ranges_of F) r q in
      sum_those (no_range F) t f (ranges_of F)
      ∙ ap (λ (n : ℕ). sum_below n (λ k. term t f (get_or (ranges_of F) k (no_range F)))) (ranges_length F)
      ∙ sum_alike (region_count F) (λ k. term t f (get_or (ranges_of F) k (no_range F))) (λ k. term t f (range_of F (region F k))) (λ k l. ap (term t f) (range_at_lem F k))

  pub part_sum_none : (b : ℕ) (f : Range → ℕ) (i j : ℕ) → i ≤ j → ((k : ℕ) → i ≤ k → k < j → is_part F b k ≡ false) → part_sum F b f j ≡ part_sum F b f i
  unfolding part_sum
  part_sum_none b f i j h none = sum_skip i j (λ k. cond (is_part F b k) (f (range_at F k)) 0) h (λ k a l. rw (none k a l))

  pub part_sum_one : (b : ℕ) (f : Range → ℕ) (j : ℕ) → is_part F b j ≡ true → part_sum F b f (suc j) ≡ part_sum F b f j + f (range_at F j)
  unfolding part_sum sum_below
  part_sum_one b f j e = rw e

  -- the row starts with no part
  pub part_sum_start : (b : ℕ) (f : Range → ℕ) → b ≤ region_count F → part_sum F b f b ≡ 0
  unfolding sum_below part_sum
  part_sum_start b f h = part_sum_none b f 0 b (omega arith) (λ k a l. part_before b k h l)

  -- Selected peptides, counted by leaves.

  pub region_counted : (S : Peptides) (k : ℕ) → k < region_count F
      → card (peptides_up_to F ((region F k).first - 1)) S + count F.peptides S (range_at F k) ≡ card (peptides_up_to F (region F k).last) S
  unfolding range_of
  region_counted S k l =
      count_between F.peptides S (range_of F (region F k))
      (up_to_mono F ((region F k).first - 1) (region F k).last (omega (arith, w.ordered.first_last k l)))
      (leaf_most w (region F k).last (w.ordered.last_leaf k l))

  pub row_counted : (S : Peptides) (b : ℕ) → b ≤ region_count F
      → card (peptides_up_to F (leaf_before F b)) S + count F.peptides S (row_range F b) ≡ card (peptides_up_to F (last_leaf F b)) S
  unfolding leaf_before last_leaf row_range whole_line
  row_counted S zero h =
      rw (nothing_before F, up_to_end F (leaves F) (omega arith), w.lengths_sum)
      (count_between F.peptides S (whole_line F) (omega arith) (omega arith))
  row_counted S (suc i) h = region_counted S i h

  -- The inside total of a row: the values of its parts for what is selected in them, and all that is selected in its range.
  pub row_total : (S : Peptides) (b : ℕ) → b ≤ region_count F
      → total F.peptides (ranges_of F) S (row_range F b) + part_sum F b (count F.peptides S) (region_count F) + card (peptides_up_to F (leaf_before F b)) S
      ≡ part_sum F b (value F.peptides (ranges_of F) S) (region_count F) + card (peptides_up_to F (last_leaf F b)) S
  row_total S b h =
      let m = F.peptides in
      let R = ranges_of F in
      let q = row_range F b in
      let split = partition_in m S (parts R q) q (parts_apart (family_laminar w) q) (λ r i. let f = part_facts R q r i in row_hosts b h r f.member f.just.inner) in
      omega (arith, total_is m R S q, part_sum_all b (value m R S), part_sum_all b (count m S), row_counted S b h)
