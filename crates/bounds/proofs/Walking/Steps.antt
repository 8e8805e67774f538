-- The walk along a path: what the regions can take, the marks and the entries after each step.
use Prim.Native.Nat.{ℕ, zero, suc, ◌+◌, ◌-◌, ◌*◌, ◌<◌, ◌≤◌}
use mathlib.Core.Bool.{Bool, true, false, not, cond}
use mathlib.Core.List.{List, ◌++◌}
use mathlib.Core.Logic.{⊎_elim}
use mathlib.Core.Path.{◌≡◌, refl, sym, subst, ◌∙◌}
use native.Mathlib.Numerals.{add-one}
use native.Mathlib.Omega.{arith}
use lib.ListN.{length, get_or, take}
use lib.Seq.{take_at}
use lib.Dec.{leb, eqb}
use borrow.Author.Tests.{eqb-true, eq-eqb}
use Rattle.reader.specs.Family.{Family, leaves, region_count, region, leaf_of}
use Rattle.reader.specs.WellFormed.{WellFormed}
use Rattle.reader.proofs.Below.{some_at, found}
use Rattle.reader.proofs.Lists.{length_tabulate, get_d_tabulate}
use Rattle.reader.proofs.Walk.{FirstReaching, leaf_found, up_to_mono}
use Rattle.bounds.specs.Ranges.{Peptides, range_of, range_at, ranges_of, has, count}
use Rattle.bounds.specs.Curves.{entry, mark_at, curve_marks, largest_up_to}
use Rattle.bounds.specs.Holding.{holds_leaf}
use Rattle.bounds.specs.Private.Walks.{crowded, MarkedNext, marks_up_to, MarksOf, Distinct}
use Rattle.bounds.proofs.Basics.Members.{test, both_ways, and_l, and_r, and_both, bit, le_or_lt, bit_few}
use Rattle.bounds.proofs.Basics.Counting.{adding, count_none, count_adding, count_adding_other}
use Rattle.bounds.proofs.Basics.Nesting.{has_facts, has_holds}
use Rattle.bounds.proofs.Theory.Greedy.{blocked, blocked_facts, blocked_holds, greedy}
use Rattle.bounds.proofs.Theory.Family.{range_in, of_region}
use Rattle.bounds.proofs.Walking.Holding.{crowded_at, holds_facts, from_holds}
use Rattle.bounds.proofs.Theory.Marks.{marked_set, stops, marked_stays, marked_grows, entry_next, mark_is, entry_start, not_marked}

module _ {F : Family} (w : WellFormed F) where
  -- A region has a peptide exactly if it holds the peptide's leaf.
  pub has_leaf : (p k : ℕ) → 1 ≤ p → p ≤ F.peptides → k < region_count F → has (range_at F k) p ≡ holds_leaf F (leaf_of F p) k
  unfolding range_of
  has_leaf p k some most h = both_ways (has (range_at F k) p) (holds_leaf F (leaf_of F p) k) there back
    where
      leaf : FirstReaching F p (leaf_of F p)
      leaf = leaf_found F p some (omega (arith, w.lengths_sum))

      there : has (range_at F k) p ≡ true → holds_leaf F (leaf_of F p) k ≡ true
      there e =
          let f = has_facts (range_at F k) p e in
          from_holds F (leaf_of F p) k
          (⊎_elim (λ a. a) (λ b. absurd (omega (arith, f, leaf.reaches, up_to_mono F (leaf_of F p) ((region F k).first - 1) (omega arith)))) (le_or_lt (region F k).first (leaf_of F p)))
          (⊎_elim (λ a. a) (λ b. absurd (omega (arith, f, leaf.first (region F k).last b))) (le_or_lt (leaf_of F p) (region F k).last))

      back : holds_leaf F (leaf_of F p) k ≡ true → has (range_at F k) p ≡ true
      back e =
          let f = holds_facts F (leaf_of F p) k e in
          has_holds
          (record {
            above = leaf.first ((region F k).first - 1) (omega (arith, f.0, w.ordered.first_some k h));
            upto = omega (arith, leaf.reaches, up_to_mono F (leaf_of F p) (region F k).last f.1);
          })

-- The marks that each region can take.

-- the list has for each region its z less the count of G in it
abbrev pub SpareFor : Family → Peptides → List ℕ → Type 0
SpareFor F G S = (k : ℕ) → k < region_count F → get_or S k 0 ≡ (region F k).z - count F.peptides G (range_at F k)

module _ {F : Family} (w : WellFormed F) (G : Peptides) (S : List ℕ) (spare : SpareFor F G S) (p : ℕ) (some : 1 ≤ p) (most : p ≤ F.peptides) where
  -- a peptide may not be marked exactly if a region that holds its leaf is crowded
  pub crowded_blocked : crowded F S (leaf_of F p) ≡ blocked F.peptides (ranges_of F) G p
  unfolding crowded range_of
  crowded_blocked = both_ways (crowded F S (leaf_of F p)) (blocked F.peptides (ranges_of F) G p) there back
    where
      there : crowded F S (leaf_of F p) ≡ true → blocked F.peptides (ranges_of F) G p ≡ true
      there e =
          let f = found (crowded_at F S (leaf_of F p)) (region_count F) e in
          let k : ℕ = f.0 in
          let holds = and_l (holds_leaf F (leaf_of F p) k) (eqb (get_or S k 0) 0) f.2 in
          let none = eqb-true (get_or S k 0) 0 (and_r (holds_leaf F (leaf_of F p) k) (eqb (get_or S k 0) 0) f.2) in
          blocked_holds F.peptides (ranges_of F) G p
          (record { by = range_at F k; member = range_in F k f.1; holds = has_leaf w p k some most f.1 ∙ holds; filled = omega (arith, none, spare k f.1) })

      back : blocked F.peptides (ranges_of F) G p ≡ true → crowded F S (leaf_of F p) ≡ true
      back e =
          let s = blocked_facts F.peptides (ranges_of F) G p e in
          let n = of_region F s.by s.member in
          let k : ℕ = n.at in
          let holds : has (range_at F k) p ≡ true = rw n.is at s.holds in
          let filled : (region F k).z ≤ count F.peptides G (range_at F k) = rw n.is at s.filled in
          some_at (crowded_at F S (leaf_of F p)) (region_count F) k n.few
          (and_both (holds_leaf F (leaf_of F p) k) (eqb (get_or S k 0) 0) (sym (has_leaf w p k some most n.few) ∙ holds)
          (eq-eqb (get_or S k 0) 0 (omega (arith, filled, spare k n.few))))

  -- what the regions can take after the step
  pub spare_stays : (D : List ℕ) → MarkedNext F S p D 0 → SpareFor F G D
  spare_stays D s k h = s.less k h ∙ (⊎_elim (λ t. rw t (omega (arith, spare k h))) (λ f. rw f (omega (arith, spare k h))) (test (holds_leaf F (leaf_of F p) k)))

  pub spare_less : (D : List ℕ) → G p ≡ false → MarkedNext F S p D 1 → SpareFor F (adding p G) D
  spare_less D fresh s k h =
      let old = spare k h in
      let leaf = has_leaf w p k some most h in
      s.less k h
      ∙ ⊎_elim
      (λ t. rw t (omega (arith, count_adding F.peptides p G (range_at F k) some most fresh (leaf ∙ t))))
      (λ f. rw f (omega (arith, count_adding_other F.peptides p G (range_at F k) (leaf ∙ f))))
      (test (holds_leaf F (leaf_of F p) k))

-- A path of different peptides.

module _ {F : Family} {path : List ℕ} (well : WellFormed F) (is : Distinct F.peptides path) where
  -- One step: the mark is right, and so is what the regions can take after it.
  pub record RightStep (t : ℕ) (D : List ℕ) (marked : ℕ) : Type 0 where
    pub right : marked ≡ mark_at F path (t + 1)
    pub spare : SpareFor F (marked_set well is (t + 1)) D

  module _ (t : ℕ) (h : t < length path) (S D : List ℕ) (marked : ℕ) (spare : SpareFor F (marked_set well is t) S) (s : MarkedNext F S (get_or path t 0) D marked) where
    marked_bit : marked ≡ bit (not (stops well is t))
    marked_bit = s.marked ∙ rw (crowded_blocked well (marked_set well is t) S spare (get_or path t 0) (is.some t h) (is.most t h)) (flip (stops well is t))
      where
        flip : (b : Bool) → cond b 0 1 ≡ bit (not b)
        flip true = refl
        flip false = refl

    spare_next : SpareFor F (marked_set well is (suc t)) D
    spare_next =
        ⊎_elim
        (λ e.
        rw (marked_stays well is t h e)
        (spare_stays well (marked_set well is t) S spare (get_or path t 0) (is.some t h) (is.most t h) D (subst (MarkedNext F S (get_or path t 0) D) (marked_bit ∙ rw e) s)))
        (λ e.
        rw (marked_grows well is t h e)
        (spare_less well (marked_set well is t) S spare (get_or path t 0) (is.some t h) (is.most t h) D (not_marked well is t h) (subst (MarkedNext F S (get_or path t 0) D) (marked_bit ∙ rw e) s)))
        (test (stops well is t))

    pub next : RightStep t D marked
    next =
        record {
          right = marked_bit ∙ sym (mark_is well is t h);
          spare = rw add-one spare_next;
        }

  -- no peptide is marked at the start
  pub spare_start : (S : List ℕ) → ((k : ℕ) → k < region_count F → get_or S k 0 ≡ (region F k).z) → SpareFor F (marked_set well is 0) S
  unfolding greedy
  spare_start S whole k h = omega (arith, whole k h, count_none F.peptides (range_at F k))

  -- the leaf of a place's peptide is one of the leaves
  pub leaf_few : (t : ℕ) → t < length path → leaf_of F (get_or path t 0) ≤ leaves F
  leaf_few t h = (leaf_found F (get_or path t 0) (is.some t h) (omega (arith, is.most t h, well.lengths_sum))).leaf

-- The entries, from the marks.

pub marks_many : (F : Family) (path : List ℕ) → length (curve_marks F path) ≡ length path
unfolding curve_marks
marks_many F path = length_tabulate (length path) (λ i. mark_at F path (i + 1))

-- where the marks are written at the start of a list, they are its part of that length
pub marks_written : (F : Family) (path M rest : List ℕ) → M ≡ curve_marks F path ++ rest → take (length path) M ≡ curve_marks F path
marks_written F path M rest e = rw e (take_at (curve_marks F path) rest (length path) (marks_many F path))

module _ (M : List ℕ) where
  pub marks_none : marks_up_to M 0 ≡ 0
  unfolding marks_up_to
  marks_none = refl

  pub marks_more : (t : ℕ) → marks_up_to M (t + 1) ≡ marks_up_to M t + get_or M t 0
  unfolding marks_up_to
  marks_more t = rw add-one refl

module _ {F : Family} {path : List ℕ} (well : WellFormed F) (is : Distinct F.peptides path) where
  mark_here : (t : ℕ) → t < length path → get_or (curve_marks F path) t 0 ≡ mark_at F path (t + 1)
  unfolding curve_marks
  mark_here t h = get_d_tabulate (length path) (λ i. mark_at F path (i + 1)) 0 t h

  pub entries_marked : (t : ℕ) → t ≤ length path → marks_up_to (curve_marks F path) t ≡ entry F path t
  unfolding marks_up_to
  entries_marked zero h = sym (entry_start well is)
  entries_marked (suc t) h =
      omega (arith, entries_marked t (omega arith), mark_here t (omega arith), mark_is well is t (omega arith), entry_next well is t (omega arith))

  pub marks_of : length path ≤ F.peptides → MarksOf (curve_marks F path)
  marks_of short =
      record {
        few = omega (arith, marks_many F path, well.peptides_most);
        small = λ t h.
            let l : t < length path = omega (arith, marks_many F path) in
            omega (arith, mark_here t l, mark_is well is t l, bit_few (not (stops well is t)));
      }

-- equal tests have the same largest number
pub largest_same : (p q : ℕ → Bool) (n : ℕ) → ((t : ℕ) → t ≤ n → p t ≡ q t) → largest_up_to n p ≡ largest_up_to n q
unfolding largest_up_to
largest_same p q zero h = refl
largest_same p q (suc n) h = rw (h (suc n) (omega arith), largest_same p q n (λ t l. h t (omega arith)))

-- The cut.

-- the largest number up to t that passes
abbrev pub passing_up_to : List ℕ → ℕ → ℕ → ℕ → ℕ
passing_up_to M a b t = largest_up_to t (λ t. leb (marks_up_to M t * b) (a * t))

pub passing_none : (M : List ℕ) (a b : ℕ) → 0 ≡ passing_up_to M a b 0
unfolding largest_up_to
passing_none M a b = refl

pub passing_more : (M : List ℕ) (a b t e cut r : ℕ) → e ≡ marks_up_to M (t + 1) → cut ≡ passing_up_to M a b t
    → r ≡ cond (leb (e * b) (a * (t + 1))) (t + 1) cut → r ≡ passing_up_to M a b (t + 1)
unfolding largest_up_to
passing_more M a b t e cut r entered before h = h ∙ rw (entered, before, add-one)
