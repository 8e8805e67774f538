-- The pass over the regions that finds the live peptides: how far the dead ones reach.
use Prim.Native.Nat.{ℕ, ◌+◌, ◌-◌, ◌<◌, ◌≤◌, max}
use native.Mathlib.Omega.{arith}
use mathlib.Core.Bool.{false}
use mathlib.Core.List.{List, ◌++◌}
use mathlib.Core.Logic.{◌⊎◌, inl, inr, ⊎_elim}
use mathlib.Core.Path.{◌≡◌, refl, sym, ap, subst, ◌∙◌}
use lib.ListN.{length, get_or}
use Rattle.std.proofs.Common.{replicate, take}
use Rattle.std.proofs.lemmas.List.{length-take-le, length-replicate, get_or-take, get_or-drop, get_or-replicate, get_or-append_right}
use Rattle.std.proofs.lemmas.Slice.{take-put_mid, drop-put_mid, take-put_mid_below}
use borrow.Rule.Slice.PartMut.{put_mid}
use Rattle.reader.specs.Family.{Family, region_count, region}
use Rattle.reader.specs.WellFormed.{WellFormed}
use Rattle.reader.proofs.Below.{below_next}
use Rattle.bounds.specs.Ranges.{range_of, ranges_of, range_at}
use Rattle.bounds.proofs.Basics.Members.{test, clash, le_or_lt}
use Rattle.bounds.proofs.Basics.Nesting.{has_facts, has_holds}
use Rattle.reader.proofs.Walk.{up_to_mono}
use Rattle.bounds.proofs.Theory.Family.{range_in, leaf_most, of_region}
use Rattle.reduction.specs.Reduction.{live}
use Rattle.reduction.specs.Private.Passes.{LiveUpTo}
use Rattle.reduction.proofs.Theory.Live.{dead_facts, dead_holds}

-- The low and high ends of the ranges, in file order.

module _ (F : Family) (w : WellFormed F) where
  -- regions begin in rising order, with their peptides too
  pub low_rises : (i k : ℕ) → i < k → k < region_count F → (range_at F i).low ≤ (range_at F k).low
  unfolding range_of
  low_rises i k h l = up_to_mono F ((region F i).first - 1) ((region F k).first - 1) (omega (arith, w.ordered.rising i k h l))

  pub low_high : (k : ℕ) → k < region_count F → (range_at F k).low ≤ (range_at F k).high
  unfolding range_of
  low_high k l = up_to_mono F ((region F k).first - 1) (region F k).last (omega (arith, w.ordered.first_last k l))

  pub high_small : (k : ℕ) → k < region_count F → (range_at F k).high ≤ F.peptides
  unfolding range_of
  high_small k l = leaf_most w (region F k).last (w.ordered.last_leaf k l)

-- a region with z = 0 among the first k whose last peptide is u
pub record DeadTo (F : Family) (k u : ℕ) : Type 0 where
  pub number : ℕ
  pub small : number < k
  pub zero : (range_at F number).z ≡ 0
  pub high : u ≡ (range_at F number).high

-- and one that has peptide p + 1
pub record DeadBy (F : Family) (k p : ℕ) : Type 0 where
  pub number : ℕ
  pub small : number < k
  pub zero : (range_at F number).z ≡ 0
  pub above : (range_at F number).low ≤ p
  pub upto : p < (range_at F number).high

-- Of the first k regions, those with z = 0 reach up to peptide u; what is in them is marked dead, and nothing else is.
pub record Swept (F : Family) (k u : ℕ) (M : List ℕ) : Type 0 where
  pub most : (i : ℕ) → i < k → (range_at F i).z ≡ 0 → (range_at F i).high ≤ u
  pub least : 1 ≤ u → DeadTo F k u
  pub dead : (p : ℕ) → DeadBy F k p → get_or M p 0 ≡ 0
  pub others : (p : ℕ) → p < F.peptides → (get_or M p 0 ≡ 1) ⊎ DeadBy F k p

pub none_swept : (F : Family) (M : List ℕ) → ((p : ℕ) → p < F.peptides → get_or M p 0 ≡ 1) → Swept F 0 0 M
none_swept F M ones =
    record {
      most = λ i l. absurd (omega arith);
      least = λ h. absurd (omega arith);
      dead = λ p d. absurd (omega (arith, d.small));
      others = λ p l. inl (ones p l);
    }

-- N is M with the bytes from one place to another made 0
pub record Cleared (M N : List ℕ) (from to : ℕ) : Type 0 where
  pub before : (p : ℕ) → p < from → get_or N p 0 ≡ get_or M p 0
  pub cleared : (p : ℕ) → from ≤ p → p < to → get_or N p 0 ≡ 0
  pub after : (p : ℕ) → to ≤ p → get_or N p 0 ≡ get_or M p 0

pub cleared_by_fill : (M Z : List ℕ) (a b : ℕ) → a ≤ b → b ≤ length M → Z ≡ replicate (b - a) 0 → Cleared M (put_mid a (b - a) M Z) a b
cleared_by_fill M Z a b order room e =
    let n : length (take a M) ≡ a = length-take-le a M (omega arith) in
    let k : length Z ≡ b - a = rw e (length-replicate (b - a) 0) in
    let head : take b (put_mid a (b - a) M Z) ≡ take a M ++ Z = take-put_mid a (b - a) M Z b (omega arith) (omega arith) in
    record {
      before =
          λ p l.
          sym (get_or-take a (put_mid a (b - a) M Z) p 0 l)
          ∙ ap (λ (L : List ℕ). get_or L p 0) (take-put_mid_below a (b - a) M Z a (omega arith) (omega arith))
          ∙ get_or-take a M p 0 l;
      cleared =
          λ p h l.
          sym (get_or-take b (put_mid a (b - a) M Z) p 0 l)
          ∙ ap (λ (L : List ℕ). get_or L p 0) head
          ∙ get_or-append_right (take a M) Z a p 0 n h
          ∙ rw e (get_or-replicate (b - a) (p - a) 0 0 (omega arith));
      after = λ p h. subst (λ (i : ℕ). get_or (put_mid a (b - a) M Z) i 0 ≡ get_or M i 0) (omega arith) (rest (p - b));
    }
  where
    rest : (i : ℕ) → get_or (put_mid a (b - a) M Z) (b + i) 0 ≡ get_or M (b + i) 0
    rest i =
        sym (get_or-drop b (put_mid a (b - a) M Z) i 0)
        ∙ ap (λ (L : List ℕ). get_or L i 0) (drop-put_mid a (b - a) M Z b (omega arith) (omega arith) (rw e (length-replicate (b - a) 0)))
        ∙ get_or-drop b M i 0

module _ (F : Family) (w : WellFormed F) (k u : ℕ) (M : List ℕ) (h : k < region_count F) (s : Swept F k u M) where
  one_more : (p : ℕ) → DeadBy F k p → DeadBy F (k + 1) p
  one_more p d = record { number = d.number; small = omega (arith, d.small); zero = d.zero; above = d.above; upto = d.upto }

  -- the k-th region begins no earlier than the one that reaches farthest
  reached : (p : ℕ) → (range_at F k).low ≤ p → p < u → get_or M p 0 ≡ 0
  reached p a l =
      let d = s.least (omega arith) in
      s.dead p (record { number = d.number; small = d.small; zero = d.zero; above = omega (arith, low_rises F w d.number k d.small h); upto = omega (arith, d.high) })

  -- of the regions with one more, the k-th one has the peptide, or an earlier one has it
  by_last : (p : ℕ) → DeadBy F (k + 1) p → ((((range_at F k).z ≡ 0) × ((range_at F k).low ≤ p)) × (p < (range_at F k).high)) ⊎ DeadBy F k p
  by_last p d =
      ⊎_elim
      (λ e. inl ((rw (← e) d.zero, rw (← e) d.above), rw (← e) d.upto))
      (λ b. inr (record { number = d.number; small = b; zero = d.zero; above = d.above; upto = d.upto }))
      (below_next d.small)

  -- the k-th region is live, or reaches no farther
  pub swept_same : ((range_at F k).z ≡ 0 → (range_at F k).high ≤ u) → Swept F (k + 1) u M
  swept_same few =
      record {
        most = λ i l zero. ⊎_elim (λ e. rw e (few (rw e at zero))) (λ b. s.most i b zero) (below_next l);
        least = λ some. let d = s.least some in record { number = d.number; small = omega (arith, d.small); zero = d.zero; high = d.high };
        dead = λ p d. ⊎_elim (λ n. reached p n.0.1 (omega (arith, few n.0.0, n.1))) (λ b. s.dead p b) (by_last p d);
        others = λ p l. ⊎_elim (λ e. inl e) (λ d. inr (one_more p d)) (s.others p l);
      }

  -- it is dead, and reaches farther
  pub swept_more :
      (N : List ℕ) (from : ℕ) → (range_at F k).z ≡ 0 → u < (range_at F k).high → from ≡ max (range_at F k).low u → Cleared M N from (range_at F k).high
      → Swept F (k + 1) (range_at F k).high N
  swept_more N from zero farther e c =
      record {
        most = λ i l none. ⊎_elim (λ a. rw a (omega arith)) (λ b. omega (arith, s.most i b none)) (below_next l);
        least = λ some. record { number = k; small = omega arith; zero = zero; high = refl };
        dead = λ p d. ⊎_elim (λ n. here p n.0.1 n.1) (λ b. kept p (s.dead p b)) (by_last p d);
        others = others;
      }
    where
      kept : (p : ℕ) → get_or M p 0 ≡ 0 → get_or N p 0 ≡ 0
      kept p o =
          ⊎_elim
          (λ a. ⊎_elim (λ b. c.after p b ∙ o) (λ b. c.cleared p a b) (le_or_lt (range_at F k).high p))
          (λ b. c.before p b ∙ o)
          (le_or_lt from p)

      here : (p : ℕ) → (range_at F k).low ≤ p → p < (range_at F k).high → get_or N p 0 ≡ 0
      here p a l = ⊎_elim (λ b. c.cleared p b l) (λ b. c.before p b ∙ reached p a (omega arith)) (le_or_lt from p)

      others : (p : ℕ) → p < F.peptides → (get_or N p 0 ≡ 1) ⊎ DeadBy F (k + 1) p
      others p l =
          ⊎_elim
          (λ a.
          ⊎_elim
          (λ b. ⊎_elim (λ o. inl (c.after p b ∙ o)) (λ d. inr (one_more p d)) (s.others p l))
          (λ b. inr (record { number = k; small = omega arith; zero = zero; above = omega arith; upto = b }))
          (le_or_lt (range_at F k).high p))
          (λ b. ⊎_elim (λ o. inl (c.before p b ∙ o)) (λ d. inr (one_more p d)) (s.others p l))
          (le_or_lt from p)

-- all regions
pub all_swept : (F : Family) (k u : ℕ) (M : List ℕ) → k ≡ region_count F → Swept F k u M → LiveUpTo F F.peptides M
all_swept F k u M all s p l =
    ⊎_elim
    (λ t. rw t (⊎_elim (λ e. e) (λ d. absurd (clash t (dead d))) (s.others p l)))
    (λ f. rw f (s.dead p (by f)))
    (test (live (ranges_of F) (p + 1)))
  where
    dead : DeadBy F k p → live (ranges_of F) (p + 1) ≡ false
    dead d =
        dead_holds {R = ranges_of F} {p = p + 1}
        (record { by = range_at F d.number; member = range_in F d.number (omega (arith, d.small)); zero = d.zero; holds = has_holds (record { above = omega (arith, d.above); upto = omega (arith, d.upto) }) })

    by : live (ranges_of F) (p + 1) ≡ false → DeadBy F k p
    by f =
        let d = dead_facts (ranges_of F) (p + 1) f in
        let n = of_region F d.by d.member in
        let h = has_facts (range_at F n.at) (p + 1) (rw n.is at d.holds) in
        record { number = n.at; small = omega (arith, n.few); zero = rw n.is at d.zero; above = omega (arith, h.above); upto = omega (arith, h.upto) }
