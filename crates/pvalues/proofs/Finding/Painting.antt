-- The regions in file order, each painted over its peptides, and the number of peptides of each.
use Prim.Native.Nat.{ℕ, suc, ◌+◌, ◌-◌, ◌<◌, ◌≤◌}
use mathlib.Core.Bool.{cond}
use mathlib.Core.List.{List}
use mathlib.Core.Logic.{⊎_elim}
use mathlib.Core.Path.{◌≡◌, refl, sym, subst, ◌∙◌}
use native.Mathlib.Omega.{arith}
use lib.ListN.{length, get_or, set}
use lib.Seq.{get_or-set_same, get_or-set_other}
use Rattle.reader.specs.Family.{Family, region_count, region, leaf_of, peptides_up_to}
use Rattle.reader.specs.WellFormed.{WellFormed}
use Rattle.reader.proofs.Bools.{clash}
use Rattle.reader.proofs.Below.{below_next}
use Rattle.reader.proofs.Walk.{up_to_mono}
use Rattle.bounds.specs.Ranges.{range_of, range_at}
use Rattle.bounds.specs.Holding.{LastAmong, PaintedBefore}
use Rattle.bounds.proofs.Basics.Members.{test, le_or_lt}
use Rattle.bounds.proofs.Basics.Nesting.{has_facts, has_holds}
use Rattle.bounds.proofs.Theory.Family.{leaf_most}
use Rattle.bounds.proofs.Walking.Holding.{none_among, one_among}
use Rattle.bounds.proofs.Walking.Steps.{has_leaf}
use Rattle.pvalues.specs.Private.Lowering.{has_at, size_at}
use Rattle.pvalues.specs.Private.Climbing.{LastOfFirst, SizesOfFirst}

pub none_painted : (F : Family) (T : List ℕ) → ((i : ℕ) → get_or T i 0 ≡ 0) → LastOfFirst F 0 T
none_painted F T zeros i l = subst (LastAmong F 0 (leaf_of F (suc i))) (sym (zeros i)) (none_among F (leaf_of F (suc i)))

-- Where the region lies on the line of the peptides, after those of the leaves passed.
module _ {F : Family} (w : WellFormed F) (k : ℕ) (h : k < region_count F) where
  pub low_is : (range_at F k).low ≡ peptides_up_to F ((region F k).first - 1)
  unfolding range_of
  low_is = refl

  pub high_is : (range_at F k).high ≡ peptides_up_to F (region F k).last
  unfolding range_of
  high_is = refl

  pub low_high : (range_at F k).low ≤ (range_at F k).high
  low_high =
      let first : (region F k).first ≤ (region F k).last = w.ordered.first_last k h in
      omega (arith, low_is, high_is, up_to_mono F ((region F k).first - 1) (region F k).last (omega arith))

  pub high_most : (range_at F k).high ≤ F.peptides
  high_most = omega (arith, high_is, leaf_most w (region F k).last (w.ordered.last_leaf k h))

  painted_at : (T D : List ℕ) (n i : ℕ) → PaintedBefore T (range_at F k).low n (range_at F k).high D → get_or D i 0 ≡ cond (has_at F k i) n (get_or T i 0)
  painted_at T D n i p =
      ⊎_elim
      (λ t. let f = has_facts (range_at F k) (suc i) t in p.done i (omega (arith, f.above)) (omega (arith, f.upto)) ∙ sym (rw t))
      (λ e. ⊎_elim (λ l. ⊎_elim (λ u. p.ahead i u ∙ sym (rw e)) (λ u. absurd (clash (has_holds (record { above = omega arith; upto = omega arith })) e)) (le_or_lt (range_at F k).high i)) (λ l. p.below i l ∙ sym (rw e)) (le_or_lt (range_at F k).low i))
      (test (has_at F k i))

  -- one region more: its number at its peptides, else the number before
  pub one_painted : (T D : List ℕ) → PaintedBefore T (range_at F k).low (k + 1) (range_at F k).high D → LastOfFirst F k T → LastOfFirst F (k + 1) D
  one_painted T D p before i l =
      one_among F k (leaf_of F (suc i)) (get_or T i 0) (get_or D i 0) (before i l)
      (painted_at T D (k + 1) i p ∙ rw (has_leaf w (suc i) k (omega arith) l h))

  pub one_sized : (S : List ℕ) (v : ℕ) → k < length S → v ≡ size_at F k → SizesOfFirst F k S → SizesOfFirst F (k + 1) (set S k v)
  one_sized S v room e before j l =
      ⊎_elim (λ (q : j ≡ k). rw (q, get_or-set_same S k v 0 room) e) (λ (d : j < k). get_or-set_other S k j v 0 (λ q. omega arith) ∙ before j d) (below_next l)

  -- the first leaves of the regions from the next one on
  pub passed_more : (j : ℕ) → k + 1 ≤ j → j < region_count F → (region F k).first - 1 < (region F j).first
  passed_more j l u = omega (arith, w.ordered.rising k j (omega arith) u, w.ordered.first_some k h)
