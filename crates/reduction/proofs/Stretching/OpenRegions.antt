-- The pass over the leaves that finds the low and high ends of the regions: which have begun, and which are open.
use Prim.Native.Nat.{ℕ, ◌+◌, ◌-◌, ◌<◌, ◌≤◌}
use native.Mathlib.Nat.{eq-or-lt_of_le}
use native.Mathlib.Omega.{arith}
use mathlib.Core.List.{List}
use mathlib.Core.Logic.{◌⊎◌, inl, inr, ⊎_elim}
use mathlib.Core.Path.{◌≡◌, sym, ap, ◌∙◌}
use lib.ListN.{length, get_or, set}
use lib.Seq.{get_or-set_same, get_or-set_other}
use lib.Dec.{eqb}
use borrow.Author.Tests.{eqb-true, eqb-false}
use Rattle.reader.specs.Family.{Family, leaves, region_count, region, peptides_up_to}
use Rattle.reader.specs.WellFormed.{WellFormed, IsParent}
use Rattle.reader.proofs.Below.{below_next, last_below}
use Rattle.bounds.specs.Ranges.{range_of, range_at}
use Rattle.bounds.proofs.Basics.Members.{test, le_or_lt}
use Rattle.reduction.specs.Private.Passes.{Lowered, Begun, Open, Ends}

-- a fact for every number below k, and at k, after a store at k
pub more_stored :
    (L : List ℕ) (k v : ℕ) (f : ℕ → ℕ) → k < length L → ((i : ℕ) → i < k → get_or L i 0 ≡ f i) → v ≡ f k
    → (i : ℕ) → i < k + 1 → get_or (set L k v) i 0 ≡ f i
more_stored L k v f room old new i l =
    ⊎_elim
    (λ e. rw e (get_or-set_same L k v 0 room ∙ new))
    (λ b. get_or-set_other L k i v 0 (λ e. omega arith) ∙ old i b)
    (below_next l)

module _ (F : Family) (w : WellFormed F) where
  first_rises : (i j : ℕ) → i ≤ j → j < region_count F → (region F i).first ≤ (region F j).first
  first_rises i j h l = ⊎_elim (λ e. rw e (omega arith)) (λ b. w.ordered.rising i j b l) (eq-or-lt_of_le h)

  -- Regions that begin.

  pub none_begun : (L : List ℕ) → Begun F 0 0 L
  none_begun L =
      record {
        lows = record { few = omega arith; before = λ i l. absurd (omega arith); low = λ i l. absurd (omega arith) };
        others = λ i h l. w.ordered.first_some i l;
      }

  pub still_begun : {j k : ℕ} {L : List ℕ} → Begun F j k L → Lowered F (j + 1) k L
  still_begun b = record { few = b.lows.few; before = λ i l. omega (arith, b.lows.before i l); low = b.lows.low }

  -- the k-th region begins at leaf j + 1
  pub one_begins :
      (j k v : ℕ) (L : List ℕ) → k < region_count F → k < length L → (region F k).first ≡ j + 1 → v ≡ peptides_up_to F j
      → Lowered F (j + 1) k L → Lowered F (j + 1) (k + 1) (set L k v)
  unfolding range_of
  one_begins j k v L h room first sums b =
      record {
        few = omega arith;
        before = λ i l. ⊎_elim (λ e. rw e (omega arith)) (λ d. b.before i d) (below_next l);
        low = more_stored L k v (λ i. (range_at F i).low) room b.low (sums ∙ ap (peptides_up_to F) (omega arith));
      }

  -- the k-th region, if there is one, does not
  pub all_begun :
      (j k₀ k : ℕ) (L₀ L : List ℕ) → Begun F j k₀ L₀ → k₀ ≤ k → Lowered F (j + 1) k L → (k < region_count F → (region F k).first ≡ j + 1 → ⊥)
      → Begun F (j + 1) k L
  all_begun j k₀ k L₀ L old more b stop =
      record {
        lows = b;
        others =
            λ i h l.
            let here = old.others k more (omega arith) in
            ⊎_elim
            (λ e. absurd (stop (omega arith) (omega arith)))
            (λ d. omega (arith, first_rises k i h l))
            (eq-or-lt_of_le here);
      }

  -- Open regions.

  pub none_open : (H : List ℕ) → Open F 0 1 H 0
  none_open H =
      record { few = omega arith; reaches = λ h. absurd (omega arith); each = λ i l h. absurd (omega (arith, w.ordered.first_some i l)) }

  -- a region that begins by leaf b and is open is the innermost one or around it, so it reaches what that one reaches
  open_reaches : {b e c i : ℕ} {H : List ℕ} → Open F b e H c → i < c → (region F (c - 1)).last ≤ (region F i).last → e ≤ (region F i).last
  open_reaches o l h = omega (arith, o.reaches (omega arith))

  -- the last region that begins at leaf j + 1 is the innermost open one
  pub new_innermost :
      (j k₀ k c : ℕ) (L₀ L H : List ℕ) → Begun F j k₀ L₀ → Begun F (j + 1) k L → k₀ < k → Open F j (j + 1) H c
      → Open F (j + 1) (j + 1) H k
  new_innermost j k₀ k c L₀ L H old b more o =
      record {
        few = b.lows.few;
        reaches = λ h. omega (arith, old.others (k - 1) (omega arith) (omega (arith, b.lows.few)), w.ordered.first_last (k - 1) (omega (arith, b.lows.few)));
        each = λ i l h. ⊎_elim (λ u. ⊎_elim inl (λ p. inr (late i l h (open_reaches o p.0 p.1))) (o.each i l u)) (λ u. inr (late i l h (omega (arith, w.ordered.first_last i l)))) (le_or_lt (region F i).first j);
      }
    where
      begun : (i : ℕ) → i < region_count F → (region F i).first ≤ j + 1 → i < k
      begun i l h = ⊎_elim (λ u. absurd (omega (arith, b.others i u l))) (λ u. u) (le_or_lt k i)

      late : (i : ℕ) → i < region_count F → (region F i).first ≤ j + 1 → j + 1 ≤ (region F i).last → (i < k) × ((region F (k - 1)).last ≤ (region F i).last)
      late i l h r = (
        begun i l h,
        ⊎_elim
            (λ e. rw e (omega arith))
            (λ d. ⊎_elim (λ a. absurd (omega (arith, b.lows.before (k - 1) (omega arith)))) (λ a. a) (w.nested i (k - 1) d (omega (arith, b.lows.few))))
            (eq-or-lt_of_le (last_below i k (begun i l h))),
      )

  -- no region begins at leaf j + 1
  pub same_innermost :
      (j k c : ℕ) (L₀ L H : List ℕ) → Begun F j k L₀ → Begun F (j + 1) k L → Open F j (j + 1) H c → Open F (j + 1) (j + 1) H c
  same_innermost j k c L₀ L H old b o =
      record {
        few = o.few;
        reaches = o.reaches;
        each = λ i l h. o.each i l (⊎_elim (λ u. absurd (omega (arith, b.others i u l))) (λ u. old.lows.before i u) (le_or_lt k i));
      }

  -- the innermost open region ends at leaf j: its parent is open next
  pub one_ends :
      (j c d v : ℕ) (H : List ℕ) → 1 ≤ c → c - 1 < length H → Open F j j H c → (region F (c - 1)).last ≡ j → v ≡ peptides_up_to F j
      → IsParent F (c - 1) d → Open F j j (set H (c - 1) v) d
  unfolding range_of
  one_ends j c d v H some room o last sums p =
      record {
        few = omega (arith, o.few, p.earlier);
        reaches = λ h. omega (arith, p.around (d - 1) (omega arith));
        each = each;
      }
    where
      each :
          (i : ℕ) → i < region_count F → (region F i).first ≤ j
          → (get_or (set H (c - 1) v) i 0 ≡ (range_at F i).high) ⊎ ((i < d) × ((region F (d - 1)).last ≤ (region F i).last))
      each i l h =
          ⊎_elim
          (λ t. let e = eqb-true i (c - 1) t in inl (rw e (get_or-set_same H (c - 1) v 0 room ∙ sums ∙ ap (peptides_up_to F) (sym last))))
          (λ f.
          let apart = eqb-false i (c - 1) f in
          ⊎_elim
          (λ e. inl (get_or-set_other H (c - 1) i v 0 apart ∙ e))
          (λ u. inr (p.innermost i (omega (arith, u.0)) u.1))
          (o.each i l h))
          (test (eqb i (c - 1)))

  -- it does not: every region that is open goes on to the next leaf
  pub none_ends : (j c : ℕ) (H : List ℕ) → Open F j j H c → (1 ≤ c → (region F (c - 1)).last ≡ j → ⊥) → Open F j (j + 1) H c
  none_ends j c H o stop =
      record {
        few = o.few;
        reaches = λ h. ⊎_elim (λ e. absurd (stop h (sym e))) (λ d. omega arith) (eq-or-lt_of_le (o.reaches h));
        each = o.each;
      }

  -- at the last leaf all regions have begun and ended
  pub ends_found : (n k c : ℕ) (L H : List ℕ) → n ≡ leaves F → Begun F n k L → Open F n (n + 1) H c → Ends F L H
  ends_found n k c L H e b o =
      record {
        low = λ i l. b.lows.low i (⊎_elim (λ u. absurd (omega (arith, b.others i u l, w.ordered.first_last i l, w.ordered.last_leaf i l))) (λ u. u) (le_or_lt k i));
        high =
            λ i l.
            ⊎_elim
            (λ h. h)
            (λ u. absurd (omega (arith, u.0, u.1, o.reaches (omega (arith, u.0)), w.ordered.last_leaf i l)))
            (o.each i l (omega (arith, w.ordered.first_last i l, w.ordered.last_leaf i l)));
      }
