-- The smallest z of a stretch and the smallest z around it, from the region just around.
use Prim.Native.Nat.{ℕ, suc, ◌+◌, ◌≤◌, ◌<◌, min}
use mathlib.Core.List.{List}
use mathlib.Core.Logic.{◌⊎◌, inl, inr, ⊎_elim}
use mathlib.Core.Path.{◌≡◌, refl, sym, ◌∙◌, subst}
use native.Mathlib.Nat.{eq-or-lt_of_le}
use native.Mathlib.Omega.{arith}
use lib.Dec.{eqb}
use lib.ListN.{length, get_or, set}
use lib.Seq.{get_or-set_same, get_or-set_other}
use borrow.Author.Tests.{eqb-true, eqb-false}
use Rattle.reader.specs.Family.{Family, region_count, region}
use Rattle.reader.specs.WellFormed.{WellFormed, IsParent}
use Rattle.bounds.proofs.Basics.Members.{test, le_or_lt}
use Rattle.reduction.specs.Private.Keeping.{first_at, last_at, SameStretch, Outward, Weighed, WeighedBelow}
use Rattle.reduction.proofs.Keeping.StretchPlaces.{outward_wider}

-- two stretches are the same or not
pub decide_same : (F : Family) (i k : ℕ) → SameStretch F i k ⊎ (SameStretch F i k → ⊥)
decide_same F i k =
    ⊎_elim
    (λ e. ⊎_elim (λ f. inl (eqb-true (first_at F i) (first_at F k) e, eqb-true (last_at F i) (last_at F k) f)) (λ f. inr (λ s. eqb-false (last_at F i) (last_at F k) f s.1)) (test (eqb (last_at F i) (last_at F k))))
    (λ e. inr (λ s. eqb-false (first_at F i) (first_at F k) e s.0))
    (test (eqb (first_at F i) (first_at F k)))

module _ {F : Family} (w : WellFormed F) (k : ℕ) (h : k < region_count F) where
  -- a region without a parent
  pub weighed_outermost : IsParent F k 0 → Weighed F k (region F k).z 65535
  weighed_outermost p =
      record {
        least = λ i o e. rw (alone i o) (omega arith);
        reached = (k, (omega arith, omega arith), (refl, refl), refl);
        around = λ i o d. absurd (d (rw (alone i o) (refl, refl)));
        met = inl refl;
      }
    where
      alone : (i : ℕ) → Outward F i k → i ≡ k
      alone i o = ⊎_elim (λ e. e) (λ l. absurd (omega (arith, (p.innermost i l o.1).0))) (eq-or-lt_of_le o.0)

  module _ (j : ℕ) (p : IsParent F k (suc j)) (s : 1 ≤ first_at F k) where
    -- what is around a region is its parent or around its parent
    climb : (i : ℕ) → Outward F i k → (i ≡ k) ⊎ Outward F i j
    climb i o = ⊎_elim inl up (eq-or-lt_of_le o.0)
      where
        up : i < k → (i ≡ k) ⊎ Outward F i j
        up l =
            let n = p.innermost i l o.1 in
            inr (omega (arith, n.0), subst (λ (t : ℕ). (region F t).last ≤ (region F i).last) (omega arith) n.1)

    outer : (i : ℕ) → Outward F i j → Outward F i k
    outer i o = (omega (arith, p.earlier), omega (arith, p.around j refl))

    -- the parent has a stretch
    pub parent_some : 1 ≤ first_at F j
    parent_some = (outward_wider w j k (outer j (omega arith)) h s).some

    -- a region around the parent with the stretch of the k-th region: then the parent has it too
    between : (i : ℕ) → Outward F i j → SameStretch F i k → SameStretch F j k
    between i o e =
        let a = outward_wider w j k (outer j (omega arith)) h s in
        let b = outward_wider w i j o (omega (arith, p.earlier)) parent_some in
        (omega (arith, a.first, b.first), omega (arith, a.last, b.last))

    module _ (v u : ℕ) (d : Weighed F j v u) where
      -- the parent has the same stretch
      pub weighed_same : SameStretch F j k → Weighed F k (min (region F k).z v) u
      weighed_same same =
          record {
            least = λ i o e. ⊎_elim (λ q. rw q (omega arith)) (λ t. omega (arith, d.least i t (e.0 ∙ sym same.0, e.1 ∙ sym same.1))) (climb i o);
            reached = ⊎_elim (λ l. (k, (omega arith, omega arith), (refl, refl), omega arith)) (λ l. let (i, o, e, q) = d.reached in (i, outer i o, (e.0 ∙ same.0, e.1 ∙ same.1), omega arith)) (le_or_lt (region F k).z v);
            around = λ i o n. ⊎_elim (λ q. absurd (n (rw q (refl, refl)))) (λ t. d.around i t (λ e. n (e.0 ∙ same.0, e.1 ∙ same.1))) (climb i o);
            met = ⊎_elim inl (λ f. let (i, o, n, q) = f in inr (i, outer i o, (λ e. n (e.0 ∙ sym same.0, e.1 ∙ sym same.1)), q)) d.met;
          }

      -- the parent has another stretch
      pub weighed_other : (SameStretch F j k → ⊥) → Weighed F k (region F k).z (min v u)
      weighed_other other =
          record {
            least = λ i o e. ⊎_elim (λ q. rw q (omega arith)) (λ t. absurd (other (between i t e))) (climb i o);
            reached = (k, (omega arith, omega arith), (refl, refl), refl);
            around = λ i o n. ⊎_elim (λ q. absurd (n (rw q (refl, refl)))) (λ t. ⊎_elim (λ e. omega (arith, d.least i t e)) (λ e. omega (arith, d.around i t e)) (decide_same F i j)) (climb i o);
            met = ⊎_elim smaller larger (le_or_lt v u);
          }
        where
          smaller : v ≤ u → (min v u ≡ 65535) ⊎ ((i : ℕ) × Outward F i k × (SameStretch F i k → ⊥) × (min v u ≡ (region F i).z))
          smaller l = let (i, o, e, q) = d.reached in inr (i, outer i o, (λ f. other (between i o f)), omega arith)

          larger : u < v → (min v u ≡ 65535) ⊎ ((i : ℕ) × Outward F i k × (SameStretch F i k → ⊥) × (min v u ≡ (region F i).z))
          larger l = ⊎_elim (λ q. inl (omega arith)) (λ f. let (i, o, n, q) = f in inr (i, outer i o, (λ e. other (between i o e)), omega arith)) d.met

-- one more region is written
pub weighed_more :
    (F : Family) (Z W : List ℕ) (k v u : ℕ) → k < length Z → k < length W → WeighedBelow F Z W k → (1 ≤ first_at F k → Weighed F k v u)
    → WeighedBelow F (set Z k v) (set W k u) (k + 1)
weighed_more F Z W k v u a b old new i l s = ⊎_elim same earlier (eq-or-lt_of_le (omega arith))
  where
    same : i ≡ k → Weighed F i (get_or (set Z k v) i 0) (get_or (set W k u) i 0)
    same e =
        subst (λ (t : ℕ). Weighed F t (get_or (set Z k v) t 0) (get_or (set W k u) t 0)) (sym e)
        (rw (get_or-set_same Z k v 0 a, get_or-set_same W k u 0 b) (new (rw e at s)))

    earlier : i < k → Weighed F i (get_or (set Z k v) i 0) (get_or (set W k u) i 0)
    earlier d = rw (get_or-set_other Z k i v 0 (λ e. omega arith), get_or-set_other W k i u 0 (λ e. omega arith)) (old i d s)
