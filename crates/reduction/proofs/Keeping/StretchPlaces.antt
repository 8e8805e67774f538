-- The stretches of the regions of a well-formed family, by the regions' places in the file.
use Prim.Native.Nat.{ℕ, ◌+◌, ◌≤◌, ◌<◌}
use mathlib.Core.Bool.{true, false}
use mathlib.Core.Logic.{◌⊎◌, inl, inr, ⊎_elim}
use mathlib.Core.Path.{◌≡◌, sym, ◌∙◌, ap}
use native.Mathlib.Nat.{eq-or-lt_of_le}
use native.Mathlib.Omega.{arith}
use lib.Dec.{eqb}
use borrow.Author.Tests.{eqb-false, ne_eqb}
use Rattle.reader.specs.Family.{Family, region_count, region}
use Rattle.reader.specs.WellFormed.{WellFormed}
use Rattle.bounds.specs.Ranges.{Range, range_of, ranges_of, has, range_at}
use Rattle.bounds.proofs.Basics.Members.{test, le_or_lt}
use Rattle.bounds.proofs.Basics.Nesting.{Inside, inside_self, has_facts}
use Rattle.bounds.proofs.Theory.Laminar.{Laminar, Fit, is_inside, is_around, is_before, is_after, fit, meet, member_hosts}
use Rattle.bounds.proofs.Theory.Family.{range_in, family_laminar}
use Rattle.reduction.specs.Reduction.{live_peptides, first_of, last_of}
use Rattle.reduction.specs.Private.Steps.{first_live, last_live}
use Rattle.reduction.specs.Private.Keeping.{first_at, last_at, Outward}
use Rattle.reduction.proofs.Basics.FirstLast.{first_of_at_most, first_of_is, last_of_is}
use Rattle.reduction.proofs.Theory.Live.{live_facts}
use Rattle.reduction.proofs.Theory.Stretches.{StretchOf, live_in, in_live, its_stretch}

-- The stretch of a range, if its z is at least 1 and it has a live peptide.
module _ (F : Family) (r : Range) where
  some_live : 1 ≤ r.z → (first_live F r ≡ first_of F.peptides (live_peptides (ranges_of F) r)) × (last_live F r ≡ last_of F.peptides (live_peptides (ranges_of F) r))
  unfolding first_live last_live
  some_live h = let e : eqb r.z 0 ≡ false = ne_eqb r.z 0 (λ d. omega arith) in (rw e, rw e)

  live_some : 1 ≤ first_live F r → 1 ≤ r.z
  unfolding first_live
  live_some h = ⊎_elim (λ e. absurd (omega (arith, rw e at h))) (λ e. let n = eqb-false r.z 0 e in omega arith) (test (eqb r.z 0))

  live_stretch : 1 ≤ first_live F r → StretchOf F.peptides (ranges_of F) (first_live F r) (last_live F r) r
  live_stretch h =
      let z = live_some h in
      let e = some_live z in
      rw (e.0, e.1) (its_stretch F.peptides (ranges_of F) r z (omega (arith, e.0)))

  -- it is the only one
  stretch_live : {a b : ℕ} → StretchOf F.peptides (ranges_of F) a b r → (first_live F r ≡ a) × (last_live F r ≡ b)
  stretch_live {a} {b} s =
      let m = F.peptides in
      let R = ranges_of F in
      let X = live_peptides R r in
      let e = some_live s.bound in (
        e.0 ∙ first_of_is m X a s.positive (omega (arith, s.order, s.small)) (in_live m R r a s.first_in s.first_live) (λ p l u t. s.left p l u (live_in m R r p t).0 (live_in m R r p t).1),
        e.1 ∙ last_of_is m X b (omega (arith, s.positive, s.order)) s.small (in_live m R r b s.last_in s.last_live) (λ p l u t. s.right p l u (live_in m R r p t).0 (live_in m R r p t).1),
      )

module _ {F : Family} (w : WellFormed F) where
  abbrev laminar : Laminar F.peptides (ranges_of F)
  laminar = family_laminar w

  -- the stretch of the k-th region
  pub stretch_of : (k : ℕ) → 1 ≤ first_at F k → StretchOf F.peptides (ranges_of F) (first_at F k) (last_at F k) (range_at F k)
  unfolding first_at last_at
  stretch_of k h = live_stretch F (range_at F k) h

  pub bound_some : (k : ℕ) → 1 ≤ first_at F k → 1 ≤ (region F k).z
  unfolding first_at range_of
  bound_some k h = live_some F (range_at F k) h

  pub stretch_at_lem : (k : ℕ) {a b : ℕ} → StretchOf F.peptides (ranges_of F) a b (range_at F k) → (first_at F k ≡ a) × (last_at F k ≡ b)
  unfolding first_at last_at
  stretch_at_lem k s = stretch_live F (range_at F k) s

  -- Nesting by places: what is around a region stands before it and ends with it or later.

  pub around_inside : (i k : ℕ) → i < k → k < region_count F → (region F k).last ≤ (region F i).last → Inside (range_at F k) (range_at F i)
  unfolding range_of
  around_inside i k l h e =
      let first = w.ordered.rising i k l h in
      let shorter : (region F i).first + (region F k).last < (region F k).first + (region F i).last =
      ⊎_elim (λ same. omega (arith, w.ordered.falling i k l h same)) (λ more. omega arith) (eq-or-lt_of_le first) in
      record { left = first; right = e; less = shorter }

  pub inside_around : (i k : ℕ) → i < region_count F → k < region_count F → Inside (range_at F k) (range_at F i) → (i < k) × ((region F k).last ≤ (region F i).last)
  unfolding range_of
  inside_around i k a b n = (⊎_elim (λ h. absurd (⊎_elim same less (eq-or-lt_of_le h))) (λ h. h) (le_or_lt k i), n.right)
    where
      same : k ≡ i → ⊥
      same e = inside_self (rw e at n)

      less : k < i → ⊥
      less h =
          let first : (region F k).first ≡ (region F i).first = omega (arith, w.ordered.rising k i h a, n.left) in
          omega (arith, w.ordered.falling k i h a first, n.right)

  pub same_place : (i k : ℕ) → i < region_count F → k < region_count F → range_at F i ≡ range_at F k → i ≡ k
  unfolding range_of
  same_place i k a b e = ⊎_elim (λ h. ⊎_elim (λ d. d) (λ l. absurd (apart i k l b first last)) (eq-or-lt_of_le h)) (λ l. absurd (apart k i l a (sym first) (sym last))) (le_or_lt i k)
    where
      first : (region F i).first ≡ (region F k).first
      first = ap (λ (r : Range). r.from) e

      last : (region F i).last ≡ (region F k).last
      last = ap (λ (r : Range). r.to) e

      apart : (i k : ℕ) → i < k → k < region_count F → (region F i).first ≡ (region F k).first → (region F i).last ≡ (region F k).last → ⊥
      apart i k l h f g = omega (arith, w.ordered.falling i k l h f)

  -- What is around a region with a stretch has a stretch, no shorter.
  pub record Wider (i k : ℕ) : Type 0 where
    pub some : 1 ≤ first_at F i
    pub first : first_at F i ≤ first_at F k
    pub last : last_at F k ≤ last_at F i

  inside_wider : (i k : ℕ) → i < region_count F → k < region_count F → 1 ≤ first_at F k → Inside (range_at F k) (range_at F i) → Wider i k
  unfolding first_at last_at
  inside_wider i k a b h n =
      let m = F.peptides in
      let R = ranges_of F in
      let r = range_at F i in
      let s = live_stretch F (range_at F k) h in
      let hosts = member_hosts laminar r (range_in F i a) (range_at F k) (range_in F k b) n in
      let p = first_at F k in
      let q = last_at F k in
      let first : has r p ≡ true = hosts p s.first_in in
      let last : has r q ≡ true = hosts q s.last_in in
      let z : 1 ≤ r.z = live_facts R p s.first_live r (range_in F i a) first in
      let e = some_live F r z in
      let f = first_of_at_most m (live_peptides R r) p h (omega (arith, s.order, s.small)) (in_live m R r p first s.first_live) in
      let t = live_stretch F r (omega (arith, e.0, f.0)) in
      record {
        some = omega (arith, e.0, f.0);
        first = t.left p h (omega (arith, s.order, s.small)) first s.first_live;
        last = t.right q (omega (arith, s.order)) s.small last s.last_live;
      }

  pub outward_wider : (i k : ℕ) → Outward F i k → k < region_count F → 1 ≤ first_at F k → Wider i k
  outward_wider i k o h s =
      ⊎_elim
      (λ e. rw e (record { some = s; first = omega arith; last = omega arith }))
      (λ l. inside_wider i k (omega arith) h s (around_inside i k l h o.1))
      (eq-or-lt_of_le o.0)

  -- Along the file the stretches begin no earlier and, where they begin together, end no later.
  pub stretch_order : (i k : ℕ) → i < k → k < region_count F → 1 ≤ first_at F i → 1 ≤ first_at F k
      → (first_at F i < first_at F k) ⊎ ((first_at F i ≡ first_at F k) × (last_at F k ≤ last_at F i))
  stretch_order i k l h a b = ⊎_elim (λ e. absurd (omega (arith, same_place i k (omega arith) h e))) lies (fit laminar (range_at F i) (range_at F k) (range_in F i (omega arith)) (range_in F k h))
    where
      inner : Wider i k → (first_at F i < first_at F k) ⊎ ((first_at F i ≡ first_at F k) × (last_at F k ≤ last_at F i))
      inner v = ⊎_elim (λ e. inr (e, v.last)) inl (eq-or-lt_of_le v.first)

      after : (range_at F k).to < (range_at F i).from → ⊥
      after = unfold range_of in λ d. omega (arith, w.ordered.rising i k l h, w.ordered.first_last k h)

      lies : Fit (range_at F i) (range_at F k) → (first_at F i < first_at F k) ⊎ ((first_at F i ≡ first_at F k) × (last_at F k ≤ last_at F i))
      lies (is_inside n u v) = absurd (omega (arith, (inside_around k i h (omega arith) n).0))
      lies (is_around n u v) = inner (inside_wider i k (omega arith) h b n)
      lies (is_before d e) = inl (omega (arith, has_facts (range_at F i) (first_at F i) (stretch_of i a).first_in, has_facts (range_at F k) (first_at F k) (stretch_of k b).first_in))
      lies (is_after d e) = absurd (after d)

  -- Two regions that hold a peptide: one is around the other, or they are the same.
  pub share : (i k p : ℕ) → i < region_count F → k < region_count F → has (range_at F i) p ≡ true → has (range_at F k) p ≡ true → Outward F i k ⊎ ((k < i) × ((region F i).last ≤ (region F k).last))
  share i k p a b u v =
      ⊎_elim
      (λ e. let d = same_place i k a b e in inl (rw d (omega arith)))
      (λ c. ⊎_elim (λ n. inr (inside_around k i b a n)) (λ n. let o = inside_around i k a b n in inl (omega arith)) c)
      (meet laminar (range_at F i) (range_at F k) (range_in F i a) (range_in F k b) p u v)
