-- The bound that is written at a region: the z of its stretch if it is kept and no later region has it, else 0.
use Prim.Native.Nat.{ℕ, suc, ◌+◌, ◌-◌, ◌≤◌, ◌<◌, min}
use mathlib.Core.Bool.{Bool, true, false, not, cond, ◌&&◌, ◌||◌}
use mathlib.Core.List.{List}
use mathlib.Core.Logic.{⊎_elim}
use mathlib.Core.Path.{◌≡◌, refl, sym, ◌∙◌, ap, subst}
use native.Mathlib.Omega.{arith}
use lib.Dec.{ltb, eqb}
use lib.ListN.{length, get_or, set}
use borrow.Author.Tests.{ltb-true, lt-ltb, eqb-true, eqb-false, eq-eqb, ne_eqb, not-false}
use Rattle.reader.specs.Family.{Family, region_count, region}
use Rattle.reader.specs.WellFormed.{IsParent}
use Rattle.reader.proofs.Bools.{test, clash, and_l, and_r, and_both, and_fails, or_r}
use Rattle.reduction.specs.Private.Keeping.{first_at, SameStretch, LastWithStretch, WithStretches, same_ends, Weighed, WeighedBelow, TotalsBelow, Keeps, KeptMarked, NextStretch, kept_bound}
use Rattle.reduction.proofs.Keeping.Weighing.{parent_some, weighed_same, weighed_other}
use Rattle.reduction.proofs.Keeping.Marking.{weighed_keeps, keeps_weighed, inner_last, inner_other, not_inner, kept_marked_more, next_here, next_past}

-- The same stretch, as the lists say it.
module _ {F : Family} {A B : List ℕ} (K : WithStretches F A B) (i k : ℕ) (a : i < region_count F) (b : k < region_count F) where
  pub same_read : same_ends A B i k ≡ true → SameStretch F i k
  unfolding same_ends
  same_read e = (
    sym (K.firsts i a) ∙ (eqb-true (get_or A i 0) (get_or A k 0) (and_l (eqb (get_or A i 0) (get_or A k 0)) _ e) ∙ K.firsts k b),
    sym (K.lasts i a) ∙ (eqb-true (get_or B i 0) (get_or B k 0) (and_r (eqb (get_or A i 0) (get_or A k 0)) _ e) ∙ K.lasts k b),
  )

  pub other_read : same_ends A B i k ≡ false → SameStretch F i k → ⊥
  unfolding same_ends
  other_read e s =
      clash
      (and_both (eqb (get_or A i 0) (get_or A k 0)) (eqb (get_or B i 0) (get_or B k 0))
      (eq-eqb (get_or A i 0) (get_or A k 0) (K.firsts i a ∙ (s.0 ∙ sym (K.firsts k b))))
      (eq-eqb (get_or B i 0) (get_or B k 0) (K.lasts i a ∙ (s.1 ∙ sym (K.lasts k b)))))
      e

-- The weights of a region with a parent.
module _ {F : Family} {A B : List ℕ} (K : WithStretches F A B) (Z W : List ℕ) (k c : ℕ) (h : k < region_count F) (some : c ≡ 0 → ⊥) (p : IsParent F k c)
    (weights : WeighedBelow F Z W k) (s : 1 ≤ first_at F k) where
  parent_place : IsParent F k (suc (c - 1))
  parent_place = subst (IsParent F k) (omega arith) p

  parent_weights : Weighed F (c - 1) (get_or Z (c - 1) 0) (get_or W (c - 1) 0)
  parent_weights = weights (c - 1) (omega (arith, p.earlier)) (parent_some K.well_formed k h (c - 1) parent_place s)

  pub weigh_same : same_ends A B (c - 1) k ≡ true → Weighed F k (min (region F k).z (get_or Z (c - 1) 0)) (get_or W (c - 1) 0)
  weigh_same e = weighed_same K.well_formed k h (c - 1) parent_place s _ _ parent_weights (same_read K (c - 1) k (omega (arith, p.earlier)) h e)

  pub weigh_other : same_ends A B (c - 1) k ≡ false → Weighed F k (region F k).z (min (get_or Z (c - 1) 0) (get_or W (c - 1) 0))
  weigh_other e = weighed_other K.well_formed k h (c - 1) parent_place s _ _ parent_weights (other_read K (c - 1) k (omega (arith, p.earlier)) h e)

-- The cases of the bound.
module _ (A B T Z W : List ℕ) (c k : ℕ) where
  either : (b : Bool) → ◌≡◌ {A = ℕ} 0 (cond b 0 0)
  either true = refl
  either false = refl

  pub bound_none : get_or A k 0 ≡ 0 → 0 ≡ kept_bound A B T Z W c k
  unfolding kept_bound
  bound_none e = rw (eq-eqb (get_or A k 0) 0 e)

  pub bound_repeated : (not (eqb c 0) && same_ends A B (c - 1) k) ≡ true → 0 ≡ kept_bound A B T Z W c k
  unfolding kept_bound
  bound_repeated e = rw (or_r (eqb (get_or A k 0) 0) (not (eqb c 0) && same_ends A B (c - 1) k) e)

  dropped : (ltb (get_or Z k 0) (get_or T k 0) && ltb (get_or Z k 0) (get_or W k 0)) ≡ false → 0 ≡ kept_bound A B T Z W c k
  unfolding kept_bound
  dropped e = rw e (either (eqb (get_or A k 0) 0 || (not (eqb c 0) && same_ends A B (c - 1) k)))

  pub bound_kept : (get_or A k 0 ≡ 0 → ⊥) → (not (eqb c 0) && same_ends A B (c - 1) k) ≡ false → get_or Z k 0 < get_or T k 0 → get_or Z k 0 < get_or W k 0
      → get_or Z k 0 ≡ kept_bound A B T Z W c k
  unfolding kept_bound
  bound_kept a r t w = rw (ne_eqb (get_or A k 0) 0 a, r, lt-ltb (get_or Z k 0) (get_or T k 0) t, lt-ltb (get_or Z k 0) (get_or W k 0) w)

-- What the bound means.
module _ {F : Family} {A B : List ℕ} (T Z W : List ℕ) (K : WithStretches F A B) (totals : TotalsBelow F T) (weights : WeighedBelow F Z W (region_count F))
    (c k : ℕ) (h : k < region_count F) (n : NextStretch F (suc k) c) (fits : get_or T k 0 ≤ 65535) where
  -- the next region with a stretch
  next_place : (j : ℕ) → c ≡ suc j → c - 1 ≡ j
  next_place j e = omega arith

  repeats : (j : ℕ) → c ≡ suc j → same_ends A B (c - 1) k ≡ true → SameStretch F j k
  repeats j e s = same_read K j k (n.later j e).1 h (subst (λ (i : ℕ). same_ends A B i k ≡ true) (next_place j e) s)

  differs : (j : ℕ) → c ≡ suc j → same_ends A B (c - 1) k ≡ false → SameStretch F j k → ⊥
  differs j e s = other_read K j k (n.later j e).1 h (subst (λ (i : ℕ). same_ends A B i k ≡ false) (next_place j e) s)

  before : (c ≡ 0 → ⊥) → c ≡ suc (c - 1)
  before d = omega arith

  is_inner : 1 ≤ first_at F k → (not (eqb c 0) && same_ends A B (c - 1) k) ≡ false → LastWithStretch F k
  is_inner s e = ⊎_elim first second (and_fails (not (eqb c 0)) (same_ends A B (c - 1) k) e)
    where
      first : not (eqb c 0) ≡ false → LastWithStretch F k
      first f = inner_last K.well_formed k c h s n (eqb-true c 0 (not-false (eqb c 0) f))

      second : same_ends A B (c - 1) k ≡ false → LastWithStretch F k
      second f =
          ⊎_elim
          (λ z. inner_last K.well_formed k c h s n (eqb-true c 0 z))
          (λ z. let q = before (eqb-false c 0 z) in inner_other K.well_formed k c h s n (c - 1) q (differs (c - 1) q f))
          (test (eqb c 0))

  is_outer : 1 ≤ first_at F k → (not (eqb c 0) && same_ends A B (c - 1) k) ≡ true → LastWithStretch F k → ⊥
  is_outer s e =
      let q = before (λ z. clash (and_l (not (eqb c 0)) (same_ends A B (c - 1) k) e) (ap not (eq-eqb c 0 z))) in
      not_inner K.well_formed k c h s n (c - 1) q (repeats (c - 1) q (and_r (not (eqb c 0)) (same_ends A B (c - 1) k) e))

  -- it is that of a kept stretch, or 0
  data Cases : Type 0 where
    none_kept : kept_bound A B T Z W c k ≡ 0 → ((x : ℕ) → Keeps F k x → ⊥) → Cases
    kept : Keeps F k (kept_bound A B T Z W c k) → ((x : ℕ) → Keeps F k x → kept_bound A B T Z W c k ≡ x) → Cases

  some_first : (get_or A k 0 ≡ 0 → ⊥) → 1 ≤ first_at F k
  some_first a = omega (arith, K.firsts k h)

  cases_some : (get_or A k 0 ≡ 0 → ⊥) → (not (eqb c 0) && same_ends A B (c - 1) k) ≡ false → Cases
  cases_some a r =
      let s = some_first a in
      let d = weights k h s in
      let t = totals k h in
      ⊎_elim
      (λ e.
      let lt = ltb-true (get_or Z k 0) (get_or T k 0) (and_l _ _ e) in
      let lw = ltb-true (get_or Z k 0) (get_or W k 0) (and_r (ltb (get_or Z k 0) (get_or T k 0)) _ e) in
      let is = bound_kept A B T Z W c k a r lt lw in
      kept (subst (Keeps F k) is (weighed_keeps d s (is_inner s r) lw (omega (arith, t)))) (λ x y. sym is ∙ sym (keeps_weighed y d).0))
      (λ e.
      none_kept (sym (dropped A B T Z W c k e))
      (λ x y.
      let q = keeps_weighed y d in
      let lt : get_or Z k 0 < get_or T k 0 = omega (arith, q.0, t, y.less) in
      clash (and_both _ _ (lt-ltb (get_or Z k 0) (get_or T k 0) lt) (lt-ltb (get_or Z k 0) (get_or W k 0) (q.1 (omega arith)))) e))
      (test (ltb (get_or Z k 0) (get_or T k 0) && ltb (get_or Z k 0) (get_or W k 0)))

  cases : Cases
  cases =
      ⊎_elim
      (λ a. none_kept (sym (bound_none A B T Z W c k (eqb-true (get_or A k 0) 0 a))) (λ x y. omega (arith, y.some, K.firsts k h, eqb-true (get_or A k 0) 0 a)))
      (λ a.
      ⊎_elim
      (λ r. none_kept (sym (bound_repeated A B T Z W c k r)) (λ x y. is_outer y.some r y.innermost))
      (cases_some (eqb-false (get_or A k 0) 0 a))
      (test (not (eqb c 0) && same_ends A B (c - 1) k)))
      (test (eqb (get_or A k 0) 0))

  pub bound_keeps : 1 ≤ kept_bound A B T Z W c k → Keeps F k (kept_bound A B T Z W c k)
  bound_keeps l = go cases
    where
      go : Cases → Keeps F k (kept_bound A B T Z W c k)
      go (none_kept e f) = absurd (omega arith)
      go (kept y f) = y

  pub keeps_bound : (x : ℕ) → Keeps F k x → kept_bound A B T Z W c k ≡ x
  keeps_bound x y = go cases
    where
      go : Cases → kept_bound A B T Z W c k ≡ x
      go (none_kept e f) = absurd (f x y)
      go (kept q f) = f x y

-- The marks, from the last region to the first.

pub marks_start : (F : Family) (C : List ℕ) (k : ℕ) → region_count F ≤ k → KeptMarked F C k
marks_start F C k h = record { kept = λ i l u. absurd (omega arith); every = λ i x l u. absurd (omega arith) }

pub next_start : (F : Family) (k : ℕ) → region_count F ≤ k → NextStretch F k 0
next_start F k h = record { none = λ e i l u. absurd (omega arith); later = λ j e. absurd (omega arith); first = λ j e. absurd (omega arith) }

module _ {F : Family} {A B : List ℕ} (K : WithStretches F A B) (c k : ℕ) (some : k ≡ 0 → ⊥) (h : k ≤ region_count F) (n : NextStretch F k c) where
  next_after : NextStretch F (suc (k - 1)) c
  next_after = subst (λ (i : ℕ). NextStretch F i c) (omega arith) n

  pub next_stretch : (get_or A (k - 1) 0 ≡ 0 → ⊥) → NextStretch F (k - 1) (k - 1 + 1)
  next_stretch a = subst (NextStretch F (k - 1)) (omega arith) (next_here F (k - 1) (omega arith) (omega (arith, K.firsts (k - 1) (omega arith))))

  pub next_same : get_or A (k - 1) 0 ≡ 0 → NextStretch F (k - 1) c
  next_same a = next_past F (k - 1) c (sym (K.firsts (k - 1) (omega arith)) ∙ a) next_after

  pub bound_marked_more : (T Z W C : List ℕ) (v : ℕ) → TotalsBelow F T → WeighedBelow F Z W (region_count F) → get_or T (k - 1) 0 ≤ 65535 → k ≤ length C → KeptMarked F C k
      → v ≡ kept_bound A B T Z W c (k - 1) → KeptMarked F (set C (k - 1) v) (k - 1)
  bound_marked_more T Z W C v totals weights fits room old e =
      let l : k - 1 < region_count F = omega arith in
      kept_marked_more F C (k - 1) v (omega arith) (subst (KeptMarked F C) (omega arith) old)
      (λ s. rw e (bound_keeps T Z W K totals weights c (k - 1) l next_after fits (rw e at s)))
      (λ x y. e ∙ keeps_bound T Z W K totals weights c (k - 1) l next_after fits x y)
