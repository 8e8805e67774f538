-- The z of a region is what is left when its number of peptides is lowered along the peptides by rising p-value.
--   lowered_is_z     for any region, given by the peptides that it has
--   region_counted   a region's p-values that pass a test, counted by peptide
--   region_size      a region has as many p-values as peptides
--   size_most        these are at most all peptides
--   region_z         lowered_is_z for the k-th region of a family
use Prim.Native.Nat.{ℕ, ◌-◌, ◌<◌, ◌≤◌}
use mathlib.Core.Bool.{Bool, true, false, cond, ◌&&◌, and-true, and-false}
use mathlib.Core.List.{List, [], ◌∷◌}
use mathlib.Core.Logic.{inl, inr, ⊎_elim}
use mathlib.Core.Path.{◌≡◌, refl, sym, ap, ◌∙◌}
use native.Mathlib.Omega.{arith}
use lib.ListN.{length, drop, length-take, length-drop}
use lib.Dec.{eqb, ltb}
use borrow.Author.Tests.{eqb-true, eq-eqb, lt-ltb, le-ltb}
use Rattle.reader.specs.Lists.{count_below}
use Rattle.reader.specs.Family.{Family, region_count, region}
use Rattle.reader.specs.WellFormed.{WellFormed}
use Rattle.sorting.proofs.Those.{those_all, those_first}
use Rattle.sorting.proofs.ByKey.{Rising}
use Rattle.bounds.specs.Ranges.{In, range_of, range_at, those}
use Rattle.bounds.specs.Curves.{largest_up_to}
use Rattle.bounds.proofs.Basics.Members.{test, both_ways, le_or_lt, and_l, and_r, and_both, bit, in_those, those_same}
use Rattle.bounds.proofs.Walking.Steps.{largest_same}
use Rattle.bounds.proofs.Theory.Family.{leaf_most}
use Rattle.pvalues.specs.FromP.{million, gap, over, passes, passes_at, thresholds, every, z_of, region_p_values}
use Rattle.pvalues.specs.Private.Ordering.{p_value, InOrder}
use Rattle.pvalues.specs.Private.Lowering.{lower_along, has_at, size_at, z_at, PValues}
use Rattle.pvalues.proofs.Theory.Passing.{passes_zero, passes_top, passes_few, passes_gap, passes_over, passes_down}
use Rattle.pvalues.proofs.Theory.Largest.{largest_here, largest_twice}
use Rattle.pvalues.proofs.Theory.Counted.{those_fewer, some_those, those_some, part_counted}
use Rattle.pvalues.proofs.Theory.ZLaws.{every_at, every_holds}

module _ (C : ℕ) (ps : List ℕ) (X : ℕ → Bool) where
  -- v passes at each peptide of a list that the region has, with as many over the threshold as the region has left after it
  pass_along : ℕ → List ℕ → ℕ → Bool
  pass_along left [] v = true
  pass_along left (i ∷ order) v =
      cond (X i) (passes C (gap (p_value ps i)) (left - 1) v && pass_along (left - 1) order v) (pass_along left order v)

  along_zero : (left : ℕ) (order : List ℕ) → pass_along left order 0 ≡ true
  unfolding pass_along
  along_zero left [] = refl
  along_zero left (i ∷ order) =
      ⊎_elim
      (λ e. rw e (and_both _ _ (passes_zero C (gap (p_value ps i)) (left - 1)) (along_zero (left - 1) order)))
      (λ e. rw e (along_zero left order))
      (test (X i))

  -- lowered along the peptides, z becomes the largest that passes at each
  lower_is : (z left : ℕ) (order : List ℕ) → lower_along C ps X z left order ≡ largest_up_to z (pass_along left order)
  unfolding lower_along pass_along
  lower_is z left [] = sym (largest_here z (λ v. true) refl)
  lower_is z left (i ∷ order) =
      ⊎_elim
      (λ (e : X i ≡ true).
      let here : ℕ → Bool = passes C (gap (p_value ps i)) (left - 1) in
      rw (e, lower_is (largest_up_to z here) (left - 1) order, largest_twice z here (pass_along (left - 1) order) (passes_zero C (gap (p_value ps i)) (left - 1)) (along_zero (left - 1) order) (λ u v. passes_down C (gap (p_value ps i)) (left - 1) v u))
      (largest_same (λ v. here v && pass_along (left - 1) order v) (pass_along left (i ∷ order)) z (λ v l. rw e)))
      (λ (e : X i ≡ false). rw (e, lower_is z left order) (largest_same (pass_along left order) (pass_along left (i ∷ order)) z (λ v l. rw e)))
      (test (X i))

  -- the region has the peptide, and its p-value is over t
  abbrev over_in : ℕ → ℕ → Bool
  over_in t i = X i && ltb t (p_value ps i)

  not_counted : (t i : ℕ) (order : List ℕ) → over_in t i ≡ false → length (those (over_in t) (i ∷ order)) ≡ length (those (over_in t) order)
  not_counted t i order h = omega (arith, those_first (over_in t) i order, ap bit h)

  not_over : (t i : ℕ) → p_value ps i ≤ t → over_in t i ≡ false
  not_over t i h = rw (le-ltb t (p_value ps i) h) (and-false (X i))

  all_over : (t : ℕ) (order : List ℕ) → ((i : ℕ) → In i order → t < p_value ps i) → length (those (over_in t) order) ≡ length (those X order)
  all_over t order h = ap length (those_same (over_in t) X order (λ i m. rw (lt-ltb t (p_value ps i) (h i m)) (and-true (X i))))

  -- how many are left after the first
  left_with : (left i : ℕ) (order : List ℕ) → left ≡ length (those X (i ∷ order)) → X i ≡ true → left - 1 ≡ length (those X order)
  left_with left i order e x = omega (arith, those_first X i order, ap bit x)

  left_without : (left i : ℕ) (order : List ℕ) → left ≡ length (those X (i ∷ order)) → X i ≡ false → left ≡ length (those X order)
  left_without left i order e x = omega (arith, those_first X i order, ap bit x)

  -- What passes at each peptide passes at every threshold t. While t is under the p-values all that are left are over it; from then on
  -- the last peptide that is not over t had a larger gap.
  along_at : (t v left : ℕ) (order : List ℕ) → left ≡ length (those X order) → Rising (p_value ps) order → passes C (gap t) left v ≡ true
      → pass_along left order v ≡ true → passes C (gap t) (length (those (over_in t) order)) v ≡ true
  unfolding pass_along those gap
  along_at t v left [] e r h a = rw e at h
  along_at t v left (i ∷ order) e r h a =
      ⊎_elim
      (λ (x : X i ≡ true).
      let here : Bool = passes C (gap (p_value ps i)) (left - 1) v in
      let later : Bool = pass_along (left - 1) order v in
      let both : here && later ≡ true = rw x at a in
      ⊎_elim
      (λ (l : p_value ps i ≤ t).
      rw (not_counted t i order (not_over t i l))
      (along_at t v (left - 1) order (left_with left i order e x) r.1
      (passes_gap C (gap (p_value ps i)) (left - 1) v (gap t) (omega arith) (and_l here later both))
      (and_r here later both)))
      (λ (l : t < p_value ps i). rw (all_over t (i ∷ order) (λ j m. ⊎_elim (λ s. rw s l) (λ k. omega (arith, r.0 j k)) m), ← e) h)
      (le_or_lt (p_value ps i) t))
      (λ (x : X i ≡ false). rw (not_counted t i order (rw x)) (along_at t v left order (left_without left i order e x) r.1 h (rw x at a)))
      (test (X i))

  -- What passes at each of the region's p-values passes along the list: there no fewer are left than are over the threshold.
  along_from : (v left : ℕ) (order : List ℕ) → left ≡ length (those X order) → Rising (p_value ps) order
      → ((i : ℕ) → In i order → X i ≡ true → passes C (gap (p_value ps i)) (length (those (over_in (p_value ps i)) order)) v ≡ true)
      → pass_along left order v ≡ true
  unfolding pass_along
  along_from v left [] e r h = refl
  along_from v left (i ∷ order) e r h =
      let rest : (j : ℕ) → In j order → X j ≡ true → passes C (gap (p_value ps j)) (length (those (over_in (p_value ps j)) order)) v ≡ true =
      λ j m x. rw (not_counted (p_value ps j) i order (not_over (p_value ps j) i (r.0 j m))) at (h j (inr m) x) in
      ⊎_elim
      (λ (x : X i ≡ true).
      let p = p_value ps i in
      let here : passes C (gap p) (length (those (over_in p) order)) v ≡ true = rw (not_counted p i order (not_over p i (omega arith))) at (h i (inl refl) x) in
      let few : length (those (over_in p) order) ≤ left - 1 =
      omega (arith, left_with left i order e x, those_fewer (over_in p) X order (λ j m o. and_l (X j) (ltb p (p_value ps j)) o)) in
      rw x
      (and_both (passes C (gap p) (left - 1) v) (pass_along (left - 1) order v) (passes_over C (gap p) (length (those (over_in p) order)) v (left - 1) few here)
      (along_from v (left - 1) order (left_with left i order e x) r.1 rest)))
      (λ (x : X i ≡ false). rw x (along_from v left order (left_without left i order e x) r.1 rest))
      (test (X i))

-- rs are the p-values of those peptides of the list that the region has
module _ (C : ℕ) (ps order : List ℕ) (X : ℕ → Bool) (rs : List ℕ) (rising : Rising (p_value ps) order)
    (counted : (f : ℕ → Bool) → length (those f rs) ≡ length (those (λ i. X i && f (p_value ps i)) order)) where
  all_counted : length rs ≡ length (those X order)
  all_counted =
      ap length (sym (those_all (λ p. true) rs (λ p i. refl)))
      ∙ counted (λ p. true)
      ∙ ap length (those_same (λ i. X i && true) X order (λ i m. and-true (X i)))

  -- each p-value of the region is listed
  listed : (i : ℕ) → In i order → X i ≡ true → In (p_value ps i) rs
  listed i m x =
      let p = p_value ps i in
      let one = some_those (λ j. X j && eqb p (p_value ps j)) i order m (and_both (X i) (eqb p p) x (eq-eqb p p refl)) in
      let f = those_some (eqb p) rs (omega (arith, counted (eqb p))) in
      rw (eqb-true p f.it f.passes) f.member

  same_tests : (v : ℕ) → v ≤ length rs → pass_along C ps X (length rs) order v ≡ every (λ t. passes_at C rs t v) (thresholds rs)
  unfolding passes_at over gap thresholds
  same_tests v few = both_ways (pass_along C ps X (length rs) order v) (every (λ t. passes_at C rs t v) (thresholds rs)) there back
    where
      there : pass_along C ps X (length rs) order v ≡ true → every (λ t. passes_at C rs t v) (thresholds rs) ≡ true
      there a =
          every_holds (λ t. passes_at C rs t v) (thresholds rs)
          (λ t i. rw (counted (ltb t)) (along_at C ps X t v (length rs) order all_counted rising (passes_few C (gap t) (length rs) v (omega arith) few) a))

      back : every (λ t. passes_at C rs t v) (thresholds rs) ≡ true → pass_along C ps X (length rs) order v ≡ true
      back all = along_from C ps X v (length rs) order all_counted rising at
        where
          at : (i : ℕ) → In i order → X i ≡ true → passes C (gap (p_value ps i)) (length (those (over_in C ps X (p_value ps i)) order)) v ≡ true
          at i m x =
              let p = p_value ps i in
              ⊎_elim
              (passes_top C (length (those (over_in C ps X p) order)) v p)
              (λ l.
              rw (counted (ltb p)) at
              (every_at (λ t. passes_at C rs t v) (thresholds rs) all p (inr (in_those (λ q. ltb q million) rs p (listed i m x) (lt-ltb p million l)))))
              (le_or_lt million p)

  lowered_is : lower_along C ps X (length rs) (length rs) order ≡ z_of C rs
  unfolding z_of
  lowered_is =
      lower_is C ps X (length rs) (length rs) order
      ∙ largest_same (pass_along C ps X (length rs) order) (λ v. every (λ t. passes_at C rs t v) (thresholds rs)) (length rs) same_tests

pub lowered_is_z : (C : ℕ) (ps order : List ℕ) (X : ℕ → Bool) (rs : List ℕ) → InOrder ps order
    → ((f : ℕ → Bool) → length (those f rs) ≡ count_below (length ps) (λ i. X i && f (p_value ps i)))
    → lower_along C ps X (length rs) (length rs) order ≡ z_of C rs
lowered_is_z C ps order X rs o counted = lowered_is C ps order X rs o.rising (λ f. counted f ∙ sym (o.each (λ i. X i && f (p_value ps i))))

module _ {F : Family} (w : WellFormed F) (ps : List ℕ) (values : length ps ≡ F.peptides) (k : ℕ) (known : k < region_count F) where
  ends : (range_at F k).high ≤ length ps
  unfolding range_of
  ends = omega (arith, leaf_most w (region F k).last (w.ordered.last_leaf k known))

  pub region_counted : (f : ℕ → Bool) → length (those f (region_p_values F ps (region F k))) ≡ count_below (length ps) (λ i. has_at F k i && f (p_value ps i))
  unfolding region_p_values
  region_counted f = part_counted (range_at F k) f ps ends

  pub region_size : length (region_p_values F ps (region F k)) ≡ size_at F k
  unfolding region_p_values
  region_size =
      let r = range_at F k in
      omega (arith, length-take (r.high - r.low) (drop r.low ps), length-drop r.low ps, ends)

  pub size_most : size_at F k ≤ F.peptides
  size_most = omega (arith, ends)

pub region_z : {F : Family} {ps : List ℕ} {C : ℕ} {order : List ℕ} → WellFormed F → PValues F ps C → InOrder ps order → (k : ℕ) → k < region_count F
    → lower_along C ps (has_at F k) (size_at F k) (size_at F k) order ≡ z_at F ps C k
region_z {F} {ps} {C} {order} w p o k h =
    rw (region_size w ps p.values k h) at
    (lowered_is_z C ps order (has_at F k) (region_p_values F ps (region F k)) o (region_counted w ps p.values k h))
