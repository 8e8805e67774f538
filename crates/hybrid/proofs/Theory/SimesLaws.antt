-- The Simes bound of a selection.
--   simes_is           it is the least over k from 1 to m, of an empty selection too
--   simes_least        it is at most k - 1 plus the selected peptides that are counted at k, for each k from 1 to m
--   simes_reached      at one of these k it is that number
--   simes_size         it is at most the number of selected peptides
--   simes_none         of an empty selection it is 0
--   simes_under        where no p-value times m is over the level it is 0
--   simes_few          k from 1 to a number that is no smaller than the selection suffice
--   simes_mono         a larger selection has no smaller one
--   simes_same         selections that are the same on 1 to m have the same
--   simes_level        with a larger level it is no larger
--   simes_raised       with larger p-values it is no smaller
--   simes_but_one      a selection of which all peptides but one are in another has at most one more
--   simes_one_more     so has the other selection with one more peptide
--   simes_holds        a set that has at most k - 1 of the peptides not counted at k, for each k, has no more of the selection
use Prim.Native.Nat.{ℕ, zero, suc, ◌+◌, ◌-◌, ◌*◌, ◌≤◌, ◌<◌}
use mathlib.Core.Bool.{true, not, ◌&&◌, and-false}
use mathlib.Core.List.{List}
use mathlib.Core.Logic.{◌≢◌, ⊎_elim}
use mathlib.Core.Path.{◌≡◌, sym, ◌∙◌}
use native.Mathlib.Nat.{mul-le-mul_right}
use native.Mathlib.Omega.{arith}
use lib.ListN.{get_or}
use lib.Dec.{eqb}
use borrow.Author.Tests.{ltb-true, lt-ltb, le-ltb, eqb-true}
use Rattle.bounds.specs.Ranges.{Peptides, card}
use Rattle.bounds.proofs.Basics.Members.{test, le_or_lt, ands}
use Rattle.bounds.proofs.Basics.Counting.{Subset, SameSet, card_mono, card_most, card_none, card_split, card_but_one, adding, adding_other}
use Rattle.hybrid.specs.Hybrid.{p_value_of, counted_at, simes_at, least_up_to, simes, SimesAdmissible}
use Rattle.hybrid.proofs.Theory.Least.{Reached, least_most, least_reached, least_is, least_mono}

module _ (m : ℕ) (ps : List ℕ) (level : ℕ) (S : Peptides) where
  least_few : (n : ℕ) → least_up_to n (simes_at m ps level S) ≤ card m S
  unfolding least_up_to simes_at
  least_few zero = omega arith
  least_few (suc n) =
      let counted = card_mono m (λ p. S p && counted_at m ps level 1 p) S (λ p l u e. search ands) in
      omega (arith, least_most (suc n) (simes_at m ps level S) 1 (omega arith) (omega arith))

  pub simes_is : simes m ps level S ≡ least_up_to m (simes_at m ps level S)
  unfolding simes
  simes_is =
      ⊎_elim
      (λ t. rw t (omega (arith, eqb-true (card m S) 0 t, least_few m)))
      (λ f. rw f)
      (test (eqb (card m S) 0))

  pub simes_least : (k : ℕ) → 0 < k → k ≤ m → simes m ps level S ≤ simes_at m ps level S k
  simes_least k l u = omega (arith, simes_is, least_most m (simes_at m ps level S) k l u)

  pub simes_reached : 0 < m → Reached m (simes_at m ps level S) (simes m ps level S)
  simes_reached l = rw simes_is (least_reached m (simes_at m ps level S) l)

  pub simes_size : simes m ps level S ≤ card m S
  simes_size = omega (arith, simes_is, least_few m)

  pub simes_none : card m S ≡ 0 → simes m ps level S ≡ 0
  simes_none e = omega (arith, simes_size)

  pub simes_under : ((i : ℕ) → get_or ps i 0 * m ≤ level) → simes m ps level S ≡ 0
  unfolding simes_at counted_at p_value_of
  simes_under small =
      let none = card_none m (λ p. S p && counted_at m ps level 1 p) (λ p l u. rw (le-ltb (level * 1) (get_or ps (p - 1) 0 * m) (omega (arith, small (p - 1)))) (and-false (S p))) in
      ⊎_elim (λ zero. omega (arith, simes_size, card_most m S)) (λ some. omega (arith, simes_least 1 (omega arith) some)) (le_or_lt m 0)

  pub simes_few : (n : ℕ) → 0 < n → n ≤ m → card m S ≤ n → least_up_to n (simes_at m ps level S) ≡ simes m ps level S
  unfolding simes_at
  simes_few n l u few =
      let f : ℕ → ℕ = simes_at m ps level S in
      let r = least_reached n f l in
      least_is m f (least_up_to n f)
      (λ k a b. ⊎_elim (λ h. least_most n f k a h) (λ h. omega (arith, least_few n)) (le_or_lt k n))
      (record { k = r.k; some = r.some; most = omega (arith, r.most); reaches = r.reaches })
      ∙ sym simes_is

-- each selected peptide that is counted is selected and counted in the other too
under : (m : ℕ) (ps qs : List ℕ) (level other : ℕ) (S X : Peptides)
    → ((k p : ℕ) → 0 < p → p ≤ m → S p ≡ true → counted_at m ps level k p ≡ true → (X p && counted_at m qs other k p) ≡ true)
    → simes m ps level S ≤ simes m qs other X
unfolding simes_at
under m ps qs level other S X h =
    let fewer : (k : ℕ) → 0 < k → k ≤ m → simes_at m ps level S k ≤ simes_at m qs other X k =
    λ k a b. omega (arith, card_mono m (λ p. S p && counted_at m ps level k p) (λ p. X p && counted_at m qs other k p) (λ p l u e. search (ands, h))) in
    omega (arith, simes_is m ps level S, simes_is m qs other X, least_mono m (simes_at m ps level S) (simes_at m qs other X) fewer)

module _ (m : ℕ) (ps : List ℕ) (level : ℕ) where
  pub simes_mono : (S X : Peptides) → Subset m S X → simes m ps level S ≤ simes m ps level X
  simes_mono S X h = under m ps ps level level S X (λ k p l u e c. search (ands, h))

  pub simes_same : (S X : Peptides) → SameSet m S X → simes m ps level S ≡ simes m ps level X
  simes_same S X h = omega (arith, simes_mono S X (λ p l u e. rw (h p l u) at e), simes_mono X S (λ p l u e. rw (h p l u) e))

  pub simes_but_one : (q : ℕ) (X S : Peptides) → ((p : ℕ) → 0 < p → p ≤ m → p ≢ q → X p ≡ true → S p ≡ true)
      → simes m ps level X ≤ simes m ps level S + 1
  unfolding simes_at
  simes_but_one q X S h = ⊎_elim (λ none. omega (arith, simes_size m ps level X, card_most m X)) some (le_or_lt m 0)
    where
      some : 0 < m → simes m ps level X ≤ simes m ps level S + 1
      some l =
          let r = simes_reached m ps level S l in
          let counted : Peptides = counted_at m ps level r.k in
          omega
          (arith, simes_least m ps level X r.k r.some r.most, card_but_one m q (λ p. X p && counted p) (λ p. S p && counted p) (λ p l u n e. search (ands, h p l u n)), r.reaches)

  pub simes_one_more : (q : ℕ) (S : Peptides) → simes m ps level (adding q S) ≤ simes m ps level S + 1
  simes_one_more q S = simes_but_one q (adding q S) S (λ p l u n e. rw (adding_other q S p n) at e)

  pub simes_level : (other : ℕ) (S : Peptides) → level ≤ other → simes m ps other S ≤ simes m ps level S
  unfolding counted_at
  simes_level other S h =
      under m ps ps other level S S
      (λ k p l u e c.
      let over : level * k < p_value_of ps p * m = omega (arith, ltb-true (other * k) (p_value_of ps p * m) c, mul-le-mul_right k h) in
      search (ands, lt-ltb))

  pub simes_raised : (qs : List ℕ) (S : Peptides) → ((i : ℕ) → get_or ps i 0 ≤ get_or qs i 0) → simes m ps level S ≤ simes m qs level S
  unfolding counted_at p_value_of
  simes_raised qs S h =
      under m ps qs level level S S
      (λ k p l u e c.
      let over : level * k < get_or qs (p - 1) 0 * m = omega (arith, ltb-true (level * k) (get_or ps (p - 1) 0 * m) c, mul-le-mul_right m (h (p - 1))) in
      search (ands, lt-ltb))

  -- Of the peptides of A in S at most k - 1 are not counted at k, and the others are counted.
  pub simes_holds : (S A : Peptides) → SimesAdmissible m ps level A → card m (λ p. A p && S p) ≤ simes m ps level S
  unfolding simes_at
  simes_holds S A h = ⊎_elim (λ none. omega (arith, card_most m (λ p. A p && S p))) some (le_or_lt m 0)
    where
      some : 0 < m → card m (λ p. A p && S p) ≤ simes m ps level S
      some l =
          let r = simes_reached m ps level S l in
          let counted : Peptides = counted_at m ps level r.k in
          let both : Peptides = λ p. A p && S p in
          let over = card_mono m (λ p. counted p && both p) (λ p. S p && counted p) (λ p l u e. search ands) in
          let under = card_mono m (λ p. not (counted p) && both p) (λ p. A p && not (counted p)) (λ p l u e. search ands) in
          omega (arith, card_split m counted both, h r.k r.some r.most, r.reaches)
