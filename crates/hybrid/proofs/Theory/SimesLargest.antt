-- The Simes bound is formula (3) for Simes's own regions: a walk that keeps each peptide that no full region has reaches it.
-- The region of k has the peptides that are not counted at k. It is full if k - 1 of its selected peptides are kept.
use Prim.Native.Nat.{ℕ, zero, suc, ◌*◌, ◌≤◌, ◌<◌}
use mathlib.Core.Bool.{Bool, true, not, ◌&&◌}
use mathlib.Core.List.{List}
use mathlib.Core.Logic.{◌≢◌, ⊎_elim}
use mathlib.Core.Path.{◌≡◌, refl}
use native.Mathlib.Nat.{eq-or-lt_of_le, mul-le-mul_left}
use native.Mathlib.Omega.{arith}
use lib.Dec.{leb}
use borrow.Author.Tests.{leb-true, leb-false, le-leb, ltb-true, lt-ltb, not-true}
use Rattle.bounds.specs.Ranges.{Peptides, card}
use Rattle.bounds.specs.Curves.{largest_up_to}
use Rattle.bounds.proofs.Basics.Members.{test, clash, le_or_lt, ands}
use Rattle.bounds.proofs.Basics.Counting.{Subset, none, card_most, card_mono, card_none, card_split, card_but_one, adding, adding_it, adding_old, adding_other}
use Rattle.bounds.proofs.Theory.CutTheorem.{largest_most, largest_passes, largest_is}
use Rattle.hybrid.specs.Hybrid.{p_value_of, counted_at, simes_at, simes, SimesAdmissible, IsSimesLargest}
use Rattle.hybrid.proofs.Theory.SimesLaws.{simes_least, simes_size, simes_holds}

subset_next : (n : ℕ) (X Y : Peptides) → Subset n X Y → (X (suc n) ≡ true → Y (suc n) ≡ true) → Subset (suc n) X Y
subset_next n X Y h last p l u e = ⊎_elim (λ is. rw is (last (rw is at e))) (λ less. h p l (omega arith) e) (eq-or-lt_of_le u)

module _ (m : ℕ) (ps : List ℕ) (level : ℕ) (S : Peptides) where
  -- the regions grow with k
  counted_before : (j k p : ℕ) → j ≤ k → counted_at m ps level k p ≡ true → counted_at m ps level j p ≡ true
  unfolding counted_at
  counted_before j k p h c = lt-ltb (level * j) _ (omega (arith, ltb-true (level * k) (p_value_of ps p * m) c, mul-le-mul_left level h))

  abbrev in_region : Peptides → ℕ → Peptides
  in_region A k p = (A p && S p) && not (counted_at m ps level k p)

  abbrev is_full : Peptides → ℕ → Bool
  is_full A k = leb k (suc (card m (in_region A k)))

  abbrev last_full : Peptides → ℕ
  last_full A = largest_up_to m (is_full A)

  last_is_full : (A : Peptides) → last_full A ≤ suc (card m (in_region A (last_full A)))
  last_is_full A = leb-true (last_full A) _ (largest_passes m (is_full A) (le-leb 0 (suc (card m (in_region A 0))) (omega arith)))

  -- a full region stays full
  last_grows : (q : ℕ) (A : Peptides) → last_full A ≤ last_full (adding q A)
  last_grows q A =
      let more = card_mono m (in_region A (last_full A)) (in_region (adding q A) (last_full A)) (λ p l u e. search (ands, adding_old)) in
      largest_is m (is_full (adding q A)) (last_full A) (largest_most m (is_full A)) (le-leb (last_full A) _ (omega (arith, last_is_full A)))

  -- a peptide that no full region has can be kept
  can_be_kept : (q : ℕ) (A : Peptides) → SimesAdmissible m ps level (λ p. A p && S p) → counted_at m ps level (last_full A) q ≡ true
      → SimesAdmissible m ps level (λ p. adding q A p && S p)
  can_be_kept q A few c k l u =
      let old = in_region A k in
      let new = in_region (adding q A) k in
      let other : (p : ℕ) → p ≢ q → new p ≡ true → old p ≡ true = λ p n e. rw (adding_other q A p n) at e in
      ⊎_elim
      (λ full.
      let free = counted_before k (last_full A) q (largest_is m (is_full A) k u full) c in
      omega (arith, few k l u, card_mono m new old (λ p a b e. other p (λ is. clash free (rw is at (not-true (counted_at m ps level k p) (search ands)))) e)))
      (λ room. omega (arith, leb-false k (suc (card m old)) room, card_but_one m q new old (λ p a b. other p)))
      (test (is_full A k))

  -- a walk over the peptides 1 to n
  record Walked (n : ℕ) : Type 0 where
    kept : Peptides
    admissible : SimesAdmissible m ps level (λ p. kept p && S p)
    all : Subset n (counted_at m ps level (last_full kept)) kept

  walked : (n : ℕ) → Walked n
  walked zero = record { kept = none; admissible = λ k l u. omega (arith, card_none m none (λ p a b. refl)); all = λ p l u. absurd (omega arith) }
  walked (suc n) =
      let w = walked n in
      let A = w.kept in
      let X = adding (suc n) A in
      let old : Subset n (counted_at m ps level (last_full X)) X = λ p l u e. adding_old (suc n) A p (w.all p l u (counted_before _ _ p (last_grows (suc n) A) e)) in
      ⊎_elim
      (λ c. record { kept = X; admissible = can_be_kept (suc n) A w.admissible c; all = subset_next n _ X old (λ e. adding_it (suc n) A) })
      (λ no. record { kept = A; admissible = w.admissible; all = subset_next n _ A w.all (λ e. absurd (clash e no)) })
      (test (counted_at m ps level (last_full A) (suc n)))

  -- at the last k whose region is full
  reaches : (w : Walked m) → 0 < m → simes m ps level S ≤ card m (λ p. (w.kept p && S p) && S p)
  unfolding simes_at
  reaches w l =
      let k = last_full w.kept in
      let counted : Peptides = counted_at m ps level k in
      let both : Peptides = λ p. (w.kept p && S p) && S p in
      let under = card_mono m (in_region w.kept k) (λ p. not (counted p) && both p) (λ p a b e. search ands) in
      let over = card_mono m (λ p. S p && counted p) (λ p. counted p && both p) (λ p a b e. search (ands, w.all p a b)) in
      let some = largest_is m (is_full w.kept) 1 l (le-leb 1 (suc (card m (in_region w.kept 1))) (omega arith)) in
      omega (arith, card_split m counted both, last_is_full w.kept, simes_least m ps level S k some (largest_most m (is_full w.kept)))

  pub simes_largest : IsSimesLargest m ps level S (simes m ps level S)
  simes_largest =
      let w = walked m in
      let most = simes_holds m ps level S (λ p. w.kept p && S p) w.admissible in
      record {
        witness = λ p. w.kept p && S p;
        admissible = w.admissible;
        reached = ⊎_elim (λ h. omega (arith, simes_size m ps level S, card_most m S)) (λ h. omega (arith, reaches w h)) (le_or_lt m 0);
        at_most = simes_holds m ps level S;
      }
