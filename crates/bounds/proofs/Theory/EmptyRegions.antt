-- A region none of whose leaves has a peptide: it holds none, its inside total is 0, and it is never taken.
use Prim.Native.Nat.{ℕ, zero, suc, ◌+◌, ◌-◌, ◌≤◌, ◌<◌}
use mathlib.Core.Bool.{false}
use mathlib.Core.List.{List}
use mathlib.Core.Path.{◌≡◌, ap}
use native.Mathlib.Omega.{arith}
use borrow.Author.Tests.{ltb-true, leb-true}
use lib.Dec.{leb, ltb}
use Rattle.reader.specs.Family.{Region, Family, leaf_length, peptides_up_to, EmptyRegion}
use Rattle.bounds.specs.Ranges.{Range, Peptides, range_of, has, In}
use Rattle.bounds.specs.Bound.{total, is_taken}
use Rattle.bounds.proofs.Basics.Members.{clash, refuted, and_l, and_r}
use Rattle.bounds.proofs.Basics.Counting.{none, count_none}
use Rattle.bounds.proofs.Theory.Laminar.{Laminar, member_hosts}
use Rattle.bounds.proofs.Theory.Formula.{at_least}
use Rattle.bounds.proofs.Theory.Taken.{taken_facts}
use Rattle.reader.proofs.Walk.{up_to_leaf}

-- n empty leaves after leaf j add no peptide
empty_leaves_add : (F : Family) (n j : ℕ) → ((i : ℕ) → j < i → i ≤ j + n → leaf_length F i ≡ 0) → peptides_up_to F (j + n) ≡ peptides_up_to F j
empty_leaves_add F zero j h = ap (peptides_up_to F) (omega arith)
empty_leaves_add F (suc n) j h =
    let next : j + suc n ≡ j + n + 1 = omega arith in
    omega (
      arith,
      ap (peptides_up_to F) next,
      up_to_leaf F (j + n),
      h (j + n + 1) (omega arith) (omega arith),
      empty_leaves_add F n j (λ i l u. h i l (omega arith)),
    )

pub empty_holds_none : (F : Family) (r : Region) → 1 ≤ r.first → r.first ≤ r.last → EmptyRegion F r → (p : ℕ) → has (range_of F r) p ≡ false
unfolding has range_of
empty_holds_none F r some order h p =
    let low = r.first - 1 in
    let last : low + (r.last - low) ≡ r.last = omega arith in
    let same = empty_leaves_add F (r.last - low) low (λ i l u. h i (omega arith) (omega arith)) in
    refuted _
    (λ e.
    omega (
      arith,
      ap (peptides_up_to F) last,
      ltb-true (peptides_up_to F low) p (and_l _ (leb p (peptides_up_to F r.last)) e),
      leb-true p (peptides_up_to F r.last) (and_r (ltb (peptides_up_to F low) p) _ e),
    ))

module _ {m : ℕ} {R : List Range} (l : Laminar m R) (r : Range) (i : In r R) (empty : (p : ℕ) → has r p ≡ false) (S : Peptides) where
  -- the set without a peptide has all that is selected in r
  empty_total : total m R S r ≤ 0
  empty_total = rw (count_none m r) at (at_least l S none r (member_hosts l r i) (λ p a b h e. absurd (clash (and_l (has r p) (S p) h) (empty p))))

  pub empty_not_taken : is_taken m R S r ≡ false
  empty_not_taken = refuted (is_taken m R S r) (λ e. omega (arith, (taken_facts m R S r e).over, empty_total))
