-- Sets given by bytes: a peptide is in the set exactly if its byte is 1.
use Prim.Native.Nat.{ℕ, zero, suc, ◌+◌, ◌-◌, ◌≤◌, ◌<◌}
use mathlib.Core.Bool.{false}
use mathlib.Core.List.{List}
use mathlib.Core.Path.{◌≡◌, refl, sym, ◌∙◌, ap}
use native.Mathlib.Omega.{arith}
use lib.Dec.{eqb}
use lib.ListN.{length, get_or, get_or-eq_default}
use borrow.Author.Tests.{le-ltb}
use Rattle.reader.specs.Lists.{tabulate}
use Rattle.reader.proofs.Lists.{length_tabulate, get_d_tabulate}
use Rattle.reader.proofs.Below.{none_below}
use Rattle.bounds.specs.Ranges.{Peptides}
use Rattle.bounds.specs.Selections.{selected, cause14}
use Rattle.bounds.proofs.Basics.Members.{bit, eqb_bit, bit_few}
use Rattle.bounds.proofs.Basics.Counting.{SameSet}
use Rattle.bounds.proofs.Calls.Selecting.{over_one, right_selection}

module _ (X : List ℕ) where
  pub selected_none : false ≡ selected X 0
  unfolding selected
  selected_none = refl

  pub selected_at : (p : ℕ) → 1 ≤ p → selected X p ≡ eqb (get_or X (p - 1) 0) 1
  unfolding selected
  selected_at zero h = absurd (omega arith)
  selected_at (suc p) h = ap (λ (i : ℕ). eqb (get_or X i 0) 1) (omega arith)

  pub selected_past : (p : ℕ) → 1 ≤ p → length X ≤ p - 1 → false ≡ selected X p
  selected_past p h l = sym (selected_at p h ∙ ap (λ (x : ℕ). eqb x 1) (get_or-eq_default X 0 {n = p - 1} l))

-- The bytes of a set are a selection of it.

abbrev pub set_bytes : ℕ → Peptides → List ℕ
set_bytes m X = tabulate m (λ i. bit (X (i + 1)))

module _ (m : ℕ) (X : Peptides) where
  pub set_length : length (set_bytes m X) ≡ m
  set_length = length_tabulate m (λ i. bit (X (i + 1)))

  pub set_at : (i : ℕ) → i < m → get_or (set_bytes m X) i 0 ≡ bit (X (i + 1))
  set_at i h = get_d_tabulate m (λ i. bit (X (i + 1))) 0 i h

  pub set_selection : cause14 m (set_bytes m X) ≡ false
  set_selection =
      right_selection m (set_bytes m X) set_length
      (none_below (over_one (set_bytes m X)) (length (set_bytes m X))
      (λ i h. le-ltb 1 (get_or (set_bytes m X) i 0) (omega (arith, set_at i (omega (arith, set_length)), bit_few (X (i + 1))))))

  pub set_selected : SameSet m (selected (set_bytes m X)) X
  set_selected p l u =
      selected_at (set_bytes m X) p l
      ∙ ap (λ (x : ℕ). eqb x 1) (set_at (p - 1) (omega arith))
      ∙ eqb_bit (X (p - 1 + 1))
      ∙ ap X (omega arith)
