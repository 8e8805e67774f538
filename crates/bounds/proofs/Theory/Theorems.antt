-- What holds of the bound and the taken regions, for every accepted family and every selection.
use Prim.Native.Nat.{ℕ, ◌+◌}
use mathlib.Core.Bool.{◌&&◌}
use mathlib.Core.List.{List}
use mathlib.Core.Path.{◌≡◌}
use Rattle.reader.specs.Bytes.{IsBytes}
use Rattle.reader.specs.Family.{family_of}
use Rattle.reader.specs.Causes.{Accepted}
use Rattle.bounds.specs.Ranges.{Range, card, count, those, sum_over, parts, outside, ranges_of}
use Rattle.bounds.specs.Bound.{total, value, is_taken, IsLargest}
use Rattle.bounds.specs.Selections.{selected, bound_of}
use Rattle.bounds.proofs.Theory.Totals.{total_is}
use Rattle.bounds.proofs.Theory.Formula.{formula3}
use Rattle.bounds.proofs.Theory.Taken.{taken_bound}
use Rattle.bounds.proofs.Theory.Family.{accepted_laminar}

module _ (file : List ℕ) (bytes : IsBytes file) (accepted : Accepted file) (selection : List ℕ) where
  -- The bound of a selection is the largest count of it in any admissible set: formula (3).
  pub bound_is_largest : IsLargest (family_of file).peptides (ranges_of (family_of file)) (selected selection) (bound_of (family_of file) selection)
  unfolding bound_of
  bound_is_largest = formula3 (accepted_laminar file bytes accepted) (selected selection)

  -- The z of the taken regions, plus the selected peptides in none of them, add up to the bound.
  pub taken_add_up :
      let m : ℕ = (family_of file).peptides in
      let R : List Range = ranges_of (family_of file) in
      let taken : List Range = those (is_taken m R (selected selection)) R in
      bound_of (family_of file) selection ≡ sum_over (λ r. r.z) taken + card m (λ p. outside taken p && selected selection p)
  unfolding bound_of
  taken_add_up = taken_bound (accepted_laminar file bytes accepted) (selected selection)

-- The inside total of a region is the sum of the values of the regions just inside it, plus its selected peptides in none of them.
pub inside_total :
    (file selection : List ℕ) (r : Range)
    → let m : ℕ = (family_of file).peptides in
    let R : List Range = ranges_of (family_of file) in
    total m R (selected selection) r
    ≡ sum_over (value m R (selected selection)) (parts R r) + count m (λ p. outside (parts R r) p && selected selection p) r
inside_total file selection r = total_is (family_of file).peptides (ranges_of (family_of file)) (selected selection) r
