-- The z of a region, lowered along a list of peptides.
use Rattle.std.specs.Prelude.{ℕ, suc, ◌-◌, ◌≤◌, Bool, cond, List, [], ◌∷◌, ◌≡◌, length, get_or}
use Rattle.reader.specs.Family.{Family, region}
use Rattle.bounds.specs.Ranges.{range_at, has}
use Rattle.bounds.specs.Curves.{largest_up_to}
use Rattle.pvalues.specs.FromP.{million, gap, passes, z_of, region_p_values}
use Rattle.pvalues.specs.Private.Ordering.{p_value}

-- One step at a peptide with p-value p, in a region whose z is at most z so far and which has so many p-values left, this one
-- included: the largest z that passes with one less over it.
abbrev pub lower_at : ℕ → ℕ → ℕ → ℕ → ℕ
lower_at deviationSquared p left z = largest_up_to z (passes deviationSquared (gap p) (left - 1))

-- The z after all peptides of a list that the region has, in the order of the list.
unfoldable pub lower_along : ℕ → List ℕ → (ℕ → Bool) → ℕ → ℕ → List ℕ → ℕ
lower_along deviationSquared ps X z left [] = z
lower_along deviationSquared ps X z left (i ∷ order) =
    cond (X i) (lower_along deviationSquared ps X (lower_at deviationSquared (p_value ps i) left z) (left - 1) order)
    (lower_along deviationSquared ps X z left order)

-- the k-th region has the peptide with i others before it
abbrev pub has_at : Family → ℕ → ℕ → Bool
has_at F k i = has (range_at F k) (suc i)

-- how many peptides the k-th region has
abbrev pub size_at : Family → ℕ → ℕ
size_at F k = (range_at F k).high - (range_at F k).low

-- the z of the k-th region
abbrev pub z_at : Family → List ℕ → ℕ → ℕ → ℕ
z_at F ps deviationSquared k = z_of deviationSquared (region_p_values F ps (region F k))

-- the p-values and the constant are as they should be
pub record PValues (F : Family) (ps : List ℕ) (deviationSquared : ℕ) : Type 0 where
  pub values : length ps ≡ F.peptides
  pub most : (i : ℕ) → get_or ps i 0 ≤ million
  pub constant : deviationSquared ≤ 100000000
