-- What the private functions that find the regions of each peptide, and lower their z, promise each other.
use Rattle.std.specs.Prelude.{ℕ, suc, ◌-◌, ◌<◌, ◌≤◌, cond, List, map, ◌≡◌, get_or}
use Rattle.reader.specs.Family.{Family, region_count, leaf_of}
use Rattle.reader.specs.WellFormed.{WellFormed, Nested}
use Rattle.bounds.specs.Holding.{holds_leaf, LastAmong, LastHolding}
use Rattle.pvalues.specs.declared.lowering.Lowering.{Lowering}
use Rattle.pvalues.specs.Private.Lowering.{lower_at, size_at, z_at}

-- a family with its parents
pub record Parented (F : Family) (P : List ℕ) : Type 0 where
  pub well : WellFormed F
  pub nested : Nested F P

-- how many p-values are left in each region of a list, and its z so far
abbrev pub left_of_each : List Lowering → List ℕ
left_of_each R = map (λ (r : Lowering). r.left) R

abbrev pub z_of_each : List Lowering → List ℕ
z_of_each R = map (λ (r : Lowering). r.z) R

-- the list has at each peptide the number of the last of the first n regions that has it
abbrev pub LastOfFirst : Family → ℕ → List ℕ → Type 0
LastOfFirst F n T = (i : ℕ) → i < F.peptides → LastAmong F n (leaf_of F (suc i)) (get_or T i 0)

-- the list has the number of peptides of each of the first n regions
abbrev pub SizesOfFirst : Family → ℕ → List ℕ → Type 0
SizesOfFirst F n S = (k : ℕ) → k < n → get_or S k 0 ≡ size_at F k

-- the last region that has a peptide, which is the innermost one, and the number of peptides of each region, left and as its z
pub record Filled (F : Family) (T : List ℕ) (R : List Lowering) : Type 0 where
  pub innermost : LastOfFirst F (region_count F) T
  pub left : SizesOfFirst F (region_count F) (left_of_each R)
  pub z : SizesOfFirst F (region_count F) (z_of_each R)

-- c is the number of the last region that holds some leaf, in some family with these parents; the z of its regions are at most 4,096
pub record Climbable (P : List ℕ) (R : List Lowering) (c : ℕ) : Type 0 where
  pub family : Family
  pub nested : Nested family P
  pub leaf : ℕ
  pub last : LastHolding family leaf c
  pub small : (k : ℕ) → k < region_count family → get_or (z_of_each R) k 0 ≤ 4096

-- In every region that holds the leaf there is one p-value less left, and its z is lowered; the others are as they were.
pub record LoweredLists (F : Family) (leaf p deviationSquared : ℕ) (L Z L' Z' : List ℕ) : Type 0 where
  pub left : (k : ℕ) → k < region_count F → get_or L' k 0 ≡ cond (holds_leaf F leaf k) (get_or L k 0 - 1) (get_or L k 0)
  pub z : (k : ℕ) → k < region_count F → get_or Z' k 0 ≡ cond (holds_leaf F leaf k) (lower_at deviationSquared p (get_or L k 0) (get_or Z k 0)) (get_or Z k 0)

abbrev pub Lowered : Family → ℕ → ℕ → ℕ → List Lowering → List Lowering → Type 0
Lowered F leaf p deviationSquared R R' = LoweredLists F leaf p deviationSquared (left_of_each R) (z_of_each R) (left_of_each R') (z_of_each R')

-- the list has the z of each region
abbrev pub BoundsFound : Family → List ℕ → ℕ → List Lowering → Type 0
BoundsFound F ps deviationSquared R = (k : ℕ) → k < region_count F → get_or (z_of_each R) k 0 ≡ z_at F ps deviationSquared k
