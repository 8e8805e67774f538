-- A well-formed family, as plain facts. A file is accepted exactly when it is the file of a well-formed family.
use Rattle.std.specs.Prelude.{ℕ, suc, ◌*◌, ◌-◌, ◌<◌, ◌≤◌, List, ◌⊎◌, ◌≡◌, length, get_or}
use Rattle.reader.specs.Lists.{sum}
use Rattle.reader.specs.Family.{Family, leaves, region_count, region}
use Rattle.reader.specs.Nesting.{regions_around}

-- Every region lies on the leaves, and the regions stand by first leaf rising and, at equal first leaf, by last leaf falling.
pub record Ordered (F : Family) : Type 0 where
  pub first_some : (k : ℕ) → k < region_count F → 1 ≤ (region F k).first
  pub first_last : (k : ℕ) → k < region_count F → (region F k).first ≤ (region F k).last
  pub last_leaf : (k : ℕ) → k < region_count F → (region F k).last ≤ leaves F
  pub rising : (i j : ℕ) → i < j → j < region_count F → (region F i).first ≤ (region F j).first
  pub falling : (i j : ℕ) → i < j → j < region_count F → (region F i).first ≡ (region F j).first → (region F j).last < (region F i).last

-- Of any two of the first n regions the later one lies after the earlier one or inside it.
abbrev pub NestedBelow : Family → ℕ → Type 0
NestedBelow F n = (i j : ℕ) → i < j → j < n → ((region F i).last < (region F j).first) ⊎ ((region F j).last ≤ (region F i).last)

pub record WellFormed (F : Family) : Type 0 where
  pub peptides_some : 1 ≤ F.peptides
  pub peptides_most : F.peptides ≤ 4096
  pub leaves_some : 1 ≤ leaves F
  pub leaves_most : leaves F ≤ 4096
  pub regions_most : region_count F ≤ 2 * leaves F - 1
  pub lengths_sum : sum F.lengths ≡ F.peptides
  pub ordered : Ordered F
  pub nested : NestedBelow F (region_count F)
  pub shallow : (k : ℕ) → k < region_count F → regions_around F k ≤ 63
  pub z_fits : (k : ℕ) → k < region_count F → (region F k).z < 65536

-- The two families have the same m, the same leaf lengths and the same leaf ranges; their z may differ.
pub record SameRanges (F G : Family) : Type 0 where
  pub peptides : G.peptides ≡ F.peptides
  pub lengths : G.lengths ≡ F.lengths
  pub regions : region_count G ≡ region_count F
  pub first : (k : ℕ) → k < region_count F → (region G k).first ≡ (region F k).first
  pub last : (k : ℕ) → k < region_count F → (region G k).last ≡ (region F k).last

-- c is the number, counted from 1, of the region just around the k-th one, or 0 where none is around it.
-- In file order what is around a region stands before it and ends with it or later.
pub record IsParent (F : Family) (k c : ℕ) : Type 0 where
  pub earlier : c ≤ k
  pub around : (j : ℕ) → c ≡ suc j → (region F k).last ≤ (region F j).last
  pub innermost : (i : ℕ) → i < k → (region F k).last ≤ (region F i).last → (i < c) × ((region F (c - 1)).last ≤ (region F i).last)

-- the list holds the parents of the first n regions
abbrev pub ParentsBelow : Family → List ℕ → ℕ → Type 0
ParentsBelow F P n = (k : ℕ) → k < n → IsParent F k (get_or P k 0)

-- The regions are in order and nested, and the list holds the parent of each.
pub record Nested (F : Family) (P : List ℕ) : Type 0 where
  pub ordered : Ordered F
  pub nested : NestedBelow F (region_count F)
  pub known : ParentsBelow F P (region_count F)
  pub few : region_count F ≤ 8191
  pub room : region_count F ≤ length P
