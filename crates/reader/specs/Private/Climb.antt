-- What the private functions that judge a file and find the parents promise each other.
use Rattle.std.specs.Prelude.{ℕ, suc, ◌-◌, ◌<◌, ◌≤◌, Bool, false, not, cond, ◌&&◌, List, ◌++◌, ◌≡◌, length, get_or, eqb, ltb}
use Rattle.reader.specs.Family.{Family, family_of, region_count, region}
use Rattle.reader.specs.Causes.{cause9, first_cause, header_causes, listing_causes, arrangement_causes, file_causes}
use Rattle.reader.specs.WellFormed.{Ordered, NestedBelow, ParentsBelow}

-- what is known where the parent of the k-th region is looked for
pub record Climbing (F : Family) (P : List ℕ) (k : ℕ) : Type 0 where
  pub ordered : Ordered F
  pub nested : NestedBelow F k
  pub known : ParentsBelow F P k
  pub here : k < region_count F
  pub room : region_count F ≤ length P

-- c is the number of the innermost region before the k-th one that ends where the k-th begins or later; 0 if there is none
pub record Climbed (F : Family) (k c : ℕ) : Type 0 where
  pub earlier : c ≤ k
  pub reaches : (j : ℕ) → c ≡ suc j → (region F k).first ≤ (region F j).last
  pub innermost : (i : ℕ) → i < k → (region F k).first ≤ (region F i).last → (i < c) × ((region F (c - 1)).last ≤ (region F i).last)

-- the region with the number c, if there is one, ends before the leaf `last`
unfoldable pub ends_before : Family → ℕ → ℕ → Bool
ends_before F c last = not (eqb c 0) && ltb (region F (c - 1)).last last

pub record Filled (F : Family) (P : List ℕ) (crossing : Bool) : Type 0 where
  pub tested : crossing ≡ cause9 F
  pub parents : crossing ≡ false → ParentsBelow F P (region_count F)

-- one more than the depth of the region with the number c; 0 for none
unfoldable pub one_deeper : List ℕ → ℕ → ℕ
one_deeper D c = cond (eqb c 0) 0 (suc (get_or D (c - 1) 0))

-- none of the causes 1 to 7 holds
abbrev pub Listed : List ℕ → Type 0
Listed s = first_cause (header_causes s ++ listing_causes (family_of s)) ≡ 0

-- the first of the causes 8 to 10, and where none holds the parents in the list
pub record ArrangementJudged (F : Family) (P : List ℕ) (number : ℕ) : Type 0 where
  pub tested : number ≡ first_cause (arrangement_causes F)
  pub parents : number ≡ 0 → ParentsBelow F P (region_count F)

-- the first cause of a file, and the parents of an accepted family in the list
pub record Judged (s P : List ℕ) (number : ℕ) : Type 0 where
  pub tested : number ≡ first_cause (file_causes s)
  pub parents : number ≡ 0 → ParentsBelow (family_of s) P (region_count (family_of s))
