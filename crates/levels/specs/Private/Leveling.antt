-- What the private functions that find the levels promise each other.
use Rattle.std.specs.Prelude.{ℕ, suc, ◌-◌, ◌<◌, ◌≤◌, cond, List, ◌≡◌, get_or, eqb}
use Rattle.reader.specs.Family.{Family, family_of, region_count, region}
use Rattle.reader.specs.Nesting.{regions_around}
use Rattle.reader.specs.WellFormed.{Nested}
use Rattle.reader.specs.Causes.{first_cause, file_causes}
use Rattle.levels.specs.Levels.{level_of}

-- one more than the level of the region of that number, from 1; 1 for none
unfoldable pub one_deeper : List ℕ → ℕ → ℕ
one_deeper L c = cond (eqb c 0) 1 (suc (get_or L (c - 1) 0))

-- the list has the levels of the first n regions
abbrev pub LevelsBelow : Family → List ℕ → ℕ → Type 0
LevelsBelow F L n = (k : ℕ) → k < n → get_or L k 0 ≡ level_of F (region F k)

-- what the levels are found from
pub record Parented (F : Family) (P : List ℕ) : Type 0 where
  pub nested : Nested F P
  pub shallow : (k : ℕ) → k < region_count F → regions_around F k ≤ 63

-- r is the number of the first cause of the family file that holds; where none does, the list has the levels
pub record Leveled (s L : List ℕ) (r : ℕ) : Type 0 where
  pub first : r ≡ first_cause (file_causes s)
  pub levels : r ≡ 0 → LevelsBelow (family_of s) L (region_count (family_of s))
