-- Why a PHFL file is refused: the causes 1 to 10 without 8, then 26 and 27, each over its whole input, in the order in which they are
-- tried. What a cause says is said once, for both layouts.
use Rattle.std.specs.Prelude.{ℕ, suc, ◌+◌, ◌-◌, Bool, not, ◌&&◌, ◌||◌, List, [], ◌∷◌, ◌++◌, ◌≡◌, get_or, take, eqb, ltb}
use Rattle.reader.specs.Lists.{sum, some_below}
use Rattle.reader.specs.Bytes.{IsBytes}
use Rattle.reader.specs.Family.{Region, Family, region_count, region}
use Rattle.reader.specs.Causes.{cause9, cause10, marked_causes, listing_causes, Cause, first_cause}
use Rattle.levels.specs.Levels.{level_of, level_mark, level_lengths_offset, listed_family, counts_in, distinct}

-- level counts not adding to K
unfoldable pub cause26 : List ℕ → ℕ → Bool
cause26 counts k = not (eqb (sum counts) k)

-- The counts put the regions of level 1 first, then those of level 2, and so on. Here h is how many levels come before this one, and i
-- how many regions before this one in its level.
unfoldable pub in_level : List ℕ → Family → ℕ → ℕ → Region
in_level counts F h i = region F (sum (take h counts) + i)

-- its level is not so, or its place in the level: its first leaf does not come after that of the region before it
unfoldable pub misleveled : List ℕ → Family → ℕ → ℕ → Bool
misleveled counts F h i =
    not (eqb (level_of F (in_level counts F h i)) (suc h))
    || (ltb 0 i && not (ltb (in_level counts F h (i - 1)).first (in_level counts F h i).first))

-- a region has the same leaves as an earlier one
unfoldable pub repeated : Family → Bool
repeated F = ltb (region_count (distinct F)) (region_count F)

-- a region whose level or place in the level is not so
unfoldable pub cause27 : List ℕ → Family → Bool
cause27 counts F = repeated F || some_below 64 (λ h. some_below (get_or counts h 0) (λ i. misleveled counts F h i))

-- what the header says
unfoldable pub level_header_causes : List ℕ → List Cause
level_header_causes s = marked_causes level_mark level_lengths_offset s

-- how the regions lie to each other, where one with the same leaves as an earlier one is left out
unfoldable pub nesting_causes : Family → List Cause
nesting_causes F = record { number = 9; holds = cause9 (distinct F) } ∷ record { number = 10; holds = cause10 (distinct F) } ∷ []

-- what the level counts say
unfoldable pub place_causes : List ℕ → List Cause
place_causes s =
    record { number = 26; holds = cause26 (counts_in s) (region_count (listed_family s)) }
    ∷ record { number = 27; holds = cause27 (counts_in s) (listed_family s) }
    ∷ []

-- what is tried before the level counts
unfoldable pub form_causes : List ℕ → List Cause
form_causes s = level_header_causes s ++ (listing_causes (listed_family s) ++ nesting_causes (listed_family s))

unfoldable pub level_file_causes : List ℕ → List Cause
level_file_causes s = form_causes s ++ place_causes s

-- none of them holds
abbrev pub AcceptedLevels : List ℕ → Type 0
AcceptedLevels s = first_cause (level_file_causes s) ≡ 0

-- bytes that are an accepted file by level
pub record AcceptedLevelFile : Type 0 where
  pub file : List ℕ
  pub bytes : IsBytes file
  pub accepted : AcceptedLevels file
