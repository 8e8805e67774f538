-- What the private functions that judge a PHFL file promise each other.
use Rattle.std.specs.Prelude.{ℕ, ◌-◌, ◌<◌, ◌≤◌, List, ◌∷◌, ◌≡◌, length, get_or, take}
use Rattle.reader.specs.Family.{leaves, region_count, region, file_of, total_length}
use Rattle.reader.specs.Causes.{Cause, first_cause}
use Rattle.reader.specs.Calls.{short}
use Rattle.levels.specs.Levels.{level_of, listed_family, distinct, in_file_order, family_file_of}
use Rattle.levels.specs.Causes.{nesting_causes, place_causes}
use Rattle.levels.specs.Calls.{from_levels_causes}
use Rattle.levels.specs.Private.Listing.{Headed, Sound, arranged}
use Rattle.levels.specs.Private.Ordering.{distinct_order}

-- the order is that of the regions without repeats
pub record Distinct (s order : List ℕ) : Type 0 where
  pub headed : Headed s
  pub sound : Sound s
  pub order_is : order ≡ distinct_order (listed_family s)

-- r is the first of the causes 9 and 10 that holds; where none does, the list has the level of each region of the order, in the family
-- without repeats
pub record Nested (s order levels : List ℕ) (r : ℕ) : Type 0 where
  pub first : r ≡ first_cause (nesting_causes (listed_family s))
  pub leveled : r ≡ 0 → (i : ℕ) → i < length order → get_or levels i 0 ≡ level_of (distinct (listed_family s)) (region (listed_family s) (get_or order i 0))

-- what is tried after 9 and 10
unfoldable pub room_and_places : List ℕ → ℕ → List Cause
room_and_places s room = record { number = 16; holds = short (length s - 128) room } ∷ place_causes s

-- the buffer begins with the family file of the listed regions in this order
abbrev pub Plain : List ℕ → List ℕ → List ℕ → Type 0
Plain s order plain = take (total_length (leaves (listed_family s)) (length order)) plain ≡ file_of (arranged (listed_family s) order)

-- what is known where no cause holds: the buffer begins with the family file of what is listed
pub record Ready (s : List ℕ) (room : ℕ) (plain : List ℕ) : Type 0 where
  pub headed : Headed s
  pub fits : length s - 128 ≤ room
  pub plain_is : take (length s - 128) plain ≡ family_file_of s
  pub as_many : region_count (in_file_order (listed_family s)) ≡ region_count (listed_family s)

-- r is the first cause that holds
pub record ListedJudged (s : List ℕ) (room : ℕ) (plain : List ℕ) (r : ℕ) : Type 0 where
  pub first : r ≡ first_cause (from_levels_causes s room)
  pub done : r ≡ 0 → Ready s room plain

pub record FamilyJudged (s : List ℕ) (room : ℕ) (plain : List ℕ) (r : ℕ) : Type 0 where
  pub first_nesting : (first_cause (nesting_causes (listed_family s)) ≡ 0 → ⊥) → r ≡ first_cause (nesting_causes (listed_family s))
  pub first_place : first_cause (nesting_causes (listed_family s)) ≡ 0 → r ≡ first_cause (room_and_places s room)
  pub written : r ≡ 0 → Plain s (distinct_order (listed_family s)) plain
