-- What is known of a PHFL file while it is judged.
use Rattle.std.specs.Prelude.{ℕ, ◌<◌, false, List, map, ◌≡◌}
use Rattle.reader.specs.Lists.{In}
use Rattle.reader.specs.Family.{Family, region_count, region}
use Rattle.reader.specs.Causes.{first_cause, cause7, listing_causes}
use Rattle.levels.specs.Levels.{with_regions, listed_family}
use Rattle.levels.specs.Causes.{level_header_causes}

-- its header has no cause
abbrev pub Headed : List ℕ → Type 0
Headed s = first_cause (level_header_causes s) ≡ 0

-- its regions lie on its leaves
abbrev pub Placed : List ℕ → Type 0
Placed s = cause7 (listed_family s) ≡ false

-- what it lists has neither of the causes 6 and 7
abbrev pub Sound : List ℕ → Type 0
Sound s = first_cause (listing_causes (listed_family s)) ≡ 0

-- all of these are numbers of regions, counted from 0
abbrev pub Numbers : Family → List ℕ → Type 0
Numbers F ks = (k : ℕ) → In k ks → k < region_count F

-- the family with the regions of these numbers, in this order
unfoldable pub arranged : Family → List ℕ → Family
arranged F ks = with_regions F (map (region F) ks)
