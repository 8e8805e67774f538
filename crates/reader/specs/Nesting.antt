-- How two regions lie to each other. Nesting is judged on leaf numbers.
use Rattle.std.specs.Prelude.{ℕ, Bool, not, ◌&&◌, ◌||◌, List, leb, ltb, eqb}
use Rattle.reader.specs.Lists.{tabulate, some_below, count_below, first_below}
use Rattle.reader.specs.Family.{Region, Family, region, region_count}

-- r comes before q in a file: by first leaf rising; at equal first leaf, by last leaf falling
unfoldable pub before : Region → Region → Bool
before r q = ltb r.first q.first || (eqb r.first q.first && ltb q.last r.last)

unfoldable pub share_leaf : Region → Region → Bool
share_leaf r q = leb r.first q.last && leb q.first r.last

-- every leaf of r is a leaf of q
unfoldable pub region_within : Region → Region → Bool
region_within r q = leb q.first r.first && leb r.last q.last

unfoldable pub crossing : Region → Region → Bool
crossing r q = share_leaf r q && not (region_within r q) && not (region_within q r)

-- r is strictly inside q, and q around r
unfoldable pub region_inside : Region → Region → Bool
region_inside r q = region_within r q && not (region_within q r)

-- how many regions are around the k-th one
abbrev pub regions_around : Family → ℕ → ℕ
regions_around F k = count_below (region_count F) (λ i. region_inside (region F k) (region F i))

-- r is strictly inside q, with none of the regions between them
unfoldable pub region_just_inside : Family → Region → Region → Bool
region_just_inside F r q = region_inside r q && not (some_below (region_count F) (λ t. region_inside r (region F t) && region_inside (region F t) q))

-- The parent of the k-th region: the region just around it, counted from 1; 0 if there is none.
unfoldable pub parent : Family → ℕ → ℕ
parent F k = first_below (region_count F) (λ q. region_just_inside F (region F k) (region F q))

unfoldable pub parents : Family → List ℕ
parents F = tabulate (region_count F) (parent F)
