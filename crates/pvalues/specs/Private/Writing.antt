-- What the private functions that write the family with new z promise each other.
use Rattle.std.specs.Prelude.{ℕ, List, get_or}
use Rattle.reader.specs.Lists.{tabulate}
use Rattle.reader.specs.Family.{Region, Family, region, region_count}

-- the k-th region, with its leaves and the k-th number of the list as z
abbrev pub with_bound : Family → List ℕ → ℕ → Region
with_bound F Z k = record { first = (region F k).first; last = (region F k).last; z = get_or Z k 0 }

-- the family with these z
unfoldable pub with_bounds : Family → List ℕ → Family
with_bounds F Z = record { peptides = F.peptides; lengths = F.lengths; regions = tabulate (region_count F) (with_bound F Z) }
