-- Families by level: the level of a region, the PHFL file of a family, the family that such a file lists, and this family in file order.
use Rattle.std.specs.Prelude.{ℕ, suc, ◌+◌, ◌*◌, ◌-◌, Bool, not, ◌&&◌, List, [], ◌∷◌, ◌++◌, length, take, drop, eqb}
use Rattle.reader.specs.Lists.{tabulate, count_below, those}
use Rattle.reader.specs.Bytes.{number_at, bytes_of}
use Rattle.reader.specs.Family.{Region, Family, leaves, region_count, region, family_of, file_of, region_fields}
use Rattle.reader.specs.Nesting.{region_inside}
use Rattle.sorting.specs.ByKey.{by_key}

-- The level of a region: 1 with no region strictly around it, h with h - 1 of them.
-- (The field calls it the depth of the region in the forest, counted from 1.)
unfoldable pub level_of : Family → Region → ℕ
level_of F r = suc (count_below (region_count F) (λ i. region_inside r (region F i)))

-- the family with these regions in the place of its own
abbrev pub with_regions : Family → List Region → Family
with_regions F rs = record { peptides = F.peptides; lengths = F.lengths; regions = rs }

-- the family by level: the regions of level 1, then those of level 2, up to level 64, each level's as they stood
unfoldable pub by_level : Family → Family
by_level F = with_regions F (by_key 65 (level_of F) F.regions)

-- how many regions there are of each level, from 1 to 64
unfoldable pub level_counts : Family → List ℕ
level_counts F = tabulate 64 (λ h. length (those (λ r. eqb (level_of F r) (suc h)) F.regions))

-- the family in file order: by first leaf rising; at equal first leaf, by last leaf falling
unfoldable pub in_file_order : Family → Family
in_file_order F = with_regions F (by_key (suc (leaves F)) (λ r. r.first) (by_key (leaves F) (λ r. leaves F - r.last) F.regions))

-- The layout: the mark PHFL, the numbers of the header, the level counts, then leaf lengths and regions as in a family file.

unfoldable pub level_mark : List ℕ
level_mark = 0x50 ∷ 0x48 ∷ 0x46 ∷ 0x4C ∷ []

abbrev pub counts_offset : ℕ
counts_offset = 16

abbrev pub level_lengths_offset : ℕ
level_lengths_offset = 144

abbrev pub level_regions_offset : ℕ → ℕ
level_regions_offset n = level_lengths_offset + 2 * n

abbrev pub level_total : ℕ → ℕ → ℕ
level_total n k = level_regions_offset n + 6 * k

unfoldable pub level_fields : List ℕ → Family → List ℕ
level_fields counts F =
    F.peptides ∷ leaves F ∷ region_count F ∷ level_lengths_offset ∷ level_regions_offset (leaves F) ∷ level_total (leaves F) (region_count F)
    ∷ (counts ++ (F.lengths ++ region_fields F.regions))

-- the file with these level counts, which lists the family's regions as they stand
unfoldable pub level_file : List ℕ → Family → List ℕ
level_file counts F = level_mark ++ bytes_of (level_fields counts F)

-- the file of a family by level
unfoldable pub level_file_of : Family → List ℕ
level_file_of F = level_file (level_counts F) (by_level F)

-- The file without its level counts: leaf lengths and regions stand in it where a family file has them.
unfoldable pub without_counts : List ℕ → List ℕ
without_counts s = take counts_offset s ++ drop level_lengths_offset s

-- the family that a file lists, with its regions as they stand there
unfoldable pub listed_family : List ℕ → Family
listed_family s = family_of (without_counts s)

-- the 64 level counts
unfoldable pub counts_in : List ℕ → List ℕ
counts_in s = tabulate 64 (λ h. number_at s (counts_offset + 2 * h))

-- the family file of what a file lists
unfoldable pub family_file_of : List ℕ → List ℕ
family_file_of s = file_of (in_file_order (listed_family s))

-- the two have the same leaves; z plays no part
unfoldable pub same_range : Region → Region → Bool
same_range r q = eqb r.first q.first && eqb r.last q.last

-- a list without the regions that have the same leaves as an earlier one
unfoldable pub without_repeats : List Region → List Region
without_repeats [] = []
without_repeats (r ∷ rs) = r ∷ those (λ q. not (same_range r q)) (without_repeats rs)

unfoldable pub distinct : Family → Family
distinct F = with_regions F (without_repeats F.regions)
