-- The family file: its layout, the family that it holds, and the file of a family.
use Rattle.std.specs.Prelude.{ℕ, ◌+◌, ◌*◌, ◌-◌, ◌≤◌, cond, List, [], ◌∷◌, ◌++◌, ◌≡◌, length, get_or, take, leb}
use Rattle.reader.specs.Lists.{tabulate, sum}
use Rattle.reader.specs.Bytes.{number_at, bytes_of}

-- All peptides of the leaves from the first to the last, of which at most z are false.
-- (The field calls a peptide a hypothesis, and z an upper bound on the region's false positives, ζ.)
pub record Region : Type 0 where
  pub first : ℕ
  pub last : ℕ
  pub z : ℕ

-- m, the length of each of the N leaves, and the K regions
pub record Family : Type 0 where
  pub peptides : ℕ
  pub lengths : List ℕ
  pub regions : List Region

abbrev pub leaves : Family → ℕ
leaves F = length F.lengths

abbrev pub region_count : Family → ℕ
region_count F = length F.regions

abbrev pub no_region : Region
no_region = record { first = 0; last = 0; z = 0 }

-- the k-th region, counted from 0
unfoldable pub region : Family → ℕ → Region
region F k = get_or F.regions k no_region

-- the length of leaf j, for j from 1 to N; 0 for any other number
unfoldable pub leaf_length : Family → ℕ → ℕ
leaf_length F j = get_or (0 ∷ F.lengths) j 0

-- none of the region's leaves has a peptide
abbrev pub EmptyRegion : Family → Region → Type 0
EmptyRegion F r = (j : ℕ) → r.first ≤ j → j ≤ r.last → leaf_length F j ≡ 0

-- how many peptides the leaves 1 to j have
unfoldable pub peptides_up_to : Family → ℕ → ℕ
peptides_up_to F j = sum (take j F.lengths)

-- The leaf of a peptide: the first leaf up to which the lengths add to at least the peptide's number; 0 if there is none.
-- `leaf_after j` takes the lengths of the leaves after leaf j, and the peptide's number less the peptides of the leaves 1 to j.
unfoldable pub leaf_after : ℕ → List ℕ → ℕ → ℕ
leaf_after j [] p = 0
leaf_after j (l ∷ ls) p = cond (leb p l) (j + 1) (leaf_after (j + 1) ls (p - l))

unfoldable pub leaf_of : Family → ℕ → ℕ
leaf_of F p = leaf_after 0 F.lengths p

-- The layout: the mark PHFB, then numbers of 2 bytes.

unfoldable pub mark : List ℕ
mark = 0x50 ∷ 0x48 ∷ 0x46 ∷ 0x42 ∷ []

abbrev pub lengths_offset : ℕ
lengths_offset = 16

abbrev pub regions_offset : ℕ → ℕ
regions_offset n = lengths_offset + 2 * n

abbrev pub total_length : ℕ → ℕ → ℕ
total_length n k = regions_offset n + 6 * k

-- the length of the j-th leaf, and the k-th region, counted from 0
unfoldable pub length_at : List ℕ → ℕ → ℕ
length_at s j = number_at s (lengths_offset + 2 * j)

unfoldable pub region_at : List ℕ → ℕ → Region
region_at s k =
    let o : ℕ = regions_offset (number_at s 6) + 6 * k in
    record { first = number_at s o; last = number_at s (o + 2); z = number_at s (o + 4) }

unfoldable pub family_of : List ℕ → Family
family_of s = record { peptides = number_at s 4; lengths = tabulate (number_at s 6) (length_at s); regions = tabulate (number_at s 8) (region_at s) }

-- a region's three fields, for each region in turn
unfoldable pub region_fields : List Region → List ℕ
region_fields [] = []
region_fields (r ∷ rs) = r.first ∷ r.last ∷ r.z ∷ region_fields rs

unfoldable pub fields : Family → List ℕ
fields F =
    F.peptides ∷ leaves F ∷ region_count F ∷ lengths_offset ∷ regions_offset (leaves F) ∷ total_length (leaves F) (region_count F)
    ∷ (F.lengths ++ region_fields F.regions)

unfoldable pub file_of : Family → List ℕ
file_of F = mark ++ bytes_of (fields F)
