-- Two families with the same curves, two with the same bounds, and two whose regions have the same peptides.
use Rattle.std.specs.Prelude.{ℕ, ◌<◌, false, List, ◌⊎◌, ◌≡◌}
use Rattle.reader.specs.Family.{Family, region_count, region, EmptyRegion}
use Rattle.bounds.specs.Ranges.{range_at}
use Rattle.bounds.specs.Selections.{bound_of, cause14}
use Rattle.bounds.specs.Curves.{curve_values}
use Rattle.bounds.specs.Calls.{IsPath}

-- equal m and, for every path, equal curves
pub record Alike (F G : Family) : Type 0 where
  pub peptides : F.peptides ≡ G.peptides
  pub curves : (path : List ℕ) → IsPath F.peptides path → curve_values F path ≡ curve_values G path

-- equal m and, for every selection (m bytes, each 0 or 1), equal bounds
pub record SameBounds (F G : Family) : Type 0 where
  pub peptides : F.peptides ≡ G.peptides
  pub bounds : (selection : List ℕ) → cause14 F.peptides selection ≡ false → bound_of F selection ≡ bound_of G selection

-- each region of F is empty, or holds the peptides of a region of G and has its z
abbrev pub Covered : Family → Family → Type 0
Covered F G =
    (k : ℕ) → k < region_count F
    → EmptyRegion F (region F k)
    ⊎ ((j : ℕ) × (j < region_count G) × ((range_at F k).low ≡ (range_at G j).low) × ((range_at F k).high ≡ (range_at G j).high) × ((range_at F k).z ≡ (range_at G j).z))
