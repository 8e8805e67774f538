-- A selection of peptides: m bytes, each 0 or 1.
use Rattle.std.specs.Prelude.{ℕ, Bool, not, ◌||◌, List, ◌∷◌, map, length, get_or, eqb, ltb}
use Rattle.reader.specs.Lists.{some_below}
use Rattle.reader.specs.Family.{Family}
use Rattle.bounds.specs.Ranges.{Peptides, ranges_of}
use Rattle.bounds.specs.Bound.{total, bound, taken_bytes}

-- the peptides whose byte is 1; the first byte is that of peptide 1
unfoldable pub selected : List ℕ → Peptides
selected selection p = eqb (get_or (0 ∷ selection) p 0) 1

-- the bound of a selection in a family
unfoldable pub bound_of : Family → List ℕ → ℕ
bound_of F selection = bound F.peptides (ranges_of F) (selected selection)

-- for each region, in file order, 1 if it is taken, else 0
unfoldable pub taken_of : Family → List ℕ → List ℕ
taken_of F selection = taken_bytes F.peptides (ranges_of F) (selected selection)

-- for each region, in file order, its inside total
unfoldable pub totals_of : Family → List ℕ → List ℕ
totals_of F selection = map (total F.peptides (ranges_of F) (selected selection)) (ranges_of F)

-- selection not m bytes, or a byte over 1
unfoldable pub cause14 : ℕ → List ℕ → Bool
cause14 m selection = not (eqb (length selection) m) || some_below (length selection) (λ i. ltb 1 (get_or selection i 0))
