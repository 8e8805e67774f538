-- What the private functions that judge a selection and walk along its rows promise each other.
use Rattle.std.specs.Prelude.{ℕ, zero, suc, ◌+◌, ◌-◌, ◌≤◌, ◌<◌, List, ◌⊎◌, ◌≡◌, length, get_or}
use Rattle.reader.specs.Family.{Family, leaves, region_count, region, peptides_up_to}
use Rattle.reader.specs.WellFormed.{WellFormed}
use Rattle.bounds.specs.Ranges.{Range, card, range_at, ranges_of}
use Rattle.bounds.specs.Bound.{total, value}
use Rattle.bounds.specs.Selections.{selected, bound_of}
use Rattle.bounds.specs.declared.cursor.Cursor.{Cursor}
use Rattle.bounds.specs.declared.cursor.Counted.{Counted}

-- the whole line, around every region
unfoldable pub whole_line : Family → Range
whole_line F = record { from = 0; to = leaves F + 1; low = 0; high = F.peptides; z = 0 }

-- The row that begins at region k is the one inside the region before it; the first row is that of the whole line.
-- Its range, the leaf before it, and its last leaf:
unfoldable pub row_range : Family → ℕ → Range
row_range F zero = whole_line F
row_range F (suc i) = range_at F i

unfoldable pub leaf_before : Family → ℕ → ℕ
leaf_before F zero = 0
leaf_before F (suc i) = (region F i).first - 1

unfoldable pub last_leaf : Family → ℕ → ℕ
last_leaf F zero = leaves F
last_leaf F (suc i) = (region F i).last

-- there is a k-th region, and it begins at the leaf `last` or before
pub record BeginsBy (F : Family) (k last : ℕ) : Type 0 where
  pub some : k < region_count F
  pub first : (region F k).first ≤ last

-- a k-th region begins after the leaf `last`
abbrev pub BeginsAfter : Family → ℕ → ℕ → Type 0
BeginsAfter F k last = k < region_count F → last < (region F k).first

-- what a line knows: its family is well-formed, and its selection has the right length
pub record Ready (F : Family) (selection : List ℕ) : Type 0 where
  pub formed : WellFormed F
  pub whole : length selection ≡ F.peptides

-- the cursor has passed whole leaves of the family: its peptide is the last one of its leaf
pub record OnLeaf (F : Family) (c : Cursor) : Type 0 where
  pub leaf : c.leaf.0 ≤ leaves F
  pub peptide : c.peptide.0 ≡ peptides_up_to F c.leaf.0

-- the cursor goes on at a leaf; the selected peptides on the way are counted
pub record PassedTo (F : Family) (selection : List ℕ) (c : Cursor) (last : ℕ) (r : Counted) : Type 0 where
  pub region : r.at.region ≡ c.region
  pub leaf : r.at.leaf.0 ≡ last
  pub peptide : r.at.peptide.0 ≡ peptides_up_to F last
  pub counted : r.count + card c.peptide.0 (selected selection) ≡ card r.at.peptide.0 (selected selection)

-- the cursor stands before the region's first leaf
pub record RegionReady (F : Family) (totals : List ℕ) (c : Cursor) : Type 0 where
  pub room : region_count F ≤ length totals
  pub here : c.region < region_count F
  pub leaf : c.leaf.0 ≡ (region F c.region).first - 1
  pub peptide : c.peptide.0 ≡ peptides_up_to F c.leaf.0

-- the cursor stands before the first leaf of the row that begins at its region
pub record RowReady (F : Family) (totals : List ℕ) (c : Cursor) (last : ℕ) : Type 0 where
  pub room : region_count F ≤ length totals
  pub here : c.region ≤ region_count F
  pub leaf : c.leaf.0 ≡ leaf_before F c.region
  pub peptide : c.peptide.0 ≡ peptides_up_to F c.leaf.0
  pub ends : last ≡ last_leaf F c.region

-- the regions `from` to `next` - 1 are those from `from` on that begin at the leaf `last` or before
pub record WalkedOver (F : Family) (from last next : ℕ) : Type 0 where
  pub forward : from ≤ next
  pub most : next ≤ region_count F
  pub within : (k : ℕ) → from ≤ k → k < next → (region F k).first ≤ last
  pub ahead : next < region_count F → last < (region F next).first

-- the inside totals of the regions `from` to `next` - 1 are stored, and no others are touched
pub record Stored (F : Family) (selection old new : List ℕ) (from next : ℕ) : Type 0 where
  pub totals : (k : ℕ) → from ≤ k → k < next → get_or new k 0 ≡ total F.peptides (ranges_of F) (selected selection) (range_at F k)
  pub others : (k : ℕ) → (k < from) ⊎ (next ≤ k) → get_or new k 0 ≡ get_or old k 0

-- the cursor's region is walked: its value, and the cursor after its last leaf and before the first region that is not inside it
pub record RegionWalked (F : Family) (selection old new : List ℕ) (c : Cursor) (r : Counted) : Type 0 where
  pub value : r.count ≡ value F.peptides (ranges_of F) (selected selection) (range_at F c.region)
  pub few : r.count + card c.peptide.0 (selected selection) ≤ card r.at.peptide.0 (selected selection)
  pub leaf : r.at.leaf.0 ≡ (region F c.region).last
  pub peptide : r.at.peptide.0 ≡ peptides_up_to F r.at.leaf.0
  pub later : c.region < r.at.region
  pub walked : WalkedOver F (suc c.region) (region F c.region).last r.at.region
  pub stored : Stored F selection old new c.region r.at.region

-- the row that begins at the cursor's region is walked: the inside total of its range, and the cursor after it
pub record RowWalked (F : Family) (selection old new : List ℕ) (c : Cursor) (r : Counted) : Type 0 where
  pub total : r.count ≡ total F.peptides (ranges_of F) (selected selection) (row_range F c.region)
  pub few : r.count + card c.peptide.0 (selected selection) ≤ card r.at.peptide.0 (selected selection)
  pub leaf : r.at.leaf.0 ≡ last_leaf F c.region
  pub peptide : r.at.peptide.0 ≡ peptides_up_to F r.at.leaf.0
  pub walked : WalkedOver F c.region (last_leaf F c.region) r.at.region
  pub stored : Stored F selection old new c.region r.at.region

-- the whole line is walked: its inside total is the bound
pub record LineWalked (F : Family) (selection old new : List ℕ) (v : ℕ) : Type 0 where
  pub bound : v ≡ bound_of F selection
  pub stored : Stored F selection old new 0 (region_count F)
