-- The regions that hold a leaf, and the last of them, which is the innermost one; and how their numbers are painted over a line.
use Rattle.std.specs.Prelude.{ℕ, suc, ◌<◌, ◌≤◌, Bool, true, false, ◌&&◌, List, ◌≡◌, length, get_or, leb}
use Rattle.reader.specs.Family.{Family, region_count, region}

-- a number is one of those from the first to the last
unfoldable pub is_between : ℕ → ℕ → ℕ → Bool
is_between first last n = leb first n && leb n last

abbrev pub holds_leaf : Family → ℕ → ℕ → Bool
holds_leaf F leaf k = is_between (region F k).first (region F k).last leaf

-- c is the number, counted from 1, of the last of the first n regions that holds the leaf, or 0 where none does
pub record LastAmong (F : Family) (n leaf c : ℕ) : Type 0 where
  pub most : c ≤ n
  pub holds : (j : ℕ) → c ≡ suc j → holds_leaf F leaf j ≡ true
  pub last : (i : ℕ) → c ≤ i → i < n → holds_leaf F leaf i ≡ false

abbrev pub LastHolding : Family → ℕ → ℕ → Type 0
LastHolding F leaf c = LastAmong F (region_count F) leaf c

-- the list D is T with a number written from a first place to the place before j
pub record PaintedBefore (T : List ℕ) (first number j : ℕ) (D : List ℕ) : Type 0 where
  pub same : length D ≡ length T
  pub done : (i : ℕ) → first ≤ i → i < j → get_or D i 0 ≡ number
  pub below : (i : ℕ) → i < first → get_or D i 0 ≡ get_or T i 0
  pub ahead : (i : ℕ) → j ≤ i → get_or D i 0 ≡ get_or T i 0
