-- The two numbers of each region of a list: read, and when one region is replaced.
use Prim.Native.Nat.{ℕ}
use mathlib.Core.List.{List}
use mathlib.Core.Path.{◌≡◌, ap, ◌∙◌}
use lib.ListN.{get_or, set, get_or-map}
use lib.Seq.{map-set, get_or-set_other}
use Rattle.pvalues.specs.declared.lowering.Lowering.{Lowering}
use Rattle.pvalues.specs.Private.Climbing.{left_of_each, z_of_each}

-- both numbers 0, as past the end
abbrev none : Lowering
none = record { left = 0; z = 0 }

module _ (R : List Lowering) (k : ℕ) where
  pub left_read : get_or (left_of_each R) k 0 ≡ (get_or R k none).left
  left_read = get_or-map (λ (r : Lowering). r.left) R k none

  pub z_read : get_or (z_of_each R) k 0 ≡ (get_or R k none).z
  z_read = get_or-map (λ (r : Lowering). r.z) R k none

  pub left_set : (r : Lowering) → left_of_each (set R k r) ≡ set (left_of_each R) k r.left
  left_set r = map-set (λ (r : Lowering). r.left) R k r

  pub z_set : (r : Lowering) → z_of_each (set R k r) ≡ set (z_of_each R) k r.z
  z_set r = map-set (λ (r : Lowering). r.z) R k r

  -- the others are as they were
  pub left_other : (i : ℕ) (r : Lowering) → (i ≡ k → ⊥) → get_or (left_of_each (set R k r)) i 0 ≡ get_or (left_of_each R) i 0
  left_other i r other = ap (λ (l : List ℕ). get_or l i 0) (left_set r) ∙ get_or-set_other (left_of_each R) k i r.left 0 other

  pub z_other : (i : ℕ) (r : Lowering) → (i ≡ k → ⊥) → get_or (z_of_each (set R k r)) i 0 ≡ get_or (z_of_each R) i 0
  z_other i r other = ap (λ (l : List ℕ). get_or l i 0) (z_set r) ∙ get_or-set_other (z_of_each R) k i r.z 0 other
