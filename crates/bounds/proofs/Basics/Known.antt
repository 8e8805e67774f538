-- What structs as `Line`, `Nesting` and `Walk` know of their family. Any two proofs of it are equal, so it can be taken out of the struct's
-- field: of two regions the later one lies after the earlier one or inside it, and never both.
use Prim.Native.Nat.{ℕ}
use native.Mathlib.Omega.{arith}
use mathlib.Core.List.{List}
use mathlib.Core.Logic.{◌⊎◌, inl, inr, ∥∥₁_elim}
use mathlib.Core.Path.{ap}
use mathlib.Core.HLevel.{Π_prop}
use native.Mathlib.Bridge.{le_prop}
use Rattle.std.proofs.Props.{props}
use Rattle.reader.specs.Family.{Family, region_count}
use Rattle.reader.specs.WellFormed.{WellFormed, Ordered, NestedBelow, Nested}
use Rattle.bounds.specs.Private.Rows.{Ready}
use Rattle.bounds.specs.Private.Walks.{Walkable}

apart : {A B : Type 0} → IsProp A → IsProp B → (A → B → ⊥) → IsProp (A ⊎ B)
apart a b both (inl x) (inl y) = ap inl (a x y)
apart a b both (inr x) (inr y) = ap inr (b x y)
apart a b both (inl x) (inr y) = absurd (both x y)
apart a b both (inr x) (inl y) = absurd (both y x)

below_prop : {F : Family} → Ordered F → IsProp (NestedBelow F (region_count F))
below_prop o = Π_prop (λ i. Π_prop (λ j. Π_prop (λ l. Π_prop (λ u. apart le_prop le_prop (λ after inside. omega (arith, o.first_last j u, after, inside))))))

formed_prop : (F : Family) → Ordered F → IsProp (WellFormed F)
formed_prop F o =
    let below : IsProp (NestedBelow F (region_count F)) = below_prop o in
    Prim.hlevel (below, props)

pub is_formed : {F : Family} → ∥ WellFormed F ∥₁ → WellFormed F
is_formed {F} h = ∥∥₁_elim h (λ x y. formed_prop F x.ordered x y) (λ w. w)

ready_prop : (F : Family) (selection : List ℕ) → Ordered F → IsProp (Ready F selection)
ready_prop F selection o =
    let below : IsProp (NestedBelow F (region_count F)) = below_prop o in
    Prim.hlevel (below, props)

pub is_ready : {F : Family} {selection : List ℕ} → ∥ Ready F selection ∥₁ → Ready F selection
is_ready {F} {selection} h = ∥∥₁_elim h (λ x y. ready_prop F selection x.formed.ordered x y) (λ r. r)

nested_prop : (F : Family) (P : List ℕ) → Ordered F → IsProp (Nested F P)
nested_prop F P o =
    let below : IsProp (NestedBelow F (region_count F)) = below_prop o in
    Prim.hlevel (below, props)

pub is_nested : {F : Family} {P : List ℕ} → ∥ Nested F P ∥₁ → Nested F P
is_nested {F} {P} h = ∥∥₁_elim h (λ x y. nested_prop F P x.ordered x y) (λ n. n)

walkable_prop : (F : Family) (path P : List ℕ) → Ordered F → IsProp (Walkable F path P)
walkable_prop F path P o =
    let below : IsProp (NestedBelow F (region_count F)) = below_prop o in
    Prim.hlevel (below, props)

pub is_walkable : {F : Family} {path P : List ℕ} → ∥ Walkable F path P ∥₁ → Walkable F path P
is_walkable {F} {path} {P} h = ∥∥₁_elim h (λ x y. walkable_prop F path P x.well.ordered x y) (λ w. w)
