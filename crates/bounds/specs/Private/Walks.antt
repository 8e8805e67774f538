-- What the private functions that check a path and walk along it promise each other.
use Rattle.std.specs.Prelude.{ℕ, zero, suc, ◌+◌, ◌-◌, ◌<◌, ◌≤◌, Bool, true, false, cond, ◌&&◌, List, ◌≡◌, length, get_or, eqb, Result, Ok, Err}
use Rattle.reader.specs.Lists.{some_below}
use Rattle.reader.specs.Family.{Family, family_of, region_count, leaf_of}
use Rattle.reader.specs.Causes.{first_cause}
use Rattle.reader.specs.Refusals.{number_of, beside, Report}
use Rattle.reader.specs.declared.refusal.Refusal.{Refusal}
use Rattle.reader.specs.WellFormed.{WellFormed, Nested}
use Rattle.reader.specs.declared.refusal.Refusal.TheVariants.{Repeated}
use Rattle.bounds.specs.Curves.{cause11, cause12, cause13, first_repeat}
use Rattle.bounds.specs.Calls.{input_causes, path_refusal}
use Rattle.bounds.specs.Holding.{holds_leaf, LastHolding}

-- The path.

-- 11 or 12, or 0 if neither of these causes holds
unfoldable pub number_cause : ℕ → List ℕ → ℕ
number_cause m path = cond (cause11 m path) 11 (cond (cause12 m path) 12 0)

-- the path is different peptide numbers, each from 1 to m
pub record Distinct (m : ℕ) (path : List ℕ) : Type 0 where
  pub some : (i : ℕ) → i < length path → 1 ≤ get_or path i 0
  pub most : (i : ℕ) → i < length path → get_or path i 0 ≤ m
  pub differ : (i j : ℕ) → i < j → j < length path → get_or path i 0 ≡ get_or path j 0 → ⊥

-- what a walk goes by: a well-formed family, its parents, and a path of different peptides
pub record Walkable (F : Family) (path P : List ℕ) : Type 0 where
  pub well : WellFormed F
  pub nested : Nested F P
  pub short : length path ≤ F.peptides
  pub different : Distinct F.peptides path

-- a cause of the family or the path holds, and r is the refusal with the first
pub record InputRefused (file path : List ℕ) (r : Report) : Type 0 where
  pub some : first_cause (input_causes file path) ≡ 0 → ⊥
  pub told : r ≡ path_refusal path (first_cause (input_causes file path))

-- a family and a path are accepted, or refused
abbrev pub Admission : List ℕ → List ℕ → List ℕ → Result (Unit {0}) Refusal → Type 0
Admission file path P (Ok done) = (first_cause (input_causes file path) ≡ 0) × Walkable (family_of file) path P
Admission file path P (Err e) = InputRefused file path (record { number = number_of e; values = beside e })

-- the peptides of a path are different, or refused with the first place whose peptide stands earlier too
abbrev pub Differing : List ℕ → Result (Unit {0}) Refusal → Type 0
Differing path (Ok done) = cause13 path ≡ false
Differing path (Err e) = (cause13 path ≡ true) × (e ≡ Repeated (first_repeat path))

-- The regions that hold a leaf.

-- The list has at each leaf the number of the last region that holds it, which is the innermost one.
abbrev pub InnermostAtLeaves : Family → List ℕ → Type 0
InnermostAtLeaves F T = (leaf : ℕ) → LastHolding F leaf (get_or T leaf 0)

-- The marks that each region can still take: its z less the marked peptides that it has.

-- some region that holds the leaf can take no more marks
unfoldable pub crowded : Family → List ℕ → ℕ → Bool
crowded F S leaf = some_below (region_count F) (λ k. holds_leaf F leaf k && eqb (get_or S k 0) 0)

-- the regions that hold the leaf can take one mark less
pub record OneLess (F : Family) (S : List ℕ) (leaf : ℕ) (D : List ℕ) : Type 0 where
  pub same : length D ≡ length S
  pub less : (k : ℕ) → k < region_count F → get_or D k 0 ≡ get_or S k 0 - cond (holds_leaf F leaf k) 1 0

-- One step of the walk: the mark is 1 unless a region that holds the peptide is crowded, and is taken from what these can take.
pub record MarkedNext (F : Family) (S : List ℕ) (p : ℕ) (D : List ℕ) (mark : ℕ) : Type 0 where
  pub same : length D ≡ length S
  pub marked : mark ≡ cond (crowded F S (leaf_of F p)) 0 1
  pub less : (k : ℕ) → k < region_count F → get_or D k 0 ≡ get_or S k 0 - cond (holds_leaf F (leaf_of F p) k) mark 0

-- The marks along a path.

-- the marks at the first t places, added up
unfoldable pub marks_up_to : List ℕ → ℕ → ℕ
marks_up_to M zero = 0
marks_up_to M (suc t) = marks_up_to M t + get_or M t 0

-- the list is the marks of a curve
pub record MarksOf (M : List ℕ) : Type 0 where
  pub few : length M ≤ 4096
  pub small : (t : ℕ) → t < length M → get_or M t 0 ≤ 1
