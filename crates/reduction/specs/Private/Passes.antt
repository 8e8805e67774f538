-- What the private functions that find the stretches promise each other.
use Rattle.std.specs.Prelude.{ℕ, ◌+◌, ◌-◌, ◌<◌, ◌≤◌, true, cond, List, ◌⊎◌, ◌≡◌, length, get_or, eqb, leb, ltb}
use Rattle.reader.specs.Family.{Family, leaves, region_count, region, peptides_up_to}
use Rattle.reader.specs.WellFormed.{WellFormed, ParentsBelow}
use Rattle.bounds.specs.Ranges.{Peptides, ranges_of, range_at}
use Rattle.reduction.specs.Reduction.{live, last_of}
use Rattle.reduction.specs.Private.Steps.{first_live, last_live}

-- The low and high ends, in one pass over the leaves.

-- the first k regions begin at leaf j or before, and their low ends stand in the list
pub record Lowered (F : Family) (j k : ℕ) (L : List ℕ) : Type 0 where
  pub few : k ≤ region_count F
  pub before : (i : ℕ) → i < k → (region F i).first ≤ j
  pub low : (i : ℕ) → i < k → get_or L i 0 ≡ (range_at F i).low

-- these are all the regions that begin at leaf j or before
pub record Begun (F : Family) (j k : ℕ) (L : List ℕ) : Type 0 where
  pub lows : Lowered F j k L
  pub others : (i : ℕ) → k ≤ i → i < region_count F → j < (region F i).first

-- Each region that begins at leaf b or before has its high end in the list, or it is open: the one with the number c,
-- which reaches leaf e, or around that one. No region is open if c is 0.
pub record Open (F : Family) (b e : ℕ) (H : List ℕ) (c : ℕ) : Type 0 where
  pub few : c ≤ region_count F
  pub reaches : 1 ≤ c → e ≤ (region F (c - 1)).last
  pub each :
      (i : ℕ) → i < region_count F → (region F i).first ≤ b
      → (get_or H i 0 ≡ (range_at F i).high) ⊎ ((i < c) × ((region F (c - 1)).last ≤ (region F i).last))

-- what is known where the regions of leaf j + 1 begin
pub record Beginning (F : Family) (j sum k : ℕ) (L : List ℕ) : Type 0 where
  pub formed : WellFormed F
  pub leaf : j < leaves F
  pub sums : sum ≡ peptides_up_to F j
  pub begun : Begun F j k L

-- k is the number of regions that have begun with leaf j, no fewer than before
pub record Began (F : Family) (j before k : ℕ) (L : List ℕ) : Type 0 where
  pub begun : Begun F j k L
  pub more : before ≤ k

-- a family with its parents
pub record WithParents (F : Family) (P : List ℕ) : Type 0 where
  pub formed : WellFormed F
  pub known : ParentsBelow F P (region_count F)
  pub room : region_count F ≤ length P

-- what is known where the regions of leaf j end
pub record Ending (F : Family) (P : List ℕ) (j sum c : ℕ) (H : List ℕ) : Type 0 where
  pub family : WithParents F P
  pub sums : sum ≡ peptides_up_to F j
  pub opened : Open F j j H c

-- the low and high ends of every region
pub record Ends (F : Family) (L H : List ℕ) : Type 0 where
  pub low : (i : ℕ) → i < region_count F → get_or L i 0 ≡ (range_at F i).low
  pub high : (i : ℕ) → i < region_count F → get_or H i 0 ≡ (range_at F i).high

-- a family with the low and high ends of its regions
pub record Ended (F : Family) (L H : List ℕ) : Type 0 where
  pub formed : WellFormed F
  pub ends : Ends F L H

-- The live peptides, in one pass over the regions.

-- the first n live bytes are right
abbrev pub LiveUpTo : Family → ℕ → List ℕ → Type 0
LiveUpTo F n L = (p : ℕ) → p < n → get_or L p 0 ≡ cond (live (ranges_of F) (p + 1)) 1 0

-- The nearest live peptides, in one pass over the peptides each way.

-- a is the first of the numbers p to m in the set; 0 if there is none
pub record Next (m : ℕ) (X : Peptides) (p a : ℕ) : Type 0 where
  pub member : 1 ≤ a → (p ≤ a) × (a ≤ m) × (X a ≡ true)
  pub least : (q : ℕ) → p ≤ q → q ≤ m → X q ≡ true → (1 ≤ a) × (a ≤ q)

-- for each of the numbers 1 to m + 1 the first one of the set from it on; for each of 0 to m the last one up to it
abbrev pub Nexts : ℕ → Peptides → List ℕ → Type 0
Nexts m X A = (p : ℕ) → 1 ≤ p → p ≤ m + 1 → Next m X p (get_or A p 0)

abbrev pub Lasts : ℕ → Peptides → List ℕ → Type 0
Lasts m X B = (p : ℕ) → p ≤ m → get_or B p 0 ≡ last_of p X

-- The first and last live peptide of each region.

-- the live bytes are known
pub record WithLives (F : Family) (L H M : List ℕ) : Type 0 where
  pub ended : Ended F L H
  pub lives : LiveUpTo F F.peptides M

-- the first live peptide from each peptide on, and the last one up to each peptide, are known
pub record WithNearest (F : Family) (L H A B : List ℕ) : Type 0 where
  pub ended : Ended F L H
  pub nexts : Nexts F.peptides (live (ranges_of F)) A
  pub lasts : Lasts F.peptides (live (ranges_of F)) B

-- p if it is a peptide of a region with that z, 1 or more, and these ends; else 0
abbrev pub if_within : ℕ → ℕ → ℕ → ℕ → ℕ
if_within z low high p = cond (eqb z 0) 0 (cond (ltb low p) (cond (leb p high) p 0) 0)

-- those of the first k regions are right
abbrev pub FirstsUpTo : Family → ℕ → List ℕ → Type 0
FirstsUpTo F k A = (i : ℕ) → i < k → get_or A i 0 ≡ first_live F (range_at F i)

abbrev pub LastsUpTo : Family → ℕ → List ℕ → Type 0
LastsUpTo F k B = (i : ℕ) → i < k → get_or B i 0 ≡ last_live F (range_at F i)
