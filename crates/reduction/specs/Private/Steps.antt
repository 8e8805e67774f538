-- What the private functions of the reduction hand each other: the steps' results as lists, in file order.
use Rattle.std.specs.Prelude.{ℕ, ◌+◌, cond, List, ◌++◌, map, ◌≡◌, length, eqb}
use Rattle.reader.specs.Lists.{tabulate}
use Rattle.reader.specs.Family.{Family, family_of}
use Rattle.reader.specs.Nesting.{parents}
use Rattle.reader.specs.Causes.{Accepted}
use Rattle.bounds.specs.Ranges.{Range, ranges_of}
use Rattle.bounds.specs.Selections.{totals_of}
use Rattle.reduction.specs.declared.stretch.Stretch.{Stretch}
use Rattle.reduction.specs.Reduction.{first_of, last_of, live, live_peptides, reduced}

-- the list begins with these elements
abbrev pub Begins : List ℕ → List ℕ → Type 0
Begins new whole = (rest : List ℕ) × (whole ≡ new ++ rest)

-- the live peptides as a selection: for each of the peptides 1 to m, 1 if it is live, else 0
unfoldable pub live_bytes : Family → List ℕ
live_bytes F = tabulate F.peptides (λ i. cond (live (ranges_of F) (i + 1)) 1 0)

-- the first, and the last, live peptide of a region with z ≥ 1; 0 if z is 0 or there is none
unfoldable pub first_live : Family → Range → ℕ
first_live F r = cond (eqb r.z 0) 0 (first_of F.peptides (live_peptides (ranges_of F) r))

unfoldable pub last_live : Family → Range → ℕ
last_live F r = cond (eqb r.z 0) 0 (last_of F.peptides (live_peptides (ranges_of F) r))

-- these of every region, in file order
unfoldable pub firsts_live : Family → List ℕ
firsts_live F = map (first_live F) (ranges_of F)

unfoldable pub lasts_live : Family → List ℕ
lasts_live F = map (last_live F) (ranges_of F)

-- the first, and the last, peptides of stretches
abbrev pub firsts_of : List Stretch → List ℕ
firsts_of S = map (λ s. s.first) S

abbrev pub lasts_of : List Stretch → List ℕ
lasts_of S = map (λ s. s.last) S

-- the reduced ranges
unfoldable pub reduced_ranges : Family → List Range
reduced_ranges F = reduced F.peptides (ranges_of F)

-- what is known of an accepted file where its stretches are looked for
pub record Parented (s P : List ℕ) : Type 0 where
  pub accepted : Accepted s
  pub parented : Begins (parents (family_of s)) P

-- the live peptides, and the first and last live peptide of each region, as they are found
pub record Stretched (s L A B : List ℕ) : Type 0 where
  pub lives : Begins (live_bytes (family_of s)) L
  pub firsts : Begins (firsts_live (family_of s)) A
  pub lasts : Begins (lasts_live (family_of s)) B

-- the inside total of each region with the live peptides selected
pub record Totalled (s T : List ℕ) : Type 0 where
  pub totals : Begins (totals_of (family_of s) (live_bytes (family_of s))) T

-- the n reduced ranges: the first peptide, the last one and z of each
pub record Listed (s : List ℕ) (n : ℕ) (A B Z : List ℕ) : Type 0 where
  pub number : n ≡ length (reduced_ranges (family_of s))
  pub firsts : Begins (map (λ q. q.from) (reduced_ranges (family_of s))) A
  pub lasts : Begins (map (λ q. q.to) (reduced_ranges (family_of s))) B
  pub bounds : Begins (map (λ q. q.z) (reduced_ranges (family_of s))) Z
