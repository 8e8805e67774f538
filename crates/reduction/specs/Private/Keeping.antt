-- What the private functions that find the kept stretches and list the reduced ranges promise each other.
use Rattle.std.specs.Prelude.{ℕ, suc, ◌+◌, ◌-◌, ◌≤◌, ◌<◌, Bool, true, false, not, cond, ◌&&◌, ◌||◌, List, map, ◌⊎◌, Option, Some, None, ◌≡◌, length, get_or, ltb, eqb}
use Rattle.reader.specs.Lists.{some_below}
use Rattle.reader.specs.Family.{Family, region, region_count}
use Rattle.reader.specs.WellFormed.{WellFormed}
use Rattle.bounds.specs.Ranges.{Range, Peptides, range_of, ranges_of, those, In}
use Rattle.bounds.specs.Bound.{total}
use Rattle.reduction.specs.Reduction.{live}
use Rattle.reduction.specs.declared.keep.Ranges.{Ranges}
use Rattle.reduction.specs.Private.Steps.{Begins, live_bytes, first_live, last_live, reduced_ranges}

-- the first and the last peptide of the stretch of the k-th region, counted from 0; 0 and 0 if it has none
unfoldable pub first_at : Family → ℕ → ℕ
first_at F k = first_live F (range_of F (region F k))

unfoldable pub last_at : Family → ℕ → ℕ
last_at F k = last_live F (range_of F (region F k))

abbrev pub SameStretch : Family → ℕ → ℕ → Type 0
SameStretch F i k = (first_at F i ≡ first_at F k) × (last_at F i ≡ last_at F k)

-- the i-th region is the k-th one or around it
abbrev pub Outward : Family → ℕ → ℕ → Type 0
Outward F i k = (i ≤ k) × ((region F k).last ≤ (region F i).last)

-- no later region has the stretch of the k-th one
abbrev pub LastWithStretch : Family → ℕ → Type 0
LastWithStretch F k = (i : ℕ) → k < i → i < region_count F → SameStretch F i k → ⊥

-- a family with its stretches: the first and the last peptide of each
pub record WithStretches (F : Family) (A B : List ℕ) : Type 0 where
  pub well_formed : WellFormed F
  pub firsts : (k : ℕ) → k < region_count F → get_or A k 0 ≡ first_at F k
  pub lasts : (k : ℕ) → k < region_count F → get_or B k 0 ≡ last_at F k

-- the i-th and the k-th entries of both lists agree
unfoldable pub same_ends : List ℕ → List ℕ → ℕ → ℕ → Bool
same_ends A B i k = eqb (get_or A i 0) (get_or A k 0) && eqb (get_or B i 0) (get_or B k 0)

-- Going outward from the k-th region, v is the smallest z of the regions with its stretch,
-- and w the smallest z of those with another stretch, or 65,535.
pub record Weighed (F : Family) (k v w : ℕ) : Type 0 where
  pub least : (i : ℕ) → Outward F i k → SameStretch F i k → v ≤ (region F i).z
  pub reached : (i : ℕ) × Outward F i k × SameStretch F i k × (v ≡ (region F i).z)
  pub around : (i : ℕ) → Outward F i k → (SameStretch F i k → ⊥) → w ≤ (region F i).z
  pub met : (w ≡ 65535) ⊎ ((i : ℕ) × Outward F i k × (SameStretch F i k → ⊥) × (w ≡ (region F i).z))

-- the two lists hold these for each of the first n regions that has a stretch
abbrev pub WeighedBelow : Family → List ℕ → List ℕ → ℕ → Type 0
WeighedBelow F Z W n = (k : ℕ) → k < n → 1 ≤ first_at F k → Weighed F k (get_or Z k 0) (get_or W k 0)

-- the inside total of the k-th region, with the live peptides selected
unfoldable pub total_at : Family → ℕ → ℕ
total_at F k = total F.peptides (ranges_of F) (live (ranges_of F)) (range_of F (region F k))

-- the list holds it for each region
abbrev pub TotalsBelow : Family → List ℕ → Type 0
TotalsBelow F T = (k : ℕ) → k < region_count F → get_or T k 0 ≡ total_at F k

-- The k-th region is the innermost one of a kept stretch whose smallest z is v.
pub record Keeps (F : Family) (k v : ℕ) : Type 0 where
  pub some : 1 ≤ first_at F k
  pub innermost : LastWithStretch F k
  pub least : (i : ℕ) → Outward F i k → SameStretch F i k → v ≤ (region F i).z
  pub reached : (i : ℕ) × Outward F i k × SameStretch F i k × (v ≡ (region F i).z)
  pub larger : (i : ℕ) → Outward F i k → (SameStretch F i k → ⊥) → v < (region F i).z
  pub less : v < total_at F k

-- Of the regions from the n-th on, the list holds the z of the kept stretch at its innermost region, and 0 at every other region.
pub record KeptMarked (F : Family) (C : List ℕ) (n : ℕ) : Type 0 where
  pub kept : (k : ℕ) → n ≤ k → k < region_count F → 1 ≤ get_or C k 0 → Keeps F k (get_or C k 0)
  pub every : (k v : ℕ) → n ≤ k → k < region_count F → Keeps F k v → get_or C k 0 ≡ v

-- c is the number, counted from 1, of the first region from the k-th on that has a stretch; 0 if none has.
pub record NextStretch (F : Family) (k c : ℕ) : Type 0 where
  pub none : c ≡ 0 → (i : ℕ) → k ≤ i → i < region_count F → first_at F i ≡ 0
  pub later : (j : ℕ) → c ≡ suc j → (k ≤ j) × (j < region_count F) × (1 ≤ first_at F j)
  pub first : (j : ℕ) → c ≡ suc j → (i : ℕ) → k ≤ i → i < j → first_at F i ≡ 0

-- the number, counted from 1, of the region at a place; 0 for none
abbrev pub counted : Option ℕ → ℕ
counted None = 0
counted (Some i) = i + 1

-- the smallest z of the k-th region's stretch, or 0 if the region with the number c has the same stretch or the stretch is not kept
unfoldable pub kept_bound : List ℕ → List ℕ → List ℕ → List ℕ → List ℕ → ℕ → ℕ → ℕ
kept_bound A B T Z W c k =
    cond (eqb (get_or A k 0) 0 || (not (eqb c 0) && same_ends A B (c - 1) k)) 0
    (cond (ltb (get_or Z k 0) (get_or T k 0) && ltb (get_or Z k 0) (get_or W k 0)) (get_or Z k 0) 0)

-- The list of the reduced ranges, while it is written.

-- a longest run of peptides outside the set X begins at p
unfoldable pub begins_run : Peptides → ℕ → Bool
begins_run X p = not (X p) && (eqb p 1 || X (p - 1))

-- and goes on to e
pub record RunTo (m : ℕ) (X : Peptides) (p e : ℕ) : Type 0 where
  pub order : p ≤ e
  pub small : e ≤ m
  pub dead : (q : ℕ) → p ≤ q → q ≤ e → X q ≡ false
  pub right : (e ≡ m) ⊎ (X (e + 1) ≡ true)

-- the kept stretches of the first k regions
unfoldable pub of_first : Family → List ℕ → ℕ → Range → Bool
of_first F C k x = some_below k (λ i. ltb 0 (get_or C i 0) && (eqb (first_at F i) x.from && eqb (last_at F i) x.to))

-- the runs that begin before q, and the stretches that pass t
unfoldable pub with_runs : Family → (Range → Bool) → ℕ → Range → Bool
with_runs F t q x = cond (live (ranges_of F) x.from) (t x) (ltb x.from q)

-- These n of the reduced ranges are listed. The stretches among them begin before q.
pub record Gathered (F : Family) (t : Range → Bool) (q n : ℕ) (A B Z : List ℕ) : Type 0 where
  pub number : n ≡ length (those (with_runs F t q) (reduced_ranges F))
  pub firsts : Begins (map (λ x. x.from) (those (with_runs F t q) (reduced_ranges F))) A
  pub lasts : Begins (map (λ x. x.to) (those (with_runs F t q) (reduced_ranges F))) B
  pub bounds : Begins (map (λ x. x.z) (those (with_runs F t q) (reduced_ranges F))) Z
  pub earlier : (x : Range) → In x (reduced_ranges F) → live (ranges_of F) x.from ≡ true → t x ≡ true → x.from < q

-- Runs are looked for from peptide q on, where the k-th region comes next: no kept stretch from there on begins before q - 1.
pub record Passed (F : Family) (C : List ℕ) (k q : ℕ) : Type 0 where
  pub positive : 1 ≤ q
  pub small : q ≤ F.peptides + 1
  pub after : (i : ℕ) → k ≤ i → i < region_count F → 1 ≤ get_or C i 0 → q ≤ first_at F i + 1

-- what is known where the runs that begin from q on, before e, are listed
pub record RunsAhead (F : Family) (X : List ℕ) (q e : ℕ) : Type 0 where
  pub lives : Begins (live_bytes F) X
  pub positive : 1 ≤ q
  pub order : q ≤ e
  pub small : e ≤ F.peptides + 1
  pub few : region_count F ≤ 8191

-- they are the ranges listed so far
abbrev pub GatheredIn : Family → (Range → Bool) → ℕ → Ranges → Type 0
GatheredIn F t q r = Gathered F t q r.count r.from.now r.to.now r.bounds.now

-- for some choice of stretches
abbrev pub SomeGathered : Family → ℕ → Ranges → Type 0
SomeGathered F q r = (t : Range → Bool) × GatheredIn F t q r

-- each of its arrays has 8191 places, as many as there can be regions
pub record Whole (r : Ranges) : Type 0 where
  pub from : length r.from.now ≡ 8191
  pub to : length r.to.now ≡ 8191
  pub bounds : length r.bounds.now ≡ 8191

-- it is the same three arrays that are written
pub record SameArrays (old new : Ranges) : Type 0 where
  pub from : new.from.ghost_name ≡ old.from.ghost_name
  pub to : new.to.ghost_name ≡ old.to.ghost_name
  pub bounds : new.bounds.ghost_name ≡ old.bounds.ghost_name
