-- What the private functions that write the reduced file promise each other.
use Rattle.std.specs.Prelude.{ℕ, ◌+◌, ◌*◌, ◌-◌, ◌≤◌, ◌<◌, Bool, false, ◌||◌, List, [], ◌∷◌, ◌++◌, ◌≡◌, length, get_or, drop, eqb}
use Rattle.reader.specs.Lists.{some_below}
use Rattle.reader.specs.Bytes.{number_at}
use Rattle.bounds.specs.Ranges.{Peptides, card}
use Rattle.reduction.specs.Reduction.{rising, reduced_file}

-- the six numbers after the mark, of a file with N leaves and K regions whose leaf lengths begin at the given byte
abbrev pub header_numbers : ℕ → ℕ → ℕ → ℕ → List ℕ
header_numbers m N K start = m ∷ N ∷ K ∷ start ∷ (start + 2 * N) ∷ (start + 2 * N + 6 * K) ∷ []

-- n ranges, by first and last peptide, on the line of the peptides 1 to m; their first peptides rise
pub record OnLine (m n : ℕ) (A B : List ℕ) : Type 0 where
  pub line : m ≤ 4096
  pub firsts : n ≤ length A
  pub lasts : n ≤ length B
  pub first : (k : ℕ) → k < n → 1 ≤ get_or A k 0
  pub order : (k : ℕ) → k < n → get_or A k 0 ≤ get_or B k 0
  pub last : (k : ℕ) → k < n → get_or B k 0 ≤ m
  pub rises : (k : ℕ) → k + 1 < n → get_or A k 0 ≤ get_or A (k + 1) 0

-- a leaf ends at m, just before the first peptide of each of the n ranges and at the last one
unfoldable pub ends_at : ℕ → ℕ → List ℕ → List ℕ → Peptides
ends_at m n A B p = eqb p m || some_below n (λ k. eqb p (get_or A k 0 - 1) || eqb p (get_or B k 0))

-- the list marks the set: it holds true at its members
abbrev pub Marks : List Bool → Peptides → Type 0
Marks E X = (p : ℕ) → get_or E p false ≡ X p

-- the set of the places that hold true
unfoldable pub marked_in : List Bool → Peptides
marked_in E p = get_or E p false

-- The numbers of the regions of n ranges: first leaf, last leaf and z. X is the set of the peptides at which a leaf ends.
unfoldable pub region_numbers : ℕ → Peptides → List ℕ → List ℕ → List ℕ → List ℕ
region_numbers n X A B Z =
    rising n (λ k. (card (get_or A (k - 1) 0 - 1) X + 1) ∷ card (get_or B (k - 1) 0) X ∷ get_or Z (k - 1) 0 ∷ [])

-- the reduced file of s is at the start of the output, which is unchanged after it; and what is said of it
pub record Wrote (s old new : List ℕ) (bytes regions : ℕ) : Type 0 where
  pub start : new ≡ reduced_file s ++ drop (length (reduced_file s)) old
  pub whole : bytes ≡ length (reduced_file s)
  pub total : bytes ≡ number_at (reduced_file s) 14
  pub counted : regions ≡ number_at (reduced_file s) 8
