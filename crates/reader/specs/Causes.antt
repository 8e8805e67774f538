-- Why a family file is refused: causes 1 to 10, each over its whole input, in the order in which they are tried.
use Rattle.std.specs.Prelude.{ℕ, ◌+◌, ◌*◌, ◌-◌, Bool, not, cond, ◌||◌, List, [], ◌∷◌, ◌++◌, ◌≡◌, length, take, ltb, eqb}
use Rattle.reader.specs.Lists.{sum, same_list, some_below}
use Rattle.reader.specs.Bytes.{IsBytes, number_at}
use Rattle.reader.specs.Family.{Region, Family, leaves, region_count, region, family_of, mark, lengths_offset}
use Rattle.reader.specs.Nesting.{before, crossing, regions_around}

-- under 16 bytes, or another mark than the one wanted
unfoldable pub cause1 : List ℕ → List ℕ → Bool
cause1 wanted s = ltb (length s) 16 || not (same_list (take 4 s) wanted)

-- m is 0 or over 4,096
unfoldable pub cause2 : ℕ → Bool
cause2 m = eqb m 0 || ltb 4096 m

-- N is 0 or over 4,096
unfoldable pub cause3 : Family → Bool
cause3 F = eqb (leaves F) 0 || ltb 4096 (leaves F)

-- K over 2N - 1
unfoldable pub cause4 : Family → Bool
cause4 F = ltb (2 * leaves F - 1) (region_count F)

-- an offset or the total not as laid down for a file with its leaf lengths from that byte on, or the given length not the total
unfoldable pub cause5 : ℕ → List ℕ → Bool
cause5 start s =
    let N : ℕ = leaves (family_of s) in
    let K : ℕ = region_count (family_of s) in
    not (eqb (number_at s 10) start)
    || not (eqb (number_at s 12) (start + 2 * N))
    || not (eqb (number_at s 14) (start + 2 * N + 6 * K))
    || not (eqb (length s) (number_at s 14))

-- the leaf lengths do not add to m
unfoldable pub cause6 : Family → Bool
cause6 F = not (eqb (sum F.lengths) F.peptides)

-- first leaf 0, last below first, or last over N
unfoldable pub misplaced : ℕ → Region → Bool
misplaced n r = eqb r.first 0 || ltb r.last r.first || ltb n r.last

unfoldable pub cause7 : Family → Bool
cause7 F = some_below (region_count F) (λ k. misplaced (leaves F) (region F k))

-- a region not after the one before it, the same one included
unfoldable pub cause8 : Family → Bool
cause8 F = some_below (region_count F - 1) (λ k. not (before (region F k) (region F (k + 1))))

-- two regions share a leaf, neither inside the other
unfoldable pub cause9 : Family → Bool
cause9 F = some_below (region_count F) (λ j. some_below j (λ i. crossing (region F i) (region F j)))

-- a region with more than 63 regions around it
unfoldable pub cause10 : Family → Bool
cause10 F = some_below (region_count F) (λ k. ltb 63 (regions_around F k))

-- a cause's number, and whether it holds
pub record Cause : Type 0 where
  pub number : ℕ
  pub holds : Bool

-- the number of the first cause that holds; 0 if none does
unfoldable pub first_cause : List Cause → ℕ
first_cause [] = 0
first_cause (c ∷ cs) = cond c.holds c.number (first_cause cs)

-- what the counts and the offsets say, of a file with its leaf lengths from that byte on
abbrev pub layout_causes : ℕ → List ℕ → List Cause
layout_causes start s =
    let F : Family = family_of s in
    record { number = 2; holds = cause2 F.peptides }
    ∷ record { number = 3; holds = cause3 F }
    ∷ record { number = 4; holds = cause4 F }
    ∷ record { number = 5; holds = cause5 start s }
    ∷ []

-- what the header says, of a file with that mark and its leaf lengths from that byte on
abbrev pub marked_causes : List ℕ → ℕ → List ℕ → List Cause
marked_causes wanted start s = record { number = 1; holds = cause1 wanted s } ∷ layout_causes start s

-- what the header of a family file says
unfoldable pub header_causes : List ℕ → List Cause
header_causes s = marked_causes mark lengths_offset s

-- what the leaf lengths and the regions say, one by one
abbrev pub listing_causes : Family → List Cause
listing_causes F = record { number = 6; holds = cause6 F } ∷ record { number = 7; holds = cause7 F } ∷ []

-- what the regions say, held against each other
abbrev pub arrangement_causes : Family → List Cause
arrangement_causes F =
    record { number = 8; holds = cause8 F }
    ∷ record { number = 9; holds = cause9 F }
    ∷ record { number = 10; holds = cause10 F }
    ∷ []

-- what the leaf lengths and the regions say
unfoldable pub family_causes : Family → List Cause
family_causes F = listing_causes F ++ arrangement_causes F

unfoldable pub file_causes : List ℕ → List Cause
file_causes s = header_causes s ++ family_causes (family_of s)

-- none of the causes 1 to 10 holds
abbrev pub Accepted : List ℕ → Type 0
Accepted s = first_cause (file_causes s) ≡ 0

-- bytes that are an accepted file
pub record AcceptedFile : Type 0 where
  pub file : List ℕ
  pub bytes : IsBytes file
  pub accepted : Accepted file
