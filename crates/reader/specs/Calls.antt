-- What the calls of `reader` answer, defined from the bytes of the file.
use Rattle.std.specs.Prelude.{Result, ℕ, ◌+◌, Bool, cond, List, [], ◌∷◌, ◌++◌, ◌≡◌, length, take, drop, ltb, eqb}
pub use Rattle.reader.specs.Refusals.{Report, report}
use Rattle.reader.specs.Family as family
use Rattle.reader.specs.Family.{family_of, leaves, region_count, regions_offset}
use Rattle.reader.specs.Nesting.{parents}
use Rattle.reader.specs.Causes.{Cause, first_cause, file_causes}
use Rattle.reader.specs.declared.refusal.Refusal.{Refusal}
use Rattle.reader.specs.declared.Sizes.{Sizes}
use Rattle.reader.specs.declared.family.Region.{Region}

-- A call with these causes answers the number of the first that holds, else the values.
unfoldable pub answer : List Cause → List ℕ → Report
answer cs values = cond (eqb (first_cause cs) 0) (record { number = 0; values = values }) (record { number = first_cause cs; values = [] })

-- new elements at the start of a list, the rest of it unchanged
abbrev pub at_start : List ℕ → List ℕ → List ℕ
at_start new old = new ++ drop (length new) old

-- It writes the new elements at the start of a lent list if no cause holds; else the list is as it was.
unfoldable pub written : List Cause → List ℕ → List ℕ → List ℕ
written cs new old = cond (eqb (first_cause cs) 0) (at_start new old) old

-- m, N and K, as an answer has them
abbrev pub sizes : Sizes → List ℕ
sizes n = n.peptides ∷ n.leaves ∷ n.regions ∷ []

-- m, N and K
abbrev pub counts : family.Family → List ℕ
counts F = F.peptides ∷ leaves F ∷ region_count F ∷ []

-- m, N and K of an accepted file, else the number of the first cause that holds
unfoldable pub checked : List ℕ → Report
checked s = answer (file_causes s) (counts (family_of s))

-- the answer r of `check`
abbrev pub CheckAnswers : List ℕ → Result Sizes Refusal → Type 0
CheckAnswers s r = report sizes r ≡ checked s

-- the part of an accepted file that holds the regions; nothing of any other file
unfoldable pub region_part : List ℕ → List ℕ
region_part s = cond (eqb (first_cause (file_causes s)) 0) (drop (regions_offset (leaves (family_of s))) s) []

-- the byte of the file at which that part begins; of a refused file the first
unfoldable pub part_start : List ℕ → ℕ
part_start s = cond (eqb (first_cause (file_causes s)) 0) (regions_offset (leaves (family_of s))) 0

-- The slice r at q is a part of the slice s at p, from byte start of s on; equal bytes that lie elsewhere are not that part.
-- Where a slice lies is a pair: its block of memory, and how many bytes of the block come before it.
pub record PartOf (q : ℕ × ℕ) (r : List ℕ) (p : ℕ × ℕ) (s : List ℕ) (start : ℕ) : Type 0 where
  pub block : q.0 ≡ p.0
  pub place : q.1 ≡ p.1 + start
  pub bytes : r ≡ take (length r) (drop start s)

-- what `regions` hands back, r at q, of a file s at p
pub record RegionsGiven (q : ℕ × ℕ) (r : List ℕ) (p : ℕ × ℕ) (s : List ℕ) : Type 0 where
  pub part : PartOf q r p s (part_start s)
  pub bytes : r ≡ region_part s

-- an output with fewer places than needed
unfoldable pub short : ℕ → ℕ → Bool
short needed room = ltb room needed

-- the causes of `parents`: those of the file, then fewer places than K
unfoldable pub parents_causes : List ℕ → List ℕ → List Cause
parents_causes file out = file_causes file ++ (record { number = 16; holds = short (region_count (family_of file)) (length out) } ∷ [])

-- its answer r, and what it leaves in the lent list
abbrev pub ParentsAnswers : List ℕ → List ℕ → Result Sizes Refusal → Type 0
ParentsAnswers file out r = report sizes r ≡ answer (parents_causes file out) (counts (family_of file))

abbrev pub ParentsWrites : List ℕ → List ℕ → List ℕ → Type 0
ParentsWrites file out new = new ≡ written (parents_causes file out) (parents (family_of file)) out

-- the region that a struct holds
unfoldable pub held : Region → family.Region
held r = record { first = r.first.0; last = r.last.0; z = r.z }
