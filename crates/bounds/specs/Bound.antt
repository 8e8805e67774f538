-- The bound of a selection, the regions taken, and formula (3) of Durand, Blanchard, Neuvial and Roquain.
-- Written once over the number of peptides m, a list of ranges R and a set of peptides S.
use Rattle.std.specs.Prelude.{ℕ, zero, suc, ◌+◌, ◌≤◌, min, Bool, not, cond, ◌&&◌, List, [], ◌∷◌, map, ◌≡◌, length, eqb, ltb}
use Rattle.bounds.specs.Ranges.{Range, Peptides, card, count, some, sum_over, inside, parts, outermost, outside}

-- The inside total of q: the sum of the values of the ranges just inside it, plus its selected peptides in none of them.
-- `total_within k` goes k ranges deep; a chain of ranges, each inside the one before, is no longer than the list.
unfoldable pub total_within : ℕ → ℕ → List Range → Peptides → Range → ℕ
total_within zero m R S q = 0
total_within (suc k) m R S q =
    sum_over (λ r. min r.z (total_within k m R S r)) (parts R q) + count m (λ p. outside (parts R q) p && S p) q

unfoldable pub total : ℕ → List Range → Peptides → Range → ℕ
total m R S q = total_within (suc (length R)) m R S q

-- the value of r: the smaller of its z and its inside total
unfoldable pub value : ℕ → List Range → Peptides → Range → ℕ
value m R S r = min r.z (total m R S r)

-- the sum over the ranges with none around them, plus the selected peptides in no range
unfoldable pub bound : ℕ → List Range → Peptides → ℕ
bound m R S = sum_over (value m R S) (outermost R) + card m (λ p. outside R p && S p)

-- the z of r is less than its inside total
unfoldable pub full : ℕ → List Range → Peptides → Range → Bool
full m R S r = ltb r.z (total m R S r)

-- r is full, and no range around it is
unfoldable pub is_taken : ℕ → List Range → Peptides → Range → Bool
is_taken m R S r = full m R S r && not (some (λ q. inside r q && full m R S q) R)

-- 1 for a range taken, else 0, in file order
unfoldable pub taken_bytes : ℕ → List Range → Peptides → List ℕ
taken_bytes m R S = map (λ r. cond (is_taken m R S r) 1 0) R

-- the ranges whose byte is 1, the bytes in file order
unfoldable pub taken_by : List ℕ → List Range → List Range
taken_by [] R = []
taken_by (b ∷ bytes) [] = []
taken_by (b ∷ bytes) (r ∷ R) = cond (eqb b 1) (r ∷ taken_by bytes R) (taken_by bytes R)

-- the z of the ranges whose byte is 1, plus the selected peptides in none of them
unfoldable pub taken_sum : ℕ → List Range → Peptides → List ℕ → ℕ
taken_sum m R S bytes = sum_over (λ r. r.z) (taken_by bytes R) + card m (λ p. outside (taken_by bytes R) p && S p)

-- A is admissible: it has at most z peptides in each range; exactly z is allowed
abbrev pub Admissible : ℕ → List Range → Peptides → Type 0
Admissible m [] A = Unit {0}
Admissible m (r ∷ R) A = (count m A r ≤ r.z) × Admissible m R A

-- Formula (3): v is the largest count of S in any admissible set.
pub record IsLargest (m : ℕ) (R : List Range) (S : Peptides) (v : ℕ) : Type 0 where
  pub witness : Peptides
  pub admissible : Admissible m R witness
  pub reached : card m (λ p. witness p && S p) ≡ v
  pub at_most : (A : Peptides) → Admissible m R A → card m (λ p. A p && S p) ≤ v
