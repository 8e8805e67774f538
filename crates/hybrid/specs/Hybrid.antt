-- The Simes bound of a selection, the hybrid curve, and cause 23. p-values and the level are whole millionths.
use Rattle.std.specs.Prelude.{ℕ, zero, suc, ◌+◌, ◌-◌, ◌*◌, ◌≤◌, min, Bool, not, cond, ◌&&◌, ◌||◌, List, ◌≡◌, length, get_or, take, eqb, ltb}
use Rattle.reader.specs.Lists.{tabulate}
use Rattle.reader.specs.Family.{Family}
use Rattle.bounds.specs.Ranges.{Peptides, card}
use Rattle.bounds.specs.Curves.{among, entry}
use Rattle.pvalues.specs.FromP.{million}

-- the p-value of a peptide; the first in the list is that of peptide 1
unfoldable pub p_value_of : List ℕ → ℕ → ℕ
p_value_of ps peptide = get_or ps (peptide - 1) 0

-- A peptide is counted at k if its p times m is greater than the level times k. One that is equal to its threshold is not: the sources
-- differ there, and (7) of the first holds.
unfoldable pub counted_at : ℕ → List ℕ → ℕ → ℕ → Peptides
counted_at m ps level k peptide = ltb (level * k) (p_value_of ps peptide * m)

-- k - 1, plus the count of the selected peptides that are counted at k
unfoldable pub simes_at : ℕ → List ℕ → ℕ → Peptides → ℕ → ℕ
simes_at m ps level S k = k - 1 + card m (λ p. S p && counted_at m ps level k p)

-- the least of f at 1 to n; 0 if n is 0
unfoldable pub least_up_to : ℕ → (ℕ → ℕ) → ℕ
least_up_to zero f = 0
least_up_to (suc zero) f = f 1
least_up_to (suc (suc n)) f = min (least_up_to (suc n) f) (f (suc (suc n)))

-- The Simes bound of a selection: 0 if it is empty, else the least over k from 1 to m. It is V_Simes of the source, (7), with the level
-- for α.
unfoldable pub simes : ℕ → List ℕ → ℕ → Peptides → ℕ
simes m ps level S = cond (eqb (card m S) 0) 0 (least_up_to m (simes_at m ps level S))

-- A set that is admissible for Simes's own regions, those of the source above (7): it has at most k - 1 of the peptides with p at or
-- under the threshold of k, for every k from 1 to m.
abbrev pub SimesAdmissible : ℕ → List ℕ → ℕ → Peptides → Type 0
SimesAdmissible m ps level A = (k : ℕ) → 1 ≤ k → k ≤ m → card m (λ p. A p && not (counted_at m ps level k p)) ≤ k - 1

-- Formula (3) for Simes's own regions: v is the largest count of S in any set that is admissible for them.
pub record IsSimesLargest (m : ℕ) (ps : List ℕ) (level : ℕ) (S : Peptides) (v : ℕ) : Type 0 where
  pub witness : Peptides
  pub admissible : SimesAdmissible m ps level witness
  pub reached : card m (λ p. witness p && S p) ≡ v
  pub at_most : (A : Peptides) → SimesAdmissible m ps level A → card m (λ p. A p && S p) ≤ v

-- entry t of the hybrid curve: the smaller of the region bound and the Simes bound of the first t peptides
unfoldable pub hybrid_entry : Family → List ℕ → ℕ → List ℕ → ℕ → ℕ
hybrid_entry F ps level path t = min (entry F path t) (simes F.peptides ps level (among (take t path)))

-- the entries 0 to T
unfoldable pub hybrid_values : Family → List ℕ → ℕ → List ℕ → List ℕ
hybrid_values F ps level path = tabulate (length path + 1) (hybrid_entry F ps level path)

-- the level is 0 or over 1,000,000
unfoldable pub cause23 : ℕ → Bool
cause23 level = eqb level 0 || ltb million level
