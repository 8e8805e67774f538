-- A path of different peptides, its curve and marks, and the cut.
use Rattle.std.specs.Prelude.{ℕ, zero, suc, ◌+◌, ◌-◌, ◌*◌, ◌≤◌, ◌<◌, Bool, cond, ◌||◌, List, ◌≡◌, length, get_or, take, eqb, leb, ltb}
use Rattle.reader.specs.Lists.{tabulate, some_below, first_below}
use Rattle.reader.specs.Family.{Family}
use Rattle.bounds.specs.Ranges.{Peptides, some, ranges_of}
use Rattle.bounds.specs.Bound.{bound}

-- the peptides of a list
unfoldable pub among : List ℕ → Peptides
among ps p = some (λ q. eqb p q) ps

-- entry t of the curve: the bound of the first t peptides
unfoldable pub entry : Family → List ℕ → ℕ → ℕ
entry F path t = bound F.peptides (ranges_of F) (among (take t path))

-- the entries 0 to T
unfoldable pub curve_values : Family → List ℕ → List ℕ
curve_values F path = tabulate (length path + 1) (entry F path)

-- mark t is 1 exactly when entry t is one more than entry t - 1, else 0
unfoldable pub mark_at : Family → List ℕ → ℕ → ℕ
mark_at F path t = cond (eqb (entry F path t) (entry F path (t - 1) + 1)) 1 0

-- the marks 1 to T
unfoldable pub curve_marks : Family → List ℕ → List ℕ
curve_marks F path = tabulate (length path) (λ i. mark_at F path (i + 1))

-- the largest number up to n that passes the test; 0 if none above 0 does
unfoldable pub largest_up_to : ℕ → (ℕ → Bool) → ℕ
largest_up_to zero p = 0
largest_up_to (suc n) p = cond (p (suc n)) (suc n) (largest_up_to n p)

-- the cut at q = a / b: the largest t at which entry t times b is at most a times t (it is at t = 0)
unfoldable pub cut_of : Family → List ℕ → ℕ → ℕ → ℕ
cut_of F path a b = largest_up_to (length path) (λ t. leb (entry F path t * b) (a * t))

-- t is the cut: the largest number from 0 to T that passes; equal passes
pub record IsCut (F : Family) (path : List ℕ) (a b t : ℕ) : Type 0 where
  pub most : t ≤ length path
  pub passes : entry F path t * b ≤ a * t
  pub largest : (u : ℕ) → u ≤ length path → entry F path u * b ≤ a * u → u ≤ t

-- path longer than m
unfoldable pub cause11 : ℕ → List ℕ → Bool
cause11 m path = ltb m (length path)

-- a path number 0 or over m
unfoldable pub cause12 : ℕ → List ℕ → Bool
cause12 m path = some_below (length path) (λ i. eqb (get_or path i 0) 0 || ltb m (get_or path i 0))

-- the peptide at place t, counted from 1, stands earlier too
unfoldable pub repeated : List ℕ → ℕ → Bool
repeated path t = some_below (t - 1) (λ i. eqb (get_or path i 0) (get_or path (t - 1) 0))

-- a peptide twice in the path
unfoldable pub cause13 : List ℕ → Bool
cause13 path = some_below (length path) (λ i. repeated path (i + 1))

-- the first place, counted from 1, whose peptide stands earlier too; 0 if there is none
unfoldable pub first_repeat : List ℕ → ℕ
first_repeat path = first_below (length path) (λ i. repeated path (i + 1))

-- the peptide at place t, counted from 1
abbrev pub peptide_at : List ℕ → ℕ → ℕ
peptide_at path t = get_or path (t - 1) 0

-- p is the first place whose peptide stands earlier too: from 2 to T, its peptide stands at a place q before it too, and the peptides
-- at the places before p are all different
pub record IsFirstRepeat (path : List ℕ) (p : ℕ) : Type 0 where
  pub from_two : 2 ≤ p
  pub most : p ≤ length path
  pub earlier : (q : ℕ) × (1 ≤ q) × (q < p) × (peptide_at path q ≡ peptide_at path p)
  pub first : (q r : ℕ) → 1 ≤ q → q < r → r < p → peptide_at path q ≡ peptide_at path r → ⊥

-- b is 0, or a over b
unfoldable pub cause15 : ℕ → ℕ → Bool
cause15 a b = eqb b 0 || ltb b a
