-- What the calls of `reduction` answer and write, defined from their inputs.
use Rattle.std.specs.Prelude.{ℕ, ◌+◌, Bool, cond, Result, Ok, Err, List, [], ◌∷◌, ◌++◌, map, ◌≡◌, length}
use Rattle.reader.specs.Lists.{same_list}
use Rattle.reader.specs.Bytes.{number_at}
use Rattle.reader.specs.Causes.{Cause, file_causes}
use Rattle.reader.specs.declared.refusal.Refusal.{Refusal}
use Rattle.reader.specs.Refusals.{number_of, beside, Report, report}
use Rattle.reader.specs.Calls.{answer, written, short}
use Rattle.reduction.specs.Reduction.{reduced_file}
use Rattle.reduction.specs.declared.Size.{Size}
use Rattle.reduction.specs.declared.PairRefusal.{PairRefusal}
use Rattle.reduction.specs.declared.PairRefusal.TheVariants.{First, Second}

-- the number of a cause of two families
abbrev pub pair_number : PairRefusal → ℕ
pair_number (First e) = number_of e
pair_number (Second e) = number_of e + 100

-- what is returned beside it
abbrev pub pair_beside : PairRefusal → List ℕ
pair_beside (First e) = beside e
pair_beside (Second e) = beside e

-- The number and the values of each answer.

abbrev pub size_values : Size → List ℕ
size_values size = size.length ∷ size.regions ∷ []

abbrev pub report_reduced : Result Size Refusal → Report
report_reduced r = report size_values r

-- yes is 1, no is 0
abbrev pub report_compared : Result Bool PairRefusal → Report
report_compared (Ok same) = record { number = 0; values = cond same 1 0 ∷ [] }
report_compared (Err e) = record { number = pair_number e; values = pair_beside e }

-- reduction output under the family's length
unfoldable pub reduce_causes : List ℕ → List ℕ → List Cause
reduce_causes file out = file_causes file ++ (record { number = 16; holds = short (length file) (length out) } ∷ [])

-- the length and the K of the reduced file, as they stand in it at offsets 14 and 8
unfoldable pub reduced_counts : List ℕ → List ℕ
reduced_counts file = number_at (reduced_file file) 14 ∷ number_at (reduced_file file) 8 ∷ []

-- the causes of the first family, then those of the second, whose numbers have 100 added
unfoldable pub compare_causes : List ℕ → List ℕ → List Cause
compare_causes first second =
    file_causes first ++ map (λ c. record { number = c.number + 100; holds = c.holds }) (file_causes second)

-- 1 exactly when the two reductions are equal, else 0
unfoldable pub comparison : List ℕ → List ℕ → List ℕ
comparison first second = cond (same_list (reduced_file first) (reduced_file second)) 1 0 ∷ []

-- What the calls promise. The theorem of demand 3 (`DemandThree`) rests on these promises.

-- the answer r of `reduce`
abbrev pub ReduceAnswers : List ℕ → List ℕ → Result Size Refusal → Type 0
ReduceAnswers file out r = report_reduced r ≡ answer (reduce_causes file out) (reduced_counts file)

-- what it leaves in the output
abbrev pub ReduceWrites : List ℕ → List ℕ → List ℕ → Type 0
ReduceWrites file out new = new ≡ written (reduce_causes file out) (reduced_file file) out

-- the answer r of `same`
abbrev pub SameAnswers : List ℕ → List ℕ → Result Bool PairRefusal → Type 0
SameAnswers first second r = report_compared r ≡ answer (compare_causes first second) (comparison first second)
