-- The program's output, defined from the bytes of the two files.
use Rattle.std.specs.Prelude.{ℕ, ◌*◌, ◌/◌, ◌%◌, Bool, cond, List, ◌∷◌, ◌++◌, length, eqb}
use Rattle.reader.specs.Lists.{tabulate}
use Rattle.reader.specs.Bytes.{number_at}
use Rattle.reader.specs.Family.{Family, family_of}
use Rattle.reader.specs.Causes.{Cause, first_cause, file_causes}
use Rattle.bounds.specs.Curves.{curve_values, curve_marks}
use Rattle.bounds.specs.Calls.{path_causes}
use Rattle.curve.specs.Text.{table_of, refusal}

-- the numbers of the path file, 2 bytes each, low byte first
unfoldable pub path_of : List ℕ → List ℕ
path_of bytes = tabulate (length bytes / 2) (λ i. number_at bytes (2 * i))

unfoldable pub odd : List ℕ → Bool
odd bytes = eqb (length bytes % 2) 1

-- an odd byte count is cause 11 too
unfoldable pub program_causes : List ℕ → List ℕ → List Cause
program_causes family bytes =
    file_causes family ++ (record { number = 11; holds = odd bytes } ∷ path_causes (family_of family).peptides (path_of bytes))

-- the table of a path, or one line with the number
unfoldable pub text_of : ℕ → List ℕ → List ℕ → List ℕ
text_of number family path =
    let F : Family = family_of family in
    cond (eqb number 0) (table_of path (curve_values F path) (curve_marks F path)) (refusal number)

-- by the number of the first cause that holds
unfoldable pub output : List ℕ → List ℕ → List ℕ
output family bytes = text_of (first_cause (program_causes family bytes)) family (path_of bytes)
