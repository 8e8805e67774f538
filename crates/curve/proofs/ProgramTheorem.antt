-- Demand 1 of the program: whatever the two files hold, it prints one line with the number of the first cause that holds, else the table.
-- `render` promises the text `output`; this says what that text is.
use Prim.Native.Nat.{ℕ}
use mathlib.Core.List.{List, [], ◌∷◌, map}
use mathlib.Core.Path.{◌≡◌, refl}
use borrow.Author.Tests.{ne_eqb}
use Rattle.reader.specs.Family.{family_of}
use Rattle.reader.specs.Causes.{first_cause, header_causes, family_causes, file_causes}
use Rattle.bounds.specs.Curves.{curve_values, curve_marks}
use Rattle.bounds.specs.Calls.{path_causes}
use Rattle.curve.specs.Text.{table_of, refusal}
use Rattle.curve.specs.Program.{path_of, program_causes, text_of, output}

pub record ProgramTheorem : Type 0 where
  -- The causes that it tries, in this order; the first 11 is an odd byte count of the path file, the second a path longer than m.
  pub tries : (family bytes : List ℕ) → map (λ c. c.number) (program_causes family bytes) ≡ 1 ∷ 2 ∷ 3 ∷ 4 ∷ 5 ∷ 6 ∷ 7 ∷ 8 ∷ 9 ∷ 10 ∷ 11 ∷ 11 ∷ 12 ∷ 13 ∷ []
  -- With a cause it prints one line with its number,
  pub refuses : (family bytes : List ℕ) → (first_cause (program_causes family bytes) ≡ 0 → ⊥) → output family bytes ≡ refusal (first_cause (program_causes family bytes))
  -- with none the table of the path's curve and marks.
  pub prints : (family bytes : List ℕ) → first_cause (program_causes family bytes) ≡ 0
      → output family bytes ≡ table_of (path_of bytes) (curve_values (family_of family) (path_of bytes)) (curve_marks (family_of family) (path_of bytes))

pub program_theorem : ProgramTheorem
unfolding header_causes family_causes file_causes path_causes program_causes output text_of
program_theorem =
    record {
      tries = λ family bytes. refl;
      refuses = λ family bytes some. rw (ne_eqb (first_cause (program_causes family bytes)) 0 some);
      prints = λ family bytes none. rw none;
    }
