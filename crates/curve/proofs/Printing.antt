-- What the program prints for each answer of the check and of the curve.
use Prim.Native.Nat.{ℕ, zero, suc, ◌+◌, ◌<◌, ◌≤◌}
use native.Mathlib.Omega.{arith}
use mathlib.Core.Bool.{true, false, ◌||◌}
use mathlib.Core.List.{List, [], ◌∷◌, ◌++◌}
use mathlib.Core.Path.{◌≡◌, refl, sym, ap, ap₂, ◌∙◌}
use mathlib.Core.Logic.{⊎_elim}
use lib.ListN.{length, get_or, get_or-append}
use borrow.Author.Tests.{ne_eqb, le-ltb, ltb-false}
use Rattle.reader.specs.Family.{Family, family_of}
use Rattle.reader.specs.Causes.{Cause, first_cause, header_causes, family_causes, file_causes, Accepted}
use Rattle.reader.specs.Calls.{short}
use Rattle.reader.proofs.Bools.{or_neither}
use Rattle.reader.proofs.Lists.{length_tabulate}
use Rattle.reader.proofs.First.{Numbered, first_fails, head_clear, join_clear, join_holds, clear_left, clear_right, none_or_some}
use Rattle.reader.proofs.Judged.{peptides_counted}
use Rattle.reader.proofs.Accepting.{accepted_header, file_numbered}
use Rattle.bounds.specs.Curves.{curve_values, curve_marks, entry, mark_at, cause11}
use Rattle.bounds.specs.Calls.{path_causes, input_causes, curve_causes}
use Rattle.curve.specs.Text.{heading, rows, row_at, line_of, table_of, refusal}
use Rattle.curve.specs.Program.{path_of, odd, program_causes, text_of, output}

-- The number.

module _ (s bytes : List ℕ) where
  pub odd_path : Accepted s → odd bytes ≡ true → first_cause (program_causes s bytes) ≡ 11
  unfolding program_causes first_cause
  odd_path a o = join_clear (file_causes s) _ (file_numbered s) a ∙ rw o

  -- with an even byte count the program's causes are those of the family and the path
  pub even_number : odd bytes ≡ false → first_cause (program_causes s bytes) ≡ first_cause (input_causes s (path_of bytes))
  unfolding program_causes input_causes
  even_number o =
      ⊎_elim
      (λ a. join_clear (file_causes s) _ (file_numbered s) a ∙ first_fails _ _ o ∙ sym (join_clear (file_causes s) _ (file_numbered s) a))
      (λ r. join_holds (file_causes s) _ r ∙ sym (join_holds (file_causes s) _ r))
      (none_or_some (file_causes s))

  pub even_path : odd bytes ≡ false → output s bytes ≡ text_of (first_cause (input_causes s (path_of bytes))) s (path_of bytes)
  unfolding output
  even_path o = ap (λ (n : ℕ). text_of n s (path_of bytes)) (even_number o)

  pub prints_refusal : (n : ℕ) → n ≡ first_cause (program_causes s bytes) → (n ≡ 0 → ⊥) → output s bytes ≡ refusal n
  unfolding output text_of
  prints_refusal n e h = rw (← e, ne_eqb n 0 h)

inputs_numbered : (s path : List ℕ) → Numbered (input_causes s path)
unfolding input_causes file_causes header_causes family_causes path_causes
inputs_numbered s path = omega arith

room :
    (path values marks : List ℕ) → 4097 ≤ length values → 4096 ≤ length marks → length path ≤ 4096
    → first_cause (record { number = 16; holds = short (length path + 1) (length values) || short (length path) (length marks) } ∷ []) ≡ 0
unfolding first_cause short
room path values marks lv lm few =
    rw (or_neither (short (length path + 1) (length values)) (short (length path) (length marks)) (le-ltb (length values) (length path + 1) (omega arith)) (le-ltb (length marks) (length path) (omega arith)))

module _ (s path : List ℕ) where
  pub prints_table :
      first_cause (input_causes s path) ≡ 0
      → text_of (first_cause (input_causes s path)) s path ≡ table_of path (curve_values (family_of s) path) (curve_marks (family_of s) path)
  unfolding text_of
  prints_table h = rw h

  -- a path without a cause has at most 4,096 peptides
  pub short_path : first_cause (input_causes s path) ≡ 0 → length path ≤ 4096
  unfolding input_causes path_causes cause11
  short_path h =
      let a : Accepted s = clear_left (file_causes s) _ (file_numbered s) h in
      let rest = clear_right (file_causes s) _ (file_numbered s) h in
      let m : ℕ = (family_of s).peptides in
      let few = head_clear (record { number = 11; holds = cause11 m path }) _ (omega arith) rest in
      let most = peptides_counted (family_of s).peptides (accepted_header s a).no2 in
      omega (arith, ltb-false m (length path) few.0)

  -- the values and the marks have room, so the curve has no cause of its own
  pub curve_number : (values marks : List ℕ) → 4097 ≤ length values → 4096 ≤ length marks → first_cause (curve_causes s path values marks) ≡ first_cause (input_causes s path)
  unfolding curve_causes
  curve_number values marks lv lm =
      let last : Cause = record { number = 16; holds = short (length path + 1) (length values) || short (length path) (length marks) } in
      ⊎_elim
      (λ z. join_clear (input_causes s path) (last ∷ []) (inputs_numbered s path) z ∙ room path values marks lv lm (short_path z) ∙ sym z)
      (λ r. join_holds (input_causes s path) (last ∷ []) r)
      (none_or_some (input_causes s path))

-- A table reads the values and the marks of its lines only.

rows_same : (n : ℕ) (f g : ℕ → List ℕ) → ((t : ℕ) → t < n → f t ≡ g t) → rows n f ≡ rows n g
unfolding rows
rows_same zero f g h = refl
rows_same (suc n) f g h = ap₂ ◌++◌ (rows_same n f g (λ t l. h t (omega arith))) (h n (omega arith))

pub table_same :
    (path values more marks rest : List ℕ) → length path < length values → length path ≤ length marks
    → table_of path (values ++ more) (marks ++ rest) ≡ table_of path values marks
unfolding table_of row_at
table_same path values more marks rest lv lm =
    ap (λ (l : List ℕ). heading ++ l)
    (rows_same (length path + 1) (row_at path (values ++ more) (marks ++ rest)) (row_at path values marks)
    (λ t h. ap₂ (λ (v k : ℕ). line_of t (get_or (0 ∷ path) t 0) v k) (get_or-append values more 0 t (omega arith)) (get_or-append (0 ∷ marks) rest 0 t (omega arith))))

pub values_room : (F : Family) (path : List ℕ) → length path < length (curve_values F path)
unfolding curve_values
values_room F path = omega (arith, length_tabulate (length path + 1) (entry F path))

pub marks_room : (F : Family) (path : List ℕ) → length path ≤ length (curve_marks F path)
unfolding curve_marks
marks_room F path = omega (arith, length_tabulate (length path) (λ i. mark_at F path (i + 1)))
