-- Calls of `curve`, `cut`, `bound` and `bound_list` that have nothing to decline: an accepted file, a path, a selection or a list
-- of them, and room for what is written. Of the answer and of what the call leaves in the lent lists they hold the promises of the
-- contracts that the theorems need. At the end any call of `bound_list`, declined or not.
use Rattle.std.specs.Prelude.{ℕ, ◌+◌, ◌≤◌, false, List, ◌≡◌, length, Result}
use Rattle.reader.specs.Family.{family_of, region_count}
use Rattle.reader.specs.Causes.{AcceptedFile}
use Rattle.reader.specs.declared.refusal.Refusal.{Refusal}
use Rattle.bounds.specs.Selections.{cause14}
use Rattle.bounds.specs.SelectionLists.{list_cause14}
use Rattle.bounds.specs.Tally.{charge_of, added}
use Rattle.bounds.specs.Curves.{cause15}
use Rattle.bounds.specs.declared.Listed.{Listed}
use Rattle.bounds.specs.Calls.{IsPath, BoundAnswers, TakenWrites, ListAnswers, ListWrites, CurveValuesWrites, CurveMarksWrites, CurveDeclines, CutAnswers}

-- a call of `curve`
pub record CurveCall (f : AcceptedFile) : Type 0 where
  pub path : List ℕ
  pub is_path : IsPath (family_of f.file).peptides path
  -- the lent lists before it
  pub old_values : List ℕ
  pub old_marks : List ℕ
  pub values_room : length path + 1 ≤ length old_values
  pub marks_room : length path ≤ length old_marks
  -- its answer, and the lists after it
  pub answer : Result (Unit {0}) Refusal
  pub values : List ℕ
  pub marks : List ℕ
  -- its promises
  pub declines : CurveDeclines f.file path old_values old_marks answer
  pub writes_values : CurveValuesWrites f.file path old_values old_marks values
  pub writes_marks : CurveMarksWrites f.file path old_values old_marks marks

-- a call of `cut`
pub record CutCall (f : AcceptedFile) : Type 0 where
  pub path : List ℕ
  pub is_path : IsPath (family_of f.file).peptides path
  -- the fraction a / b
  pub a : ℕ
  pub b : ℕ
  pub is_fraction : cause15 a b ≡ false
  -- its answer, and its promise
  pub answer : Result ℕ Refusal
  pub answers : CutAnswers f.file path a b answer

-- a call of `bound`
pub record BoundCall (f : AcceptedFile) : Type 0 where
  pub selection : List ℕ
  pub is_selection : cause14 (family_of f.file).peptides selection ≡ false
  -- the lent list before it
  pub old_taken : List ℕ
  pub taken_room : region_count (family_of f.file) ≤ length old_taken
  -- its answer, and the list after it
  pub answer : Result ℕ Refusal
  pub taken : List ℕ
  -- its promises
  pub answers : BoundAnswers f.file selection old_taken answer
  pub writes_taken : TakenWrites f.file selection old_taken taken

-- a call of `bound_list`
pub record ListCall (f : AcceptedFile) : Type 0 where
  pub selections : List ℕ
  pub count : ℕ
  pub tally : ℕ
  pub is_list : list_cause14 (family_of f.file).peptides selections count ≡ false
  -- the lent list before it
  pub old_values : List ℕ
  pub values_room : count ≤ length old_values
  pub few : count ≤ 32
  pub tally_room : added tally (charge_of (region_count (family_of f.file)) count) ≤ 4294967295
  -- its answer, and the list after it
  pub answer : Listed
  pub values : List ℕ
  -- its promises
  pub answers : ListAnswers f.file selections count tally old_values answer
  pub writes : ListWrites f.file selections count tally old_values values

-- any call of `bound_list`, of any bytes
pub record AnyListCall : Type 0 where
  pub file : List ℕ
  pub selections : List ℕ
  pub count : ℕ
  pub tally : ℕ
  -- the lent list before it
  pub old_values : List ℕ
  -- its answer, and the list after it
  pub answer : Listed
  pub values : List ℕ
  -- its promises
  pub answers : ListAnswers file selections count tally old_values answer
  pub writes : ListWrites file selections count tally old_values values
