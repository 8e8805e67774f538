-- What the calls of `bounds` answer and write, defined from their inputs.
use Rattle.std.specs.Prelude.{ℕ, ◌+◌, not, cond, ◌||◌, List, [], ◌∷◌, ◌++◌, ◌≡◌, length, eqb, Result, Ok, Err, is_err}
use Rattle.reader.specs.Family.{family_of, region_count}
use Rattle.reader.specs.Causes.{Cause, first_cause, file_causes}
use Rattle.reader.specs.Refusals.{verdict, Report, report}
use Rattle.reader.specs.Calls.{answer, written, short}
use Rattle.reader.specs.declared.refusal.Refusal.{Refusal}
use Rattle.bounds.specs.Selections.{bound_of, taken_of, totals_of, cause14}
use Rattle.bounds.specs.SelectionLists.{list_bounds, list_cause14, cause24}
use Rattle.bounds.specs.Tally.{charge_of, added, cause25}
use Rattle.bounds.specs.Curves.{curve_values, curve_marks, cut_of, cause11, cause12, cause13, first_repeat, cause15}
use Rattle.bounds.specs.declared.Listed.{Listed}

-- The values of an answer that is a number, and of one that is nothing but done.

abbrev pub the_number : ℕ → List ℕ
the_number v = v ∷ []

abbrev pub no_values : Unit {0} → List ℕ
no_values done = []

-- What the answer to a list of selections says: the number of the first cause that holds, 0 for none; what the list is charged, 0 when
-- declined; and the tally with that charge added.
pub record ListReport : Type 0 where
  pub number : ℕ
  pub charge : ℕ
  pub tally : ℕ

-- what is charged; a refusal charges nothing
abbrev pub charge_in : Result ℕ Refusal → ℕ
charge_in (Ok charge) = charge
charge_in (Err refusal) = 0

abbrev pub report_list : Listed → ListReport
report_list r = record { number = verdict r.charged; charge = charge_in r.charged; tally = r.tally }

-- The causes of each call, in the order in which they are tried.

-- taken bytes or totals under K; room is the number of places for them
unfoldable pub causes_with_room : List ℕ → List ℕ → ℕ → List Cause
causes_with_room file selection room =
    file_causes file
    ++ (record { number = 14; holds = cause14 (family_of file).peptides selection }
    ∷ record { number = 16; holds = short (region_count (family_of file)) room }
    ∷ [])

abbrev pub selection_causes : List ℕ → List ℕ → List ℕ → List Cause
selection_causes file selection out = causes_with_room file selection (length out)

-- what is tried after the file, of m peptides and K regions: the bytes of all selections, values under the number of selections, that
-- number, then the tally
unfoldable pub list_inputs : ℕ → ℕ → List ℕ → ℕ → ℕ → ℕ → List Cause
list_inputs m K selections count tally room =
    record { number = 14; holds = list_cause14 m selections count }
    ∷ record { number = 16; holds = short count room }
    ∷ record { number = 24; holds = cause24 count }
    ∷ record { number = 25; holds = cause25 tally (charge_of K count) }
    ∷ []

-- the causes of a list of selections; room is the number of places for values
unfoldable pub list_causes : List ℕ → List ℕ → ℕ → ℕ → ℕ → List Cause
list_causes file selections count tally room =
    file_causes file ++ list_inputs (family_of file).peptides (region_count (family_of file)) selections count tally room

unfoldable pub path_causes : ℕ → List ℕ → List Cause
path_causes m path =
    record { number = 11; holds = cause11 m path }
    ∷ record { number = 12; holds = cause12 m path }
    ∷ record { number = 13; holds = cause13 path }
    ∷ []

-- a path of m peptides: none of the causes 11 to 13 holds
abbrev pub IsPath : ℕ → List ℕ → Type 0
IsPath m path = first_cause (path_causes m path) ≡ 0

-- the causes of a family and a path
unfoldable pub input_causes : List ℕ → List ℕ → List Cause
input_causes file path = file_causes file ++ path_causes (family_of file).peptides path

-- values under T + 1, marks under T
unfoldable pub curve_causes : List ℕ → List ℕ → List ℕ → List ℕ → List Cause
curve_causes file path values marks =
    input_causes file path
    ++ (record { number = 16; holds = short (length path + 1) (length values) || short (length path) (length marks) } ∷ [])

unfoldable pub cut_causes : List ℕ → List ℕ → ℕ → ℕ → List Cause
cut_causes file path a b = input_causes file path ++ (record { number = 15; holds = cause15 a b } ∷ [])

-- The refusal of a call with a path: with number 13 comes the first place whose peptide stands earlier too, with any other none.
unfoldable pub path_refusal : List ℕ → ℕ → Report
path_refusal path n = record { number = n; values = cond (eqb n 13) (first_repeat path ∷ []) [] }

-- A call with a path and these causes answers its refusal with the number of the first that holds, else the values.
unfoldable pub path_answer : List Cause → List ℕ → List ℕ → Report
path_answer cs path values = cond (eqb (first_cause cs) 0) (record { number = 0; values = values }) (path_refusal path (first_cause cs))

-- A call with these causes is charged this much if none holds, else nothing.
unfoldable pub charged : List Cause → ℕ → ℕ
charged cs charge = cond (eqb (first_cause cs) 0) charge 0

-- Its answer: the number of the first cause that holds, what it is charged, and the tally with that added.
unfoldable pub listed : List Cause → ℕ → ℕ → ListReport
listed cs charge tally = record { number = first_cause cs; charge = charged cs charge; tally = added tally (charged cs charge) }

-- What the calls promise. A list that is lent for an output stands for what it held before the call; new is what the call
-- leaves in it.

-- the answer r of `bound`, and that of `inside_totals`
abbrev pub BoundAnswers : List ℕ → List ℕ → List ℕ → Result ℕ Refusal → Type 0
BoundAnswers file selection out r = report the_number r ≡ answer (selection_causes file selection out) (bound_of (family_of file) selection ∷ [])

-- the bytes of `bound`
abbrev pub TakenWrites : List ℕ → List ℕ → List ℕ → List ℕ → Type 0
TakenWrites file selection taken new = new ≡ written (selection_causes file selection taken) (taken_of (family_of file) selection) taken

-- the totals of `inside_totals`
abbrev pub TotalsWrites : List ℕ → List ℕ → List ℕ → List ℕ → Type 0
TotalsWrites file selection out new = new ≡ written (selection_causes file selection out) (totals_of (family_of file) selection) out

-- the answer r of `bound_list`
abbrev pub ListAnswers : List ℕ → List ℕ → ℕ → ℕ → List ℕ → Listed → Type 0
ListAnswers file selections count tally values r =
    report_list r ≡ listed (list_causes file selections count tally (length values)) (charge_of (region_count (family_of file)) count) tally

-- its values
abbrev pub ListWrites : List ℕ → List ℕ → ℕ → ℕ → List ℕ → List ℕ → Type 0
ListWrites file selections count tally values new =
    new ≡ written (list_causes file selections count tally (length values)) (list_bounds (family_of file) selections count) values

-- the answer r of `curve`, its values and its marks
abbrev pub CurveAnswers : List ℕ → List ℕ → List ℕ → List ℕ → Result (Unit {0}) Refusal → Type 0
CurveAnswers file path values marks r = report no_values r ≡ path_answer (curve_causes file path values marks) path []

abbrev pub CurveValuesWrites : List ℕ → List ℕ → List ℕ → List ℕ → List ℕ → Type 0
CurveValuesWrites file path values marks new = new ≡ written (curve_causes file path values marks) (curve_values (family_of file) path) values

abbrev pub CurveMarksWrites : List ℕ → List ℕ → List ℕ → List ℕ → List ℕ → Type 0
CurveMarksWrites file path values marks new = new ≡ written (curve_causes file path values marks) (curve_marks (family_of file) path) marks

-- the answer of `curve` is a refusal exactly if a cause holds
abbrev pub CurveDeclines : List ℕ → List ℕ → List ℕ → List ℕ → Result (Unit {0}) Refusal → Type 0
CurveDeclines file path values marks r = is_err r ≡ not (eqb (first_cause (curve_causes file path values marks)) 0)

-- the answer r of `cut`
abbrev pub CutAnswers : List ℕ → List ℕ → ℕ → ℕ → Result ℕ Refusal → Type 0
CutAnswers file path a b r = report the_number r ≡ path_answer (cut_causes file path a b) path (cut_of (family_of file) path a b ∷ [])
