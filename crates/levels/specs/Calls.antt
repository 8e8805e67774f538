-- What the two conversions answer and write, defined from their inputs.
use Rattle.std.specs.Prelude.{ℕ, ◌+◌, ◌-◌, List, [], ◌∷◌, ◌++◌, ◌≡◌, length, Result}
use Rattle.reader.specs.Family.{family_of}
use Rattle.reader.specs.Causes.{Cause, file_causes}
use Rattle.reader.specs.Refusals.{Report, report}
use Rattle.reader.specs.declared.refusal.Refusal.{Refusal}
use Rattle.reader.specs.Calls.{answer, written, short}
use Rattle.levels.specs.Levels.{level_file_of, family_file_of}
use Rattle.levels.specs.Causes.{form_causes, place_causes}

-- what a call answers that does its work: the length of the file that was written
abbrev pub the_length : ℕ → List ℕ
the_length n = n ∷ []

-- the number and the values of each case of an answer
abbrev pub report_converted : Result ℕ Refusal → Report
report_converted r = report the_length r

-- the causes in the order in which they are tried, with an output of that many bytes: those of a family file, then an output under the
-- given length plus 128
unfoldable pub to_levels_causes : List ℕ → ℕ → List Cause
to_levels_causes file room = file_causes file ++ (record { number = 16; holds = short (length file + 128) room } ∷ [])

-- an output under the given length less 128 comes before what the level counts say
unfoldable pub from_levels_causes : List ℕ → ℕ → List Cause
from_levels_causes file room = form_causes file ++ (record { number = 16; holds = short (length file - 128) room } ∷ place_causes file)

-- What the calls promise. The list that is lent for the output stands for what it held before the call; new is what the call leaves in
-- it.

-- the answer r of `to_levels`, and its file
abbrev pub ToLevelsAnswers : List ℕ → List ℕ → Result ℕ Refusal → Type 0
ToLevelsAnswers file out r = report_converted r ≡ answer (to_levels_causes file (length out)) (length (level_file_of (family_of file)) ∷ [])

abbrev pub ToLevelsWrites : List ℕ → List ℕ → List ℕ → Type 0
ToLevelsWrites file out new = new ≡ written (to_levels_causes file (length out)) (level_file_of (family_of file)) out

-- the answer r of `from_levels`, and its file
abbrev pub FromLevelsAnswers : List ℕ → List ℕ → Result ℕ Refusal → Type 0
FromLevelsAnswers file out r = report_converted r ≡ answer (from_levels_causes file (length out)) (length (family_file_of file) ∷ [])

abbrev pub FromLevelsWrites : List ℕ → List ℕ → List ℕ → Type 0
FromLevelsWrites file out new = new ≡ written (from_levels_causes file (length out)) (family_file_of file) out
