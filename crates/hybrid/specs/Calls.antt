-- What `hybrid` answers and writes, defined from its inputs.
use Rattle.std.specs.Prelude.{ℕ, ◌+◌, not, List, [], ◌∷◌, ◌++◌, ◌≡◌, length, eqb, Result, is_err}
use Rattle.reader.specs.Family.{family_of}
use Rattle.reader.specs.Causes.{Cause, first_cause}
use Rattle.reader.specs.Refusals.{report}
use Rattle.reader.specs.Calls.{written, short}
use Rattle.reader.specs.declared.refusal.Refusal.{Refusal}
use Rattle.bounds.specs.Calls.{input_causes, path_answer, no_values}
use Rattle.pvalues.specs.Calls.{room_and_p_values}
use Rattle.hybrid.specs.Hybrid.{hybrid_values, cause23}

-- what is tried after the file and the path: values under T + 1, the p-values, then the level
unfoldable pub hybrid_inputs : List ℕ → List ℕ → List ℕ → ℕ → ℕ → List Cause
hybrid_inputs file path ps level room =
    room_and_p_values (short (length path + 1) room) (family_of file).peptides ps
    ++ (record { number = 23; holds = cause23 level } ∷ [])

-- the causes, in the order in which they are tried; room is the number of places for values
unfoldable pub hybrid_causes : List ℕ → List ℕ → List ℕ → ℕ → ℕ → List Cause
hybrid_causes file path ps level room = input_causes file path ++ hybrid_inputs file path ps level room

-- What the call promises. The list that is lent for the values stands for what it held before the call; new is what the call leaves
-- in it.

-- the answer r of `hybrid`, and its values
abbrev pub HybridAnswers : List ℕ → List ℕ → List ℕ → ℕ → List ℕ → Result (Unit {0}) Refusal → Type 0
HybridAnswers file path ps level values r = report no_values r ≡ path_answer (hybrid_causes file path ps level (length values)) path []

abbrev pub HybridWrites : List ℕ → List ℕ → List ℕ → ℕ → List ℕ → List ℕ → Type 0
HybridWrites file path ps level values new =
    new ≡ written (hybrid_causes file path ps level (length values)) (hybrid_values (family_of file) ps level path) values

-- the answer of `hybrid` is a refusal exactly if a cause holds
abbrev pub HybridDeclines : List ℕ → List ℕ → List ℕ → ℕ → List ℕ → Result (Unit {0}) Refusal → Type 0
HybridDeclines file path ps level values r = is_err r ≡ not (eqb (first_cause (hybrid_causes file path ps level (length values))) 0)
