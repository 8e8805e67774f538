-- What `bounds_from_p` answers and writes, defined from its inputs.
use Rattle.std.specs.Prelude.{ℕ, Bool, List, [], ◌∷◌, ◌++◌, ◌≡◌, length, Result}
use Rattle.reader.specs.Family.{family_of, file_of}
use Rattle.reader.specs.Causes.{Cause, first_cause, file_causes}
use Rattle.reader.specs.Refusals.{verdict}
use Rattle.reader.specs.Calls.{written, short}
use Rattle.reader.specs.declared.refusal.Refusal.{Refusal}
use Rattle.pvalues.specs.FromP.{family_from_p, cause20, cause21, cause22}

-- what `bounds_from_p` and `hybrid` try after the family, and the path if there is one: an output that is too short, then the p-values
unfoldable pub room_and_p_values : Bool → ℕ → List ℕ → List Cause
room_and_p_values tooShort m ps =
    record { number = 16; holds = tooShort }
    ∷ record { number = 20; holds = cause20 m ps }
    ∷ record { number = 21; holds = cause21 ps }
    ∷ []

-- what is tried after the file: an output under the family's length, the p-values, then the constant
unfoldable pub from_p_inputs : List ℕ → List ℕ → ℕ → ℕ → List Cause
from_p_inputs file ps deviationSquared room =
    room_and_p_values (short (length file) room) (family_of file).peptides ps
    ++ (record { number = 22; holds = cause22 deviationSquared } ∷ [])

-- the causes, in the order in which they are tried; room is the number of bytes of the output
unfoldable pub from_p_causes : List ℕ → List ℕ → ℕ → ℕ → List Cause
from_p_causes file ps deviationSquared room = file_causes file ++ from_p_inputs file ps deviationSquared room

-- the file of the family with the z from the p-values
unfoldable pub file_from_p : List ℕ → List ℕ → ℕ → List ℕ
file_from_p file ps deviationSquared = file_of (family_from_p (family_of file) ps deviationSquared)

-- What the call promises. The list that is lent for the output stands for what it held before the call; new is what the call leaves
-- in it.

-- the answer r of `bounds_from_p`: no value comes with it, so that its number says all
abbrev pub FromPAnswers : List ℕ → List ℕ → ℕ → List ℕ → Result (Unit {0}) Refusal → Type 0
FromPAnswers file ps deviationSquared out r = verdict r ≡ first_cause (from_p_causes file ps deviationSquared (length out))

-- the file of `bounds_from_p`
abbrev pub FromPWrites : List ℕ → List ℕ → ℕ → List ℕ → List ℕ → Type 0
FromPWrites file ps deviationSquared out new =
    new ≡ written (from_p_causes file ps deviationSquared (length out)) (file_from_p file ps deviationSquared) out
