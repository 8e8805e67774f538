-- What `choose` answers and writes, defined from its inputs.
use Rattle.std.specs.Prelude.{ℕ, List, [], ◌∷◌, ◌≡◌, length, Float, Result}
use Rattle.reader.specs.Causes.{Cause, cause2, first_cause}
use Rattle.reader.specs.declared.refusal.Refusal.{Refusal}
use Rattle.reader.specs.Refusals.{verdict}
use Rattle.reader.specs.Calls.{written}
use Rattle.volcano.specs.Rules.{chosen, cause17, cause18, cause19}
use Rattle.volcano.specs.declared.Rule.{Rule}

-- the causes, in the order in which they are tried; room is the number of places of the output
unfoldable pub choose_causes : ℕ → List Float → List Float → Rule → ℕ → List Cause
choose_causes m ps folds rule room =
    record { number = 2; holds = cause2 m }
    ∷ record { number = 17; holds = cause17 m ps folds room }
    ∷ record { number = 18; holds = cause18 ps folds }
    ∷ record { number = 19; holds = cause19 rule }
    ∷ []

-- What the call promises. The list that is lent for the output stands for what it held before the call; new is what the call leaves
-- in it.

-- the answer r: no value comes with it, so it is the number alone
abbrev pub ChooseAnswers : ℕ → List Float → List Float → Rule → List ℕ → Result (Unit {0}) Refusal → Type 0
ChooseAnswers m ps folds rule out r = verdict r ≡ first_cause (choose_causes m ps folds rule (length out))

-- the selection
abbrev pub ChooseWrites : ℕ → List Float → List Float → Rule → List ℕ → List ℕ → Type 0
ChooseWrites m ps folds rule out new = new ≡ written (choose_causes m ps folds rule (length out)) (chosen rule ps folds) out
