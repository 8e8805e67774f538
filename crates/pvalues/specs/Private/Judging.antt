-- What the private functions that try the causes promise each other.
use Rattle.std.specs.Prelude.{ℕ, ◌≤◌, List, ◌≡◌, length}
use Rattle.reader.specs.Family.{family_of}
use Rattle.reader.specs.Causes.{first_cause, Accepted}
use Rattle.pvalues.specs.Calls.{from_p_causes}
use Rattle.pvalues.specs.Private.Lowering.{PValues}
use Rattle.pvalues.specs.Private.Climbing.{Parented}

-- what is known where no cause holds
pub record Ready (file ps : List ℕ) (deviationSquared room : ℕ) (P : List ℕ) : Type 0 where
  pub accepted : Accepted file
  pub parented : Parented (family_of file) P
  pub known : PValues (family_of file) ps deviationSquared
  pub fits : length file ≤ room

-- r is the number of the first cause that holds; where none does, the list holds the parents
pub record FromPJudged (file ps : List ℕ) (deviationSquared room : ℕ) (P : List ℕ) (r : ℕ) : Type 0 where
  pub first : r ≡ first_cause (from_p_causes file ps deviationSquared room)
  pub ready : r ≡ 0 → Ready file ps deviationSquared room P
