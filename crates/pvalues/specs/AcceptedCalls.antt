-- Calls of `bounds_from_p` that have nothing to decline, of which the theorem speaks: an accepted file, a p-value for each of its
-- peptides, a constant, and room for what is written.
use Rattle.std.specs.Prelude.{ℕ, ◌≤◌, false, List, ◌≡◌, length, take, Result}
use Rattle.reader.specs.Family.{Family, family_of}
use Rattle.reader.specs.Causes.{AcceptedFile}
use Rattle.reader.specs.declared.refusal.Refusal.{Refusal}
use Rattle.pvalues.specs.FromP.{cause20, cause21, cause22}
use Rattle.pvalues.specs.Calls.{FromPAnswers, FromPWrites}

-- a call of `bounds_from_p`
pub record FromPCall (f : AcceptedFile) : Type 0 where
  pub p_values : List ℕ
  pub counted : cause20 (family_of f.file).peptides p_values ≡ false
  pub small : cause21 p_values ≡ false
  pub deviation_squared : ℕ
  pub allowed : cause22 deviation_squared ≡ false
  -- the lent list before it
  pub old : List ℕ
  pub room : length f.file ≤ length old
  -- its answer and the lent list after it, with its promises
  pub answer : Result (Unit {0}) Refusal
  pub new : List ℕ
  pub answers : FromPAnswers f.file p_values deviation_squared old answer
  pub writes : FromPWrites f.file p_values deviation_squared old new

-- the file that it has written, as long as the given one, and the family in it
unfoldable pub new_file : (f : AcceptedFile) → FromPCall f → List ℕ
new_file f c = take (length f.file) c.new

abbrev pub new_family : (f : AcceptedFile) → FromPCall f → Family
new_family f c = family_of (new_file f c)
