-- Calls of `hybrid` that have nothing to decline, of which the theorem speaks: an accepted file, a path, a p-value for each of its
-- peptides, a level, and room for what is written.
use Rattle.std.specs.Prelude.{ℕ, ◌+◌, ◌≤◌, false, List, ◌≡◌, length, Result}
use Rattle.reader.specs.Family.{family_of}
use Rattle.reader.specs.Causes.{AcceptedFile}
use Rattle.reader.specs.declared.refusal.Refusal.{Refusal}
use Rattle.bounds.specs.Calls.{IsPath}
use Rattle.pvalues.specs.FromP.{cause20, cause21}
use Rattle.hybrid.specs.Hybrid.{cause23}
use Rattle.hybrid.specs.Calls.{HybridWrites, HybridDeclines}

-- a call of `hybrid`
pub record HybridCall (f : AcceptedFile) : Type 0 where
  pub path : List ℕ
  pub is_path : IsPath (family_of f.file).peptides path
  pub p_values : List ℕ
  pub counted : cause20 (family_of f.file).peptides p_values ≡ false
  pub small : cause21 p_values ≡ false
  pub level : ℕ
  pub allowed : cause23 level ≡ false
  -- the lent list before it
  pub old : List ℕ
  pub room : length path + 1 ≤ length old
  -- its answer and the lent list after it, with the promises that the theorem needs
  pub answer : Result (Unit {0}) Refusal
  pub new : List ℕ
  pub declines : HybridDeclines f.file path p_values level old answer
  pub writes : HybridWrites f.file path p_values level old new
