-- Calls of `to_levels` and of `from_levels` that have nothing to decline, of which the theorem speaks: an accepted file, and room for
-- what is written. And what the two files of such a call have in common.
use Rattle.std.specs.Prelude.{ℕ, ◌+◌, ◌-◌, ◌≤◌, Bool, List, ◌≡◌, length, take, Result}
use Rattle.reader.specs.Lists.{those}
use Rattle.reader.specs.Family.{Region, Family}
use Rattle.reader.specs.Causes.{AcceptedFile}
use Rattle.levels.specs.Causes.{AcceptedLevelFile}
use Rattle.levels.specs.Calls.{ToLevelsAnswers, ToLevelsWrites, FromLevelsAnswers, FromLevelsWrites}
use Rattle.reader.specs.declared.refusal.Refusal.{Refusal}

-- a call of `to_levels`
pub record ToLevelsCall (f : AcceptedFile) : Type 0 where
  -- the lent list before it
  pub old : List ℕ
  pub room : length f.file + 128 ≤ length old
  -- its answer and the lent list after it, with its promises
  pub answer : Result ℕ Refusal
  pub new : List ℕ
  pub answers : ToLevelsAnswers f.file old answer
  pub writes : ToLevelsWrites f.file old new

-- the file that it has written, 128 bytes longer than the given one
unfoldable pub written_by_level : (f : AcceptedFile) → ToLevelsCall f → List ℕ
written_by_level f c = take (length f.file + 128) c.new

-- a call of `from_levels`
pub record FromLevelsCall (f : AcceptedLevelFile) : Type 0 where
  -- the lent list before it
  pub old : List ℕ
  pub room : length f.file - 128 ≤ length old
  -- its answer and the lent list after it, with its promises
  pub answer : Result ℕ Refusal
  pub new : List ℕ
  pub answers : FromLevelsAnswers f.file old answer
  pub writes : FromLevelsWrites f.file old new

-- the file that it has written, 128 bytes shorter than the given one
unfoldable pub written_as_family : (f : AcceptedLevelFile) → FromLevelsCall f → List ℕ
written_as_family f c = take (length f.file - 128) c.new

-- The two families have the same m and the same leaf lengths, and the same regions with their z, in any order: as many of the one as of
-- the other pass any test.
pub record Rearranged (F G : Family) : Type 0 where
  pub peptides : G.peptides ≡ F.peptides
  pub lengths : G.lengths ≡ F.lengths
  pub regions : (t : Region → Bool) → length (those t G.regions) ≡ length (those t F.regions)
