-- Calls of `leaf_of` with an accepted file and one of its peptides, of which `leaf_laws` speaks, and which peptides are a leaf's own.
use Rattle.std.specs.Prelude.{ℕ, ◌+◌, ◌-◌, ◌<◌, ◌≤◌}
use Rattle.reader.specs.Family.{Family, family_of, leaf_length, peptides_up_to}
use Rattle.reader.specs.Causes.{AcceptedFile}
use Rattle.leaves.specs.Calls.{LeafAnswers}

pub record LeafCall (f : AcceptedFile) : Type 0 where
  pub peptide : ℕ
  pub some : 1 ≤ peptide
  pub most : peptide ≤ (family_of f.file).peptides
  -- its answer, and its promise
  pub leaf : ℕ
  pub promised : LeafAnswers f.file peptide leaf

-- The peptides of a leaf come after those of the leaves before it, and are as many as its length says.
pub record OfLeaf (F : Family) (leaf peptide : ℕ) : Type 0 where
  pub after : peptides_up_to F (leaf - 1) < peptide
  pub upto : peptide ≤ peptides_up_to F (leaf - 1) + leaf_length F leaf
