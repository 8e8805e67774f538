-- Worked examples of the leaf walk: the eight-peptide family, and empty leaves.
use Rattle.std.proofs.Common.{◌≡◌, ℕ, List, [], ◌∷◌, refl}
use Rattle.reader.specs.Lists.{tabulate}
use Rattle.reader.specs.Family.{Family, leaf_after, leaf_of}
use Rattle.reader.proofs.Examples.{eight}

-- the leaves of the numbers 0 to n - 1
abbrev pub leaves_of : Family → ℕ → List ℕ
leaves_of F n = tabulate n (leaf_of F)

pub record LeafExamples : Type 0 where
  -- peptides 1 and 2 are in leaf 1, 3 to 5 in leaf 2, 6 in leaf 3, 7 and 8 in leaf 4; there is no peptide 9
  pub eight_leaves : leaves_of eight 10 ≡ 1 ∷ 1 ∷ 1 ∷ 2 ∷ 2 ∷ 2 ∷ 3 ∷ 4 ∷ 4 ∷ 0 ∷ []
  -- empty leaves before, between and after others: lengths 0, 2, 0, 0, 3, 0
  pub empty_leaves_passed : leaves_of (record { peptides = 5; lengths = 0 ∷ 2 ∷ 0 ∷ 0 ∷ 3 ∷ 0 ∷ []; regions = [] }) 7 ≡ 1 ∷ 2 ∷ 2 ∷ 5 ∷ 5 ∷ 5 ∷ 0 ∷ []

pub leaf_examples : LeafExamples
unfolding leaf_of leaf_after tabulate
leaf_examples = record { eight_leaves = refl; empty_leaves_passed = refl }
