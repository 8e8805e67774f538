-- What the call of `leaves` answers, defined from the bytes of the file.
use Rattle.std.specs.Prelude.{◌≡◌, ℕ, List}
use Rattle.reader.specs.Family.{family_of, leaf_of}

-- the answer of `leaf_of`: a leaf's number
abbrev pub LeafAnswers : List ℕ → ℕ → ℕ → Type 0
LeafAnswers file peptide leaf = leaf ≡ leaf_of (family_of file) peptide
