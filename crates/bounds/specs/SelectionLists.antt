-- A list of selections, joined in one buffer: the first m bytes are the first selection, the next m the second, and so on.
use Rattle.std.specs.Prelude.{ℕ, ◌*◌, ◌<◌, Bool, List, [], ◌≡◌, length, get_or, take, drop, ltb}
use Rattle.reader.specs.Lists.{tabulate}
use Rattle.reader.specs.Family.{Family}
use Rattle.bounds.specs.Selections.{bound_of, cause14}

-- selection i of a list, counted from 0
unfoldable pub selection_at : ℕ → List ℕ → ℕ → List ℕ
selection_at m selections i = take m (drop (i * m) selections)

-- for each selection of a list, in its order, the bound that it has alone
unfoldable pub list_bounds : Family → List ℕ → ℕ → List ℕ
list_bounds F selections count = tabulate count (λ i. bound_of F (selection_at F.peptides selections i))

-- a list that is not count times m bytes, or a byte over 1 in any selection: cause 14 of as many bytes as all have together
abbrev pub list_cause14 : ℕ → List ℕ → ℕ → Bool
list_cause14 m selections count = cause14 (count * m) selections

-- more than 32 selections
unfoldable pub cause24 : ℕ → Bool
cause24 count = ltb 32 count

-- each of the selections has m bytes
abbrev pub EachOf : ℕ → List (List ℕ) → Type 0
EachOf m L = (i : ℕ) → i < length L → length (get_or L i []) ≡ m
