-- Bytes, and the 2-byte numbers of a family file, low byte first.
use Rattle.std.specs.Prelude.{ℕ, ◌+◌, ◌*◌, ◌/◌, ◌%◌, ◌<◌, List, [], ◌∷◌, get_or}
use Rattle.std.proofs.lemmas.List.Edits.{sets}

-- every element is a byte, as it is in every `&[u8]`
abbrev pub IsBytes : List ℕ → Type 0
IsBytes s = (i : ℕ) → get_or s i 0 < 256

-- the number at an offset; what lies past the end counts as 0
unfoldable pub number_at : List ℕ → ℕ → ℕ
number_at s i = get_or s i 0 + 256 * get_or s (i + 1) 0

-- the numbers in a row, 2 bytes each
unfoldable pub bytes_of : List ℕ → List ℕ
bytes_of [] = []
bytes_of (n ∷ ns) = n % 256 ∷ n / 256 % 256 ∷ bytes_of ns

-- a list of bytes with the numbers written over it from an offset on, 2 bytes each; a byte past the end is not written
unfoldable pub with_numbers : List ℕ → ℕ → List ℕ → List ℕ
with_numbers out at ns = sets out at (bytes_of ns)
