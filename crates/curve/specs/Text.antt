-- The text that the program prints: a table, or one line after a refusal.
use Rattle.std.specs.Prelude.{ℕ, zero, suc, ◌+◌, ◌/◌, ◌%◌, cond, List, [], ◌∷◌, ◌++◌, length, get_or, leb}

-- the digit of n at a place of value 10, 100, .., if n has one there
unfoldable pub digit_at : ℕ → ℕ → List ℕ
digit_at place n = cond (leb place n) ((48 + n / place % 10) ∷ []) []

-- a number of 16 bits, without leading zeros
unfoldable pub decimal : ℕ → List ℕ
decimal n = digit_at 10000 n ++ (digit_at 1000 n ++ (digit_at 100 n ++ (digit_at 10 n ++ ((48 + n % 10) ∷ []))))

-- a number and the byte after it
unfoldable pub field_of : ℕ → ℕ → List ℕ
field_of n after = decimal n ++ (after ∷ [])

-- four numbers, one blank apart, and the byte 10
unfoldable pub line_of : ℕ → ℕ → ℕ → ℕ → List ℕ
line_of a b c d = field_of a 32 ++ (field_of b 32 ++ (field_of c 32 ++ field_of d 10))

-- `t peptide bound mark`
unfoldable pub heading : List ℕ
heading = 116 ∷ 32 ∷ 112 ∷ 101 ∷ 112 ∷ 116 ∷ 105 ∷ 100 ∷ 101 ∷ 32 ∷ 98 ∷ 111 ∷ 117 ∷ 110 ∷ 100 ∷ 32 ∷ 109 ∷ 97 ∷ 114 ∷ 107 ∷ 10 ∷ []

-- the texts f 0, f 1, .., f (n - 1), one after the other
unfoldable pub rows : ℕ → (ℕ → List ℕ) → List ℕ
rows zero f = []
rows (suc n) f = rows n f ++ f n

-- t, the peptide at t, entry t, mark t; the peptide and the mark of t = 0 are printed as 0
unfoldable pub row_at : List ℕ → List ℕ → List ℕ → ℕ → List ℕ
row_at path values marks t = line_of t (get_or (0 ∷ path) t 0) (get_or values t 0) (get_or (0 ∷ marks) t 0)

unfoldable pub table_of : List ℕ → List ℕ → List ℕ → List ℕ
table_of path values marks = heading ++ rows (length path + 1) (row_at path values marks)

-- `refused`, a blank and the number
unfoldable pub refusal : ℕ → List ℕ
refusal n = 114 ∷ 101 ∷ 102 ∷ 117 ∷ 115 ∷ 101 ∷ 100 ∷ 32 ∷ field_of n 10
