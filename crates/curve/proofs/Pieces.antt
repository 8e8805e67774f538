-- The pieces of the text, and how long they are.
use Prim.Native.Nat.{ℕ, zero, suc, ◌+◌, ◌*◌, ◌/◌, ◌%◌, ◌<◌, ◌≤◌}
use native.Mathlib.Omega.{arith}
use native.Mathlib.Numerals.{add-one}
use mathlib.Core.List.{List, [], ◌∷◌, ◌++◌, append_assoc}
use mathlib.Core.Path.{◌≡◌, refl, ap, ◌∙◌}
use mathlib.Core.Logic.{⊎_elim}
use lib.ListN.{length, get_or, length-append}
use lib.Dec.{leb}
use borrow.Author.Tests.{le-leb, lt-leb}
use Rattle.bounds.proofs.Basics.Members.{le_or_lt}
use Rattle.reader.proofs.Bools.{test}
use Rattle.curve.specs.Text.{digit_at, decimal, field_of, line_of, heading, rows, row_at}
use Rattle.std.specs.Fmt as std
use Rattle.std.proofs.lemmas.Fmt as law

pub digit_short : (place n : ℕ) → length (digit_at place n) ≤ 1
unfolding digit_at
digit_short place n = ⊎_elim (λ t. rw t (omega arith)) (λ f. rw f (omega arith)) (test (leb place n))

pub decimal_short : (n : ℕ) → length (decimal n) ≤ 5
unfolding decimal
decimal_short n =
    let last = (48 + n % 10) ∷ [] in
    let d = digit_at 10 n ++ last in
    let c = digit_at 100 n ++ d in
    let b = digit_at 1000 n ++ c in
    omega (
      arith,
      length-append (digit_at 10000 n) b,
      length-append (digit_at 1000 n) c,
      length-append (digit_at 100 n) d,
      length-append (digit_at 10 n) last,
      digit_short 10000 n,
      digit_short 1000 n,
      digit_short 100 n,
      digit_short 10 n,
    )

pub field_short : (n after : ℕ) → length (field_of n after) ≤ 6
unfolding field_of
field_short n after = omega (arith, length-append (decimal n) (after ∷ []), decimal_short n)

pub line_short : (a b c d : ℕ) → length (line_of a b c d) ≤ 24
unfolding line_of
line_short a b c d =
    omega (
      arith,
      length-append (field_of a 32) (field_of b 32 ++ (field_of c 32 ++ field_of d 10)),
      length-append (field_of b 32) (field_of c 32 ++ field_of d 10),
      length-append (field_of c 32) (field_of d 10),
      field_short a 32,
      field_short b 32,
      field_short c 32,
      field_short d 10,
    )

-- std's decimal digits are those of the table

digit_up : (place ten n : ℕ) → (place ≤ n / 10 → ten ≤ n) → (n / 10 < place → n < ten) → n / 10 / place ≡ n / ten → digit_at place (n / 10) ≡ digit_at ten n
unfolding digit_at
digit_up place ten n some none e =
    ⊎_elim
    (λ h. rw (le-leb place (n / 10) h, le-leb ten n (some h), e))
    (λ h. rw (lt-leb place (n / 10) h, lt-leb ten n (none h)))
    (le_or_lt place (n / 10))

digit_none : (place n : ℕ) → n < place → digit_at place n ≡ []
unfolding digit_at
digit_none place n h = rw (lt-leb place n h)

digit_some : (place n : ℕ) → place ≤ n → digit_at place n ≡ (48 + n / place % 10) ∷ []
unfolding digit_at
digit_some place n h = rw (le-leb place n h)

printed_one : (n : ℕ) → n < 10 → (48 + n) ∷ [] ≡ decimal n
unfolding decimal digit_at
printed_one n h = rw (lt-leb 10000 n (omega arith), lt-leb 1000 n (omega arith), lt-leb 100 n (omega arith), lt-leb 10 n (omega arith)) (ap (λ (d : ℕ). (48 + d) ∷ []) (omega arith))

printed_more : (n : ℕ) → 10 ≤ n → n < 65536 → decimal (n / 10) ++ ((48 + n % 10) ∷ []) ≡ decimal n
unfolding decimal
printed_more n some small =
    rw (
      digit_none 10000 (n / 10) (omega arith),
      digit_up 1000 10000 n (λ h. omega arith) (λ h. omega arith) (omega arith),
      digit_up 100 1000 n (λ h. omega arith) (λ h. omega arith) (omega arith),
      digit_up 10 100 n (λ h. omega arith) (λ h. omega arith) (omega arith),
      ← digit_some 10 n some,
    ) (simp append_assoc)

pub printed : (n : ℕ) → n < 65536 → std.decimal n ≡ decimal n
printed n h =
    law.decimal_by_steps (λ (m : ℕ) (ds : List ℕ). m < 65536 → ds ≡ decimal m) (λ m few small. printed_one m few)
    (λ m ds some before small. ap (λ (l : List ℕ). l ++ ((48 + m % 10) ∷ [])) (before (omega arith)) ∙ printed_more m some small)
    n (omega arith) h

-- The lines of the table.

pub row_next :
    (path values marks : List ℕ) (i : ℕ) → row_at path values marks (i + 1) ≡ line_of (i + 1) (get_or path i 0) (get_or values (i + 1) 0) (get_or marks i 0)
unfolding row_at
row_next path values marks i = rw add-one refl

row_short : (path values marks : List ℕ) (t : ℕ) → length (row_at path values marks t) ≤ 24
unfolding row_at
row_short path values marks t = line_short t (get_or (0 ∷ path) t 0) (get_or values t 0) (get_or (0 ∷ marks) t 0)

pub rows_one : (path values marks : List ℕ) → rows 1 (row_at path values marks) ≡ line_of 0 0 (get_or values 0 0) 0
unfolding rows row_at
rows_one path values marks = refl

pub rows_next : (a h x : List ℕ) (n : ℕ) (f : ℕ → List ℕ) → x ≡ f n → (a ++ (h ++ rows n f)) ++ x ≡ a ++ (h ++ rows (n + 1) f)
unfolding rows
rows_next a h x n f e = rw (e, add-one n) (simp append_assoc)

rows_short : (path values marks : List ℕ) (n : ℕ) → length (rows n (row_at path values marks)) ≤ 24 * n
unfolding rows
rows_short path values marks zero = omega arith
rows_short path values marks (suc n) =
    let f = row_at path values marks in
    omega (arith, length-append (rows n f) (f n), rows_short path values marks n, row_short path values marks n)

pub table_short : (path values marks : List ℕ) (n : ℕ) → length (heading ++ rows n (row_at path values marks)) ≤ 21 + 24 * n
unfolding heading
table_short path values marks n = omega (arith, rows_short path values marks n)
