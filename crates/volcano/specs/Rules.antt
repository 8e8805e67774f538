-- The rows of a volcano plot, the rules by which peptides are chosen, and the causes 17 to 19. The comparisons are those of IEEE 754
-- (`lib.Ieee`): 0.0 and -0.0 are equal, and no comparison with a number holds for what is not a number.
use Rattle.std.specs.Prelude.{ℕ, Bool, true, false, not, cond, ◌&&◌, ◌||◌, List, length, get_or, eqb, Float}
use Rattle.std.specs.Float.{nan, inf, fin, binary64}
use Rattle.std.specs.Float.Ieee.{of_bits, lt, le, neg, is_nan}
use Rattle.reader.specs.Lists.{tabulate, some_below}
use Rattle.reader.specs.Calls.{short}
use Rattle.volcano.specs.declared.Row.{Row}
use Rattle.volcano.specs.declared.Rule.{Rule}
use Rattle.volcano.specs.declared.Rule.TheVariants.{AtMost, Between, Volcano}

-- 0.0 and 1.0
abbrev pub zero : Float
zero = of_bits binary64 0

abbrev pub one : Float
one = of_bits binary64 0x3ff0_0000_0000_0000

-- p at or under a cut; p from one cut to another, both included; p at or under a cut, with the fold at least f or at most -f.
-- Laboratories call a cut a threshold of the p-value, and f one of the log fold change.
unfoldable pub passes : Rule → Row → Bool
passes (AtMost cut) row = le row.p cut
passes (Between low high) row = le low row.p && le row.p high
passes (Volcano cut f) row = le row.p cut && (le f row.fold || le row.fold (neg f))

-- the row of the peptide with i others before it: its p-value and its log fold change
unfoldable pub row_at : List Float → List Float → ℕ → Row
row_at ps folds i = record { p = get_or ps i nan; fold = get_or folds i nan }

-- for each row 1 if it passes the rule, else 0
unfoldable pub chosen : Rule → List Float → List Float → List ℕ
chosen rule ps folds = tabulate (length ps) (λ i. cond (passes rule (row_at ps folds i)) 1 0)

-- the two slices not of length m, or the output under m
unfoldable pub cause17 : ℕ → List Float → List Float → ℕ → Bool
cause17 m ps folds room = not (eqb (length ps) m) || (not (eqb (length folds) m) || short m room)

-- not a number, or outside 0 to 1
unfoldable pub off_scale : Float → Bool
off_scale p = is_nan p || (lt p zero || lt one p)

unfoldable pub not_finite : Float → Bool
not_finite nan = true
not_finite (inf s) = true
not_finite (fin s m e) = false

-- a p that is not a number or outside 0 to 1, or a fold not finite
unfoldable pub cause18 : List Float → List Float → Bool
cause18 ps folds = some_below (length ps) (λ i. off_scale (get_or ps i nan)) || some_below (length folds) (λ i. not_finite (get_or folds i nan))

-- a cut or f that is not a number, or f under 0
unfoldable pub cause19 : Rule → Bool
cause19 (AtMost cut) = is_nan cut
cause19 (Between low high) = is_nan low || is_nan high
cause19 (Volcano cut f) = is_nan cut || (is_nan f || lt f zero)
