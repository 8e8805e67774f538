-- The loop has found the regions of the first h levels in their places.
use Prim.Native.Nat.{ℕ}
use mathlib.Core.Bool.{Bool, false}
use mathlib.Core.List.{List}
use mathlib.Core.Path.{◌≡◌}
use lib.ListN.{get_or, take}
use Rattle.reader.specs.Lists.{sum, some_below}
use Rattle.levels.specs.Levels.{listed_family, counts_in}
use Rattle.levels.specs.Causes.{misleveled}
use Rattle.levels.proofs.placing.wrong_levels.Given as goal

-- some region of level h + 1 is not in its place
abbrev pub wrong_in : List ℕ → ℕ → Bool
wrong_in s h = some_below (get_or (counts_in s) h 0) (λ i. misleveled (counts_in s) (listed_family s) h i)

abbrev pub invariant-loop-h : goal.invariant-loop-h
invariant-loop-h l = (l.start ≡ sum (take l.h (counts_in l.list.file.now))) × (some_below l.h (wrong_in l.list.file.now) ≡ false)
