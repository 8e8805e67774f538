-- The loop has found the first i regions of the level in their places.
use mathlib.Core.Bool.{false}
use mathlib.Core.Path.{◌≡◌}
use Rattle.reader.specs.Lists.{some_below}
use Rattle.levels.specs.Levels.{listed_family, counts_in}
use Rattle.levels.specs.Causes.{misleveled}
use Rattle.levels.proofs.Finding.PlaceLaws.{leaf_before}
use Rattle.levels.proofs.placing.wrong_in_level.Given as goal

abbrev pub invariant-loop-i : goal.invariant-loop-i
invariant-loop-i l = (l.leaf ≡ leaf_before (listed_family l.list.file.now) l.start l.i) × (some_below l.i (λ q. misleveled (counts_in l.list.file.now) (listed_family l.list.file.now) l.before q) ≡ false)
