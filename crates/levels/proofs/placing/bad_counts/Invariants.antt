-- The loop has added the first h level counts.
use Prim.Native.Nat.{◌*◌, ◌≤◌}
use mathlib.Core.Path.{◌≡◌}
use lib.ListN.{take}
use Rattle.reader.specs.Lists as lists
use Rattle.levels.specs.Levels.{counts_in}
use Rattle.levels.proofs.placing.bad_counts.Given as goal

abbrev pub invariant-loop-h : goal.invariant-loop-h
invariant-loop-h l = (l.sum ≤ 65535 * l.h) × (l.sum ≡ lists.sum (take l.h (counts_in l.list.file.now)))
