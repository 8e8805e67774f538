-- The loop has found the regions before k nested, and has written their parents.
use mathlib.Core.Path.{◌≡◌}
use lib.ListN.{length}
use Rattle.reader.specs.Family.{family_of}
use Rattle.reader.specs.WellFormed.{NestedBelow, ParentsBelow}
use Rattle.reader.proofs.nesting.fill_parents.Given as goal

abbrev pub invariant-loop-k : goal.invariant-loop-k
invariant-loop-k l = (length l.parents ≡ 8191) × NestedBelow (family_of l.file.bytes.now) l.k × ParentsBelow (family_of l.file.bytes.now) l.parents l.k
