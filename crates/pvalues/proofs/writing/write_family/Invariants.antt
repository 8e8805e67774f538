-- The loop has written the first k regions behind what was copied.
use mathlib.Core.Path.{◌≡◌}
use Rattle.reader.specs.Bytes.{with_numbers}
use Rattle.reader.specs.Family.{family_of}
use Rattle.pvalues.specs.Private.Climbing.{z_of_each}
use Rattle.pvalues.proofs.NewFile.{first_fields}
use Rattle.pvalues.proofs.writing.write_family.Given as goal

abbrev pub invariant-loop-k : goal.invariant-loop-k
invariant-loop-k l = l.out ≡ with_numbers l.initial.out l.start (first_fields (family_of l.file) (z_of_each l.regions) l.k)
