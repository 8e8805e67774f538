-- The loop has written the z of the first k regions.
use Prim.Native.Nat.{ℕ, ◌<◌}
use mathlib.Core.Path.{◌≡◌}
use lib.ListN.{get_or}
use Rattle.reader.specs.Family.{family_of, region}
use Rattle.bounds.proofs.walk.fill_spare.Given as goal

abbrev pub invariant-loop-k : goal.invariant-loop-k
invariant-loop-k l = (i : ℕ) → i < l.k → get_or l.spare i 0 ≡ (region (family_of l.file) i).z
