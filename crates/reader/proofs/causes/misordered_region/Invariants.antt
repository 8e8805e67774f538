-- The loop has found every region before the k-th, of which it holds the last, after the one before it.
use Prim.Native.Nat.{◌-◌, ◌+◌}
use mathlib.Core.Bool.{false, not}
use mathlib.Core.Path.{◌≡◌}
use Rattle.reader.specs.Lists.{some_below}
use Rattle.reader.specs.Family.{family_of, region}
use Rattle.reader.specs.Nesting.{before}
use Rattle.reader.specs.Calls.{held}
use Rattle.reader.proofs.causes.misordered_region.Given as goal

abbrev pub invariant-loop-k : goal.invariant-loop-k
invariant-loop-k l = (held l.r ≡ region (family_of l.file.bytes.now) (l.k - 1))
    × (some_below (l.k - 1) (λ i. not (before (region (family_of l.file.bytes.now) i) (region (family_of l.file.bytes.now) (i + 1)))) ≡ false)
