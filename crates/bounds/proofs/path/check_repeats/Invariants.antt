-- The loop has seen the peptides before this one, and none of them twice.
use Prim.Native.Nat.{ℕ, ◌+◌, ◌<◌}
use mathlib.Core.Bool.{false}
use mathlib.Core.Path.{◌≡◌}
use lib.ListN.{length}
use Rattle.bounds.specs.Curves.{repeated}
use Rattle.bounds.proofs.Calls.PathLaws.{Seen}
use Rattle.bounds.proofs.path.check_repeats.Given as goal

abbrev pub invariant-loop-i : goal.invariant-loop-i
invariant-loop-i l = record {
  whole : length l.seen ≡ 4097;
  found : Seen l.path l.i l.seen;
  different : (k : ℕ) → k < l.i → repeated l.path (k + 1) ≡ false;
}
