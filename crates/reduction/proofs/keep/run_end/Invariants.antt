-- The loop has found the peptides from the first one to the last one dead.
use Rattle.std.proofs.Common.{◌≡◌, ◌≤◌, ℕ, false}
use Rattle.bounds.specs.Selections.{selected}
use Rattle.reduction.proofs.keep.run_end.Given as goal

abbrev pub invariant-loop-last : goal.invariant-loop-last
invariant-loop-last l = (q : ℕ) → l.initial.last ≤ q → q ≤ l.last → selected l.live q ≡ false
