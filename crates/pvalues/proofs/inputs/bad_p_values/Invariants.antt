-- The loop knows whether one of the p-values before the index is over 1,000,000.
use mathlib.Core.Path.{◌≡◌}
use Rattle.reader.specs.Lists.{some_below}
use Rattle.pvalues.proofs.Judging.{over_one}
use Rattle.pvalues.proofs.inputs.bad_p_values.Given as goal

abbrev pub invariant-loop-p : goal.invariant-loop-p
invariant-loop-p l = l.bad ≡ some_below l.p-index (over_one l.p_values)
