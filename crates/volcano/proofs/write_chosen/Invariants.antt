-- The bytes of the first i rows have been written.
use Rattle.std.proofs.Common.{◌≡◌, ◌++◌, drop}
use Rattle.reader.specs.Lists.{tabulate}
use Rattle.volcano.proofs.Judging.{byte_at}
use Rattle.volcano.proofs.write_chosen.Given as goal

abbrev pub invariant-loop-i : goal.invariant-loop-i
invariant-loop-i l = l.out ≡ tabulate l.i (byte_at l.rule l.p_values l.folds) ++ drop l.i l.initial.out
