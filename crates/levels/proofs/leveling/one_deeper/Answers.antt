-- By cases on the number.
use native.Mathlib.Numerals.{add-one}
use borrow.Author.Tests.{ne_eqb}
use Rattle.levels.specs.Private.Leveling.{one_deeper}
use Rattle.levels.proofs.leveling.one_deeper.Goals as goal

pub returns-then-number-eq0 : goal.returns-then-number-eq0
unfolding one_deeper
returns-then-number-eq0 c =
    rw c.if-number-eq0.true

pub returns-else-number-eq0 : goal.returns-else-number-eq0
unfolding one_deeper
returns-else-number-eq0 c =
    rw (ne_eqb c.args.number 0 c.if-number-eq0.false, add-one)
