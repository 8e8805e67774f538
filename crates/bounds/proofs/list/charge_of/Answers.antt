-- By the test.
use borrow.Author.Tests.{eq-eqb, ne_eqb}
use Rattle.bounds.specs.Tally.{charge_of}
use Rattle.bounds.proofs.list.charge_of.Goals as goal

pub returns-then-count-eq0 : goal.returns-then-count-eq0
unfolding charge_of
returns-then-count-eq0 c =
    rw (eq-eqb c.args.count 0 c.if-count-eq0.true)

pub returns-else-count-eq0 : goal.returns-else-count-eq0
unfolding charge_of
returns-else-count-eq0 c =
    rw (ne_eqb c.args.count 0 c.if-count-eq0.false)
