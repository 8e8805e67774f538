use borrow.Author.Tests.{ne_eqb}
use Rattle.hybrid.specs.Hybrid.{cause23}
use Rattle.hybrid.proofs.inputs.bad_level.Goals as goal

pub returns-then-level-eq0 : goal.returns-then-level-eq0
unfolding cause23
returns-then-level-eq0 c =
    rw c.if-level-eq0.true

pub returns-else-level-eq0 : goal.returns-else-level-eq0
unfolding cause23
returns-else-level-eq0 c =
    rw (ne_eqb c.args.level 0 c.if-level-eq0.false)
