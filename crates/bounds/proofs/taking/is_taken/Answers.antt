use mathlib.Core.Path.{sym}
use borrow.Author.Tests.{lt-ltb, le-ltb}
use Rattle.reader.specs.Calls.{held}
use Rattle.bounds.proofs.taking.is_taken.Goals as goal

pub returns-then-until-region : goal.returns-then-until-region
unfolding held
returns-then-until-region c = sym (rw (lt-ltb c.args.until.0 c.args.region.first.0 c.if-until-region.true))

pub returns-else-until-region : goal.returns-else-until-region
unfolding held
returns-else-until-region c = rw (le-ltb c.args.until.0 c.args.region.first.0 c.if-until-region.false)
