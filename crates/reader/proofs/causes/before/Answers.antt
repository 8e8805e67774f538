-- The cases of the order in a file.
use borrow.Author.Tests.{lt-ltb, le-ltb, eq-eqb, ne_eqb}
use Rattle.reader.specs.Nesting.{before}
use Rattle.reader.specs.Calls.{held}
use Rattle.reader.proofs.causes.before.Goals as goal

pub returns-then-r-q : goal.returns-then-r-q
unfolding held before
returns-then-r-q c = rw (lt-ltb _ _ c.if-r-q.true)

pub returns-then-r-q-2 : goal.returns-then-r-q-2
unfolding held before
returns-then-r-q-2 c = rw (le-ltb _ _ c.if-r-q.false, eq-eqb _ _ c.if-r-q-2.true)

pub returns-else-r-q-2 : goal.returns-else-r-q-2
unfolding held before
returns-else-r-q-2 c = rw (le-ltb _ _ c.if-r-q.false, ne_eqb _ _ c.if-r-q-2.false)
