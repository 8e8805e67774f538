-- By the two tests.
use mathlib.Core.Path.{sym, ◌∙◌}
use lib.ListN.{length}
use borrow.Author.Tests.{lt-ltb, le-ltb}
use Rattle.bounds.specs.Curves.{cause11}
use Rattle.bounds.specs.Private.Walks.{number_cause}
use Rattle.bounds.proofs.path.check_numbers.Goals as goal

pub returns-then-peptides-path : goal.returns-then-peptides-path
unfolding number_cause cause11
returns-then-peptides-path c =
    rw (lt-ltb c.args.peptides (length c.args.path.now) c.if-peptides-path.true)

pub returns-then-off_the_line : goal.returns-then-off_the_line
unfolding number_cause cause11
returns-then-off_the_line c =
    rw (le-ltb c.args.peptides (length c.args.path.now) c.if-peptides-path.false, sym c.off_the_line.ensures ∙ c.if-off_the_line.true)

pub returns : goal.returns
unfolding number_cause cause11
returns c =
    rw (le-ltb c.args.peptides (length c.args.path.now) c.if-peptides-path.false, sym c.off_the_line.ensures ∙ c.if-off_the_line.false)
