-- The mark, then what comes after it.
use mathlib.Core.Path.{sym, ◌∙◌}
use Rattle.reader.proofs.First.{first_holds, first_fails}
use Rattle.reader.proofs.causes.check_header.Goals as goal

pub returns-then-lacks_mark : goal.returns-then-lacks_mark
returns-then-lacks_mark c =
    sym (first_holds _ _ (sym c.lacks_mark.ensures ∙ c.if-lacks_mark.true))

pub returns : goal.returns
returns c =
    c.check_layout.ensures ∙ sym (first_fails _ _ (sym c.lacks_mark.ensures ∙ c.if-lacks_mark.false))
