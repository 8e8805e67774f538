-- Past the end of a list `get_or` gives 0.
use lib.ListN.{get_or-eq_default}
use mathlib.Core.Path.{sym}
use Rattle.reader.proofs.bytes.byte_at.Goals as goal

pub returns-else-at-s : goal.returns-else-at-s
returns-else-at-s c =
    sym (get_or-eq_default c.args.s.now 0 c.if-at-s.false)
