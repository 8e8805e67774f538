-- Past the end of a list a store changes nothing.
use mathlib.Core.Path.{sym}
use lib.Seq.{set_out}
use Rattle.reader.proofs.bytes.put_byte.Goals as goal

pub returns-else-at-out : goal.returns-else-at-out
returns-else-at-out c =
    sym (set_out c.args.out.now c.args.at c.args.byte c.if-at-out.false)
