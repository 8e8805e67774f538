-- Two bytes in the place of two, the low one and the high one.
use mathlib.Core.Path.{◌∙◌}
use Rattle.reader.proofs.NumberRows.{pair_put}
use Rattle.reader.proofs.bytes.put_within.Goals as goal

pub returns : goal.returns
returns c = pair_put c.args.out.now c.args.at c.args.n _ c.requires (c.copy_from_slice.ensures.after ∙ c.to_le_bytes.ensures)
