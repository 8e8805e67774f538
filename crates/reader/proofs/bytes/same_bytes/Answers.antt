-- The library's test finds what `same_list` does.
use Rattle.reader.proofs.Lists.{pointwise_same}
use mathlib.Core.Path.{◌∙◌}
use Rattle.reader.proofs.bytes.same_bytes.Goals as goal

pub returns : goal.returns
returns c = c.eq.ensures ∙ pointwise_same c.args.a.now c.args.b.now
