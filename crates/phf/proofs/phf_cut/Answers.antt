-- The cut's answer, field by field.
use mathlib.Core.Path.{ap, ◌∙◌}
use Rattle.phf.specs.Fields.{cutting_fields}
use Rattle.phf.proofs.phf_cut.Goals as goal

pub returns : goal.returns
returns c =
    c.into.ensures ∙ ap cutting_fields c.cut.ensures
