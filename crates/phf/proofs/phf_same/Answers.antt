-- The comparison's answer, field by field.
use mathlib.Core.Path.{ap, ◌∙◌}
use Rattle.phf.specs.Fields.{compared_fields}
use Rattle.phf.proofs.FieldLaws.{pair_told}
use Rattle.phf.proofs.phf_same.Goals as goal

pub returns : goal.returns
returns c =
    c.into.ensures ∙ ap compared_fields (pair_told _ _ _ c.same.ensures)
