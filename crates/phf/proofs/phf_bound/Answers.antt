-- The bound's answer, field by field.
use mathlib.Core.Path.{ap, ◌∙◌}
use Rattle.bounds.specs.Calls.{the_number}
use Rattle.phf.specs.Fields.{bounded_fields}
use Rattle.phf.proofs.FieldLaws.{placeless_told}
use Rattle.phf.proofs.phf_bound.Goals as goal

pub returns-clause-phf_bound_answers : goal.returns-clause-phf_bound_answers
returns-clause-phf_bound_answers c =
    c.into.ensures ∙ ap bounded_fields (placeless_told the_number _ _ _ c.bound.ensures.bound_answers)
