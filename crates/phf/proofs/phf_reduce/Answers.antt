-- The reduction's answer, field by field; the output is the reduction's.
use mathlib.Core.Path.{ap, ◌∙◌}
use Rattle.reduction.specs.Calls.{size_values}
use Rattle.phf.specs.Fields.{reduced_fields}
use Rattle.phf.proofs.FieldLaws.{placeless_told}
use Rattle.phf.proofs.phf_reduce.Goals as goal

pub returns-clause-phf_reduce_answers : goal.returns-clause-phf_reduce_answers
returns-clause-phf_reduce_answers c =
    c.into.ensures ∙ ap reduced_fields (placeless_told size_values _ _ _ c.reduce.ensures.reduce_answers)
