-- The fields of the answer of `to_levels`; the output is the library's.
use mathlib.Core.Path.{ap, ◌∙◌}
use Rattle.bounds.specs.Calls.{the_number}
use Rattle.phf.specs.Fields.{converted_fields}
use Rattle.phf.proofs.FieldLaws.{placeless_told}
use Rattle.phf.proofs.phf_to_levels.Goals as goal

pub returns-clause-phf_to_levels_answers : goal.returns-clause-phf_to_levels_answers
returns-clause-phf_to_levels_answers c =
    c.into.ensures ∙ ap converted_fields (placeless_told the_number _ _ _ c.to_levels.ensures.to_levels_answers)
