-- The fields of the answer of `bound_list`; the values are the library's.
use mathlib.Core.Path.{ap, ◌∙◌}
use Rattle.phf.specs.Fields.{listed_fields}
use Rattle.phf.proofs.phf_bounds_list.Goals as goal

pub returns-clause-phf_list_answers : goal.returns-clause-phf_list_answers
returns-clause-phf_list_answers c =
    c.into.ensures ∙ ap listed_fields c.bound_list.ensures.list_answers
