-- The fields of the answer of `curve`; the values and the marks are the curve's.
use mathlib.Core.Path.{ap, ◌∙◌}
use Rattle.phf.specs.Fields.{curved_fields}
use Rattle.phf.proofs.phf_curve.Goals as goal

pub returns-clause-phf_curve_answers : goal.returns-clause-phf_curve_answers
returns-clause-phf_curve_answers c =
    c.into.ensures ∙ ap curved_fields c.curve.ensures.curve_answers
