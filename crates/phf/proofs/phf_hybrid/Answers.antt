-- The fields of the answer of `hybrid`; the values are the library's.
use mathlib.Core.Path.{ap, ◌∙◌}
use Rattle.phf.specs.Fields.{curved_fields}
use Rattle.phf.proofs.phf_hybrid.Goals as goal

pub returns-clause-phf_hybrid_answers : goal.returns-clause-phf_hybrid_answers
returns-clause-phf_hybrid_answers c =
    c.into.ensures ∙ ap curved_fields c.hybrid.ensures.hybrid_answers
