-- The check's answer, field by field.
use mathlib.Core.Path.{ap, ◌∙◌}
use Rattle.reader.specs.Calls.{sizes, counts, checked}
use Rattle.reader.specs.Causes.{file_causes}
use Rattle.reader.specs.Family.{family_of}
use Rattle.phf.specs.Fields.{checked_fields}
use Rattle.phf.proofs.FieldLaws.{placeless_told}
use Rattle.phf.proofs.phf_check.Goals as goal

pub returns : goal.returns
unfolding checked
returns c =
    c.into.ensures ∙ ap checked_fields (placeless_told sizes (file_causes c.args.file.now) (counts (family_of c.args.file.now)) _ c.check.ensures)
