-- N stands at offset 6; a family has as many lengths.
use mathlib.Core.Path.{sym, ◌∙◌}
use Rattle.reader.proofs.Parsed.{leaves_read}
use Rattle.reader.proofs.family.leaf_count.Goals as goal

pub returns : goal.returns
returns c =
    c.number_at.ensures ∙ sym (leaves_read c.args.file.now)
