-- K stands at offset 8; a family has as many regions.
use mathlib.Core.Path.{sym, ◌∙◌}
use Rattle.reader.proofs.Parsed.{regions_read}
use Rattle.reader.proofs.family.region_count.Goals as goal

pub returns : goal.returns
returns c =
    c.number_at.ensures ∙ sym (regions_read c.args.file.now)
