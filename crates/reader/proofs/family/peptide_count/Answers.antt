-- m stands at offset 4.
use mathlib.Core.Path.{sym, ◌∙◌}
use Rattle.reader.proofs.Parsed.{peptides_read}
use Rattle.reader.proofs.family.peptide_count.Goals as goal

pub returns : goal.returns
returns c =
    c.number_at.ensures ∙ sym (peptides_read c.args.file.now)
