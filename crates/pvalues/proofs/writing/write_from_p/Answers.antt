-- The z that are found are those of the definition.
use mathlib.Core.Path.{ap, ◌∙◌}
use Rattle.reader.specs.Family.{Family, family_of, file_of}
use Rattle.reader.specs.Calls.{at_start}
use Rattle.pvalues.specs.Private.Climbing.{z_of_each}
use Rattle.pvalues.proofs.NewFile.{bounds_family}
use Rattle.pvalues.proofs.writing.write_from_p.Goals as goal

pub returns : goal.returns
returns c =
    c.write_family.ensures ∙ ap (λ (G : Family). at_start (file_of G) c.args.out.now) (bounds_family (family_of c.args.file.now) (z_of_each c.find_bounds.new.regions) c.args.p_values.now c.args.deviation_squared c.find_bounds.ensures)
