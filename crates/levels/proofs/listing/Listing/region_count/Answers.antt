-- The header of the file says the same of what it lists.
use mathlib.Core.Path.{sym, ◌∙◌}
use Rattle.levels.proofs.Files.Listed.{listed_counts}
use Rattle.levels.proofs.listing.Listing.region_count.Goals as goal

pub returns : goal.returns
returns c = c.region_count.ensures ∙ sym (listed_counts c.args.self.now.file.now).regions
