-- Three numbers where the layout has them.
use native.Mathlib.Omega.{arith}
use Rattle.levels.proofs.Files.Listed.{listed_held, listed_leaves, listed_regions}
use Rattle.levels.proofs.listing.Listing.region.Goals as goal

pub returns : goal.returns
returns c =
    let s = c.args.self.now.file.now in
    listed_held s c.args.k _ _ (omega (arith, c.requires, listed_regions s)) (omega (arith, c.leaf_count.ensures, listed_leaves s)) c.number_at.ensures c.number_at-2.ensures c.number_at-3.ensures
