use native.Mathlib.Omega.{arith}
use Rattle.levels.proofs.Files.Listed.{header_facts}
use Rattle.levels.proofs.listing.Listing.family_length.Goals as goal

pub overflow_sub-result : goal.overflow_sub-result
overflow_sub-result c =
    omega (arith, (header_facts _ c.args.self.now.headed).whole)
