-- The peptides from the index on are still to be visited.
use Rattle.reader.specs.Family.{family_of}
use Rattle.pvalues.proofs.Finding.Climbs.{Coming}
use Rattle.pvalues.specs.Private.Climbing.{left_of_each, z_of_each}
use Rattle.pvalues.proofs.climbing.find_bounds.Given as goal

abbrev pub invariant-loop-place : goal.invariant-loop-place
invariant-loop-place l = Coming (family_of l.file) l.p_values l.deviation_squared l.order (left_of_each l.regions) (z_of_each l.regions) l.place-index
