-- The leaves of a family have at most 4,096 peptides.
use native.Mathlib.Omega.{arith}
use Rattle.bounds.proofs.Theory.Family.{leaf_most}
use Rattle.pvalues.proofs.innermost.peptides_of.Goals as goal

pub overflow_cast-result : goal.overflow_cast-result
overflow_cast-result c =
    let w = c.requires.well_formed in
    omega (arith, c.peptides_between.ensures, leaf_most w c.args.upto.0 c.requires.upto_bound, w.peptides_most)
