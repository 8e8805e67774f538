-- The leaves up to the second one named are those up to it or to the last leaf; whichever way they are read, their lengths are the same.
use Prim.Native.Nat.{min}
use native.Mathlib.Omega.{arith}
use mathlib.Core.Path.{◌≡◌, ap, ◌∙◌}
use Rattle.reader.specs.Family.{family_of, peptides_up_to}
use Rattle.reader.proofs.Walk.{up_to_mono, up_to_within}
use Rattle.reader.proofs.family.peptides_between.Goals as goal
use Rattle.reader.proofs.family.peptides_between.Goals.{After-min-end}

within : (c : After-min-end)
    → peptides_up_to (family_of c.args.file.now) c.min-end.result ≡ peptides_up_to (family_of c.args.file.now) c.args.upto.0
within c =
    up_to_within (family_of c.args.file.now) c.args.upto.0 c.min-end.result
    (c.min-end.ensures ∙ ap (min c.args.upto.0) c.leaf_count.ensures)

pub returns-then-end-start : goal.returns-then-end-start
returns-then-end-start c =
    omega (arith, within (goal.at.returns-then-end-start c).After-min-end, up_to_mono (family_of c.args.file.now) c.min-end.result c.args.after.0 c.if-end-start.true)

pub returns-then-file-end : goal.returns-then-file-end
returns-then-file-end c =
    omega (arith, c.added_lengths.ensures, within (goal.at.returns-then-file-end c).After-min-end)

pub returns : goal.returns
returns c =
    omega (arith, c.added_lengths-2.ensures, within (goal.at.returns c).After-min-end)
