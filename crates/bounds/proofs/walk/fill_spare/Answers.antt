use Prim.Native.Nat.{◌<◌}
use native.Mathlib.Omega.{arith}
use mathlib.Core.Path.{◌∙◌}
use lib.ListN.{length}
use lib.Seq.{get_or-set_same, get_or-set_other}
use borrow.Author.Count.{below_more}
use Rattle.reader.proofs.Parsed.{held_z}
use Rattle.bounds.proofs.walk.fill_spare.Goals as goal

pub loop-k-preserved : goal.loop-k-preserved
loop-k-preserved c =
    let k = c.loop-k.k in
    let spare = c.loop-k.spare in
    let z = c.region_of.result.z in
    let room : k < length spare = omega arith in
    below_more _ _
    (λ i l. get_or-set_other spare k i z 0 (λ e. omega arith) ∙ c.loop-k.invariant i l)
    (get_or-set_same spare k z 0 room ∙ held_z _ _ c.region_of.ensures)
