-- The three numbers stand where the region's record begins.
use Prim.Native.Nat.{◌+◌, ◌*◌}
use native.Mathlib.Omega.{arith}
use mathlib.Core.Path.{sym, ◌∙◌}
use Rattle.reader.proofs.Parsed.{leaves_read, regions_read, region_read, region_held}
use Rattle.reader.proofs.family.region_within.Goals as goal

pub number_within-requires-2 : goal.number_within-requires-2
number_within-requires-2 c =
    omega (arith, leaves_read c.args.file.now)

pub number_within-requires-3 : goal.number_within-requires-3
number_within-requires-3 c =
    omega (arith, leaves_read c.args.file.now)

pub number_within-requires-4 : goal.number_within-requires-4
number_within-requires-4 c =
    omega (arith, leaves_read c.args.file.now)

pub returns : goal.returns
returns c =
    let s = c.args.file.now in
    let k = c.args.k in
    let at = 16 + 2 * c.number_within.result + 6 * k in
    region_held s k at _ (omega arith) c.number_within-2.ensures c.number_within-3.ensures c.number_within-4.ensures
    ∙ sym (region_read s k (omega (arith, regions_read s)))
