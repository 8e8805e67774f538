-- Of a header that is not whole, and from K on, it is a region of zeros; else the three numbers stand where the region's
-- record begins, or 0 where the file has ended.
use Prim.Native.Nat.{◌+◌, ◌*◌}
use native.Mathlib.Omega.{arith}
use mathlib.Core.Path.{◌≡◌, sym, ◌∙◌}
use Rattle.reader.specs.Family.{no_region}
use Rattle.reader.specs.Calls.{held}
use Rattle.reader.proofs.Parsed.{leaves_read, regions_read, region_read, region_past, region_none, region_held}
use Rattle.reader.proofs.family.region_of.Goals as goal
use Rattle.reader.proofs.family.region_of.Goals.{After-default, then-file-lt16-via-then-file-lt16, then-file-lt16-via-else-file-lt16+then-number_within-k}

zeros : (c : After-default) → held c.default.result ≡ no_region
unfolding held
zeros c = rw (c.default.ensures.0, c.default.ensures.1.0, c.default.ensures.1.1)

pub returns-then-file-lt16 : goal.returns-then-file-lt16
returns-then-file-lt16 c =
    let s = c.args.file.now in
    zeros c
    ∙ elim c.then-file-lt16.branch [
      | then-file-lt16-via-then-file-lt16 w ↦ sym (region_none s (omega (arith, w.if-file-lt16.true)) _)
      | then-file-lt16-via-else-file-lt16+then-number_within-k w ↦ sym (region_past s _ (omega (arith, w.if-number_within-k.true, w.number_within.ensures)))
    ]

pub region_within-requires : goal.region_within-requires
region_within-requires c =
    let s = c.args.file.now in record { k_bound = omega (arith, regions_read s); k_in_bounds = omega (arith, leaves_read s) }

pub returns : goal.returns
returns c =
    let s = c.args.file.now in
    let k = c.args.k in
    let at = 16 + 2 * c.number_within-2.result + 6 * k in
    region_held s k at _ (omega arith) c.number_at.ensures c.number_at-2.ensures c.number_at-3.ensures
    ∙ sym (region_read s k (omega arith))
