use Rattle.std.proofs.Common.{◌≤◌, length-set, arith}
use Rattle.reader.specs.Family.{family_of, region_count}
use Rattle.reduction.proofs.Keeping.Known.{is_known}
use Rattle.reduction.proofs.Keeping.Weighing.{weighed_more}
use Rattle.reduction.proofs.Keeping.Gathering.{regions_few}
use Rattle.reduction.proofs.keep.Family.weigh.Goals as goal
use Rattle.reduction.proofs.keep.Family.weigh.Goals.{In-loop-k}

few : (c : In-loop-k) → region_count (family_of c.args.self.now.file.now) ≤ 8191
few c = regions_few (is_known c.args.self.now.with_stretches).well_formed

pub bounds-least-k : goal.bounds-least-k
bounds-least-k c = omega (arith, few (goal.at.bounds-least-k c).In-loop-k)

pub bounds-around-k : goal.bounds-around-k
bounds-around-k c = omega (arith, few (goal.at.bounds-around-k c).In-loop-k)

pub loop-k-preserved : goal.loop-k-preserved
loop-k-preserved c =
    let f = few (goal.at.loop-k-preserved c).In-loop-k in
    let inv = c.loop-k.invariant in record {
      least = simp length-set inv.least;
      around = simp length-set inv.around;
      weighed = weighed_more _ c.loop-k.least c.loop-k.around c.loop-k.k _ _ (omega (arith, inv.least, f)) (omega (arith, inv.around, f)) inv.weighed c.weigh_region-weights.ensures;
    }
