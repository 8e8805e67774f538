-- The three steps, from the lists that are handed in.
use Rattle.std.proofs.Common.{arith}
use Rattle.reader.proofs.Accepting.{well_formed_lem}
use Rattle.reduction.specs.Private.Steps.{firsts_of, lasts_of}
use Rattle.reduction.proofs.Keeping.HandedOn.{known, totals_at, with_parents}
use Rattle.reduction.proofs.Keeping.Gathering.{regions_few}
use Rattle.reduction.proofs.keep.list_reduced.Goals as goal

pub invariant_of-family : goal.invariant_of-family
invariant_of-family c =
    let s = c.args.file.now in
    record { with_stretches = ∣ known s (λ i. omega (arith, c.type_inv.file i)) c.requires.parented.accepted c.args.live.now (firsts_of c.args.stretches.now) (lasts_of c.args.stretches.now) c.requires.stretched ∣₁ }

pub weigh-requires : goal.weigh-requires
weigh-requires c =
    record { parents_below = (with_parents c.args.file.now c.args.parents.now (λ i. omega (arith, c.type_inv.file i)) c.requires.parented).known }

pub mark_kept-requires : goal.mark_kept-requires
mark_kept-requires c =
    record { totals_below = totals_at c.args.file.now c.args.bounds.now c.requires.totalled; weighed_below = c.weigh.ensures }

pub gather-requires : goal.gather-requires
gather-requires c =
    record {
      kept_marked = c.mark_kept.ensures;
      runs_ahead = record { lives = c.requires.stretched.lives; positive = omega arith; order = omega arith; small = omega arith; few = regions_few (well_formed_lem c.args.file.now (λ i. omega (arith, c.type_inv.file i)) c.requires.parented.accepted) };
      whole = record { from = omega (arith, c.told-from); to = omega (arith, c.told-to); bounds = c.told-bounds };
      none_yet = omega arith;
    }
