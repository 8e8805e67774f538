-- The ends of the regions, then the live peptides, then the stretches.
use native.Mathlib.Omega.{arith}
use lib.ListN.{length-map}
use Rattle.reduction.specs.declared.stretch.Stretch.{Stretch}
use Rattle.reader.specs.Bytes.{IsBytes}
use Rattle.reader.specs.Family.{family_of}
use Rattle.reduction.specs.Private.Passes.{Ended}
use Rattle.reduction.specs.Private.Steps.{firsts_of, lasts_of}
use Rattle.reduction.proofs.Keeping.HandedOn.{with_parents}
use Rattle.reduction.proofs.Stretching.ListFronts.{lives_begin, firsts_begin, lasts_begin}
use Rattle.reduction.proofs.stretch.find_stretches.Goals as goal
use Rattle.reduction.proofs.stretch.find_stretches.Goals.{After-find_ends}

ended : (c : After-find_ends) → IsBytes c.args.file.now → Ended (family_of c.args.file.now) c.find_ends.new.lows c.find_ends.new.highs
ended c bytes = record { formed = (with_parents c.args.file.now c.args.parents.now bytes c.requires).formed; ends = c.find_ends.ensures }

pub find_ends-requires : goal.find_ends-requires
find_ends-requires c = with_parents c.args.file.now c.args.parents.now (λ i. omega (arith, c.type_inv.file i)) c.requires

pub find_live-requires : goal.find_live-requires
find_live-requires c = ended (goal.at.find_live-requires c).After-find_ends (λ i. omega (arith, c.type_inv.file i))

pub write_stretches-requires : goal.write_stretches-requires
write_stretches-requires c = record { ended = ended (goal.at.write_stretches-requires c).After-find_ends (λ i. omega (arith, c.type_inv.file i)); lives = c.find_live.ensures }

pub returns : goal.returns
returns c =
    let w = (with_parents c.args.file.now c.args.parents.now (λ i. omega (arith, c.type_inv.file i)) c.requires).formed in
    record {
      lives = lives_begin _ c.find_live.new.live (omega (arith, w.peptides_most)) c.find_live.ensures;
      firsts = firsts_begin _ (firsts_of c.write_stretches.new.stretches) (omega (arith, w.regions_most, length-map c.write_stretches.new.stretches (λ (s : Stretch). s.first))) c.write_stretches.ensures.firsts_up_to;
      lasts = lasts_begin _ (lasts_of c.write_stretches.new.stretches) (omega (arith, w.regions_most, length-map c.write_stretches.new.stretches (λ (s : Stretch). s.last))) c.write_stretches.ensures.lasts_up_to;
    }
