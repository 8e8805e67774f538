-- Each test is the cause of its number; what the causes before it leave is what the next function asks.
use native.Mathlib.Omega.{arith}
use mathlib.Core.Bool.{false}
use mathlib.Core.Path.{◌≡◌, sym, ◌∙◌}
use Rattle.reader.specs.Family.{family_of}
use Rattle.reader.specs.Causes.{cause8, cause9, first_cause}
use Rattle.reader.specs.WellFormed.{Ordered}
use Rattle.reader.proofs.Climbing.{nested_if_clear}
use Rattle.reader.proofs.Accepting.{ordered_if_clear, header_clear, few_regions, listed_header, listed_7}
use Rattle.reader.proofs.check_arrangement.Goals as goal
use Rattle.reader.proofs.check_arrangement.Goals.{Else-fill_parents, Else-misordered_region}

no8 : (c : Else-misordered_region) → cause8 (family_of c.args.file.bytes.now) ≡ false
no8 c = sym c.misordered_region.ensures ∙ c.if-misordered_region.false

no9 : (c : Else-fill_parents) → cause9 (family_of c.args.file.bytes.now) ≡ false
no9 c = sym c.fill_parents.ensures.tested ∙ c.if-fill_parents.false

in_order_lem : (c : Else-misordered_region) → Ordered (family_of c.args.file.bytes.now)
in_order_lem c = ordered_if_clear _ (listed_7 _ c.requires) (no8 c)

pub returns-then-misordered_region : goal.returns-then-misordered_region
unfolding first_cause
returns-then-misordered_region c =
    record { tested = rw (← c.misordered_region.ensures, c.if-misordered_region.true); parents = λ e. absurd (omega arith) }

pub fill_parents-requires : goal.fill_parents-requires
fill_parents-requires c =
    record { ordered = in_order_lem (goal.at.fill_parents-requires c).Else-misordered_region; few = few_regions _ (header_clear _ (listed_header _ c.requires)) }

pub returns-then-fill_parents : goal.returns-then-fill_parents
unfolding first_cause
returns-then-fill_parents c =
    record {
      tested = rw (no8 (goal.at.returns-then-fill_parents c).Else-misordered_region, ← c.fill_parents.ensures.tested, c.if-fill_parents.true);
      parents = λ e. absurd (omega arith);
    }

pub too_deep-requires : goal.too_deep-requires
too_deep-requires c =
    let few = few_regions _ (header_clear _ (listed_header _ c.requires)) in
    record {
      ordered = in_order_lem (goal.at.too_deep-requires c).Else-misordered_region;
      nested = nested_if_clear _ (in_order_lem (goal.at.too_deep-requires c).Else-misordered_region) (no9 (goal.at.too_deep-requires c).Else-fill_parents);
      known = c.fill_parents.ensures.parents c.if-fill_parents.false;
      few = few;
      room = omega (arith, few);
    }

pub returns-then-too_deep : goal.returns-then-too_deep
unfolding first_cause
returns-then-too_deep c =
    record {
      tested = rw (no8 (goal.at.returns-then-too_deep c).Else-misordered_region, no9 (goal.at.returns-then-too_deep c).Else-fill_parents, ← c.too_deep.ensures, c.if-too_deep.true);
      parents = λ e. absurd (omega arith);
    }

pub returns : goal.returns
unfolding first_cause
returns c =
    record {
      tested = rw (no8 (goal.at.returns c).Else-misordered_region, no9 (goal.at.returns c).Else-fill_parents, ← c.too_deep.ensures, c.if-too_deep.false);
      parents = λ e. c.fill_parents.ensures.parents c.if-fill_parents.false;
    }
