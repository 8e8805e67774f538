use Prim.Native.Nat.{◌<◌}
use native.Mathlib.Omega.{arith}
use mathlib.Core.Path.{◌≡◌, refl, sym, ◌∙◌}
use lib.ListN.{length-set}
use Rattle.reader.specs.Family.{family_of, region, region_count}
use Rattle.reader.specs.Private.Climb.{ends_before}
use Rattle.reader.proofs.Bools.{clash}
use Rattle.reader.proofs.Parsed.{held_first, held_last}
use Rattle.reader.proofs.Climbing.{climbed_crosses, climbed_parent, climbed_nested, nested_more, parents_more, clear_if_nested}
use Rattle.reader.proofs.nesting.fill_parents.Goals as goal
use Rattle.reader.proofs.nesting.fill_parents.Goals.{After-ends_before, In-loop-k}

here : (c : In-loop-k) → c.loop-k.k < region_count (family_of c.args.file.bytes.now)
here c = omega (arith, c.loop-k-test.true, c.region_count-k-end.ensures)

-- the test of the loop's body speaks of the k-th region
tested : (c : After-ends_before)
    → c.ends_before.result ≡ ends_before (family_of c.args.file.bytes.now) c.climb-number.result (region (family_of c.args.file.bytes.now) c.loop-k.k).last
tested c =
    let s = c.args.file.bytes.now in
    rw (← (held_last _ _ c.region-r.ensures)) c.ends_before.ensures

pub loop-k-init : goal.loop-k-init
loop-k-init c = (omega arith, λ i j l h. absurd (omega arith), λ i l. absurd (omega arith))

pub region-r-requires : goal.region-r-requires
region-r-requires c = here (goal.at.region-r-requires c).In-loop-k

pub climb-number-requires : goal.climb-number-requires
climb-number-requires c =
    let inv = c.loop-k.invariant in
    record {
      climbing = record { ordered = c.requires.ordered; nested = inv.1; known = inv.2; here = here (goal.at.climb-number-requires c).In-loop-k; room = omega (arith, c.requires.few, inv.0) };
      first_value = held_first _ _ c.region-r.ensures;
    }

pub ends_before-requires : goal.ends_before-requires
ends_before-requires c = omega (arith, c.climb-number.ensures.earlier, here (goal.at.ends_before-requires c).In-loop-k)

pub returns-then-ends_before : goal.returns-then-ends_before
returns-then-ends_before c =
    record {
      tested = sym (climbed_crosses _ c.requires.ordered _ (here (goal.at.returns-then-ends_before c).In-loop-k) _ c.climb-number.ensures (sym (tested (goal.at.returns-then-ends_before c).After-ends_before) ∙ c.if-ends_before.true));
      parents = λ f. absurd (clash refl f);
    }

pub bounds-parents-k : goal.bounds-parents-k
bounds-parents-k c = omega (arith, here (goal.at.bounds-parents-k c).In-loop-k, c.requires.few, c.loop-k.invariant.0)

pub loop-k-preserved : goal.loop-k-preserved
loop-k-preserved c =
    let inv = c.loop-k.invariant in
    let o = c.requires.ordered in
    let clear = sym (tested (goal.at.loop-k-preserved c).After-ends_before) ∙ c.if-ends_before.false in (
      simp length-set inv.0,
      nested_more _ _ inv.1 (climbed_nested _ o _ (here (goal.at.loop-k-preserved c).In-loop-k) _ c.climb-number.ensures clear),
      parents_more _ c.loop-k.parents c.loop-k.k _ (omega (arith, here (goal.at.loop-k-preserved c).In-loop-k, c.requires.few, c.loop-k.invariant.0)) inv.2 (climbed_parent _ o _ (here (goal.at.loop-k-preserved c).In-loop-k) _ c.climb-number.ensures clear),
    )

pub returns : goal.returns
returns c =
    let s = c.args.file.bytes.now in
    let inv = c.loop-k.invariant in
    let end : region_count (family_of s) ≡ c.loop-k.k = omega (arith, c.region_count-k-end.ensures) in
    record {
      tested = sym (clear_if_nested (family_of s) c.requires.ordered (λ i j l h. inv.1 i j l (omega (arith, end))));
      parents = λ f i l. inv.2 i (omega (arith, end));
    }
