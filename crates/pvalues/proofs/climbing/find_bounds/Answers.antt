use native.Mathlib.Omega.{arith}
use Prim.Native.Nat.{suc, ◌<◌, ◌≤◌}
use mathlib.Core.Path.{◌≡◌}
use lib.ListN.{length, get_or}
use Rattle.reader.specs.Family.{family_of, leaf_of}
use Rattle.reader.proofs.Lists.{zeros}
use Rattle.pvalues.proofs.Finding.Climbs.{place_within, coming_starts, coming_more, coming_ends, climbable}
use Rattle.pvalues.proofs.climbing.find_bounds.Goals as goal
use Rattle.pvalues.proofs.climbing.find_bounds.Goals.{In-loop-place}

pub loop-place-init : goal.loop-place-init
loop-place-init c =
    coming_starts c.requires.parented.well c.requires.pvalues _ _ _ c.requires.in_order c.fill_innermost.ensures

-- the peptide that is next is one of the m
within : (c : In-loop-place) → (get_or c.args.order.now c.loop-place.place-index 0 < (family_of c.args.file.now).peptides) × ((family_of c.args.file.now).peptides ≤ 4096) × (length c.args.p_values.now ≡ (family_of c.args.file.now).peptides)
within c =
    let w = c.requires.parented.well in
    (place_within w c.requires.pvalues c.args.order.now c.requires.in_order c.loop-place.place-index (omega arith), w.peptides_most, c.requires.pvalues.values)

pub bounds-innermost-place : goal.bounds-innermost-place
bounds-innermost-place c =
    omega (arith, within (goal.at.bounds-innermost-place c).In-loop-place)

pub bounds-p_values-place : goal.bounds-p_values-place
bounds-p_values-place c =
    omega (arith, within (goal.at.bounds-p_values-place c).In-loop-place)

pub lower_regions-requires-clause-climbable : goal.lower_regions-requires-clause-climbable
lower_regions-requires-clause-climbable c =
    let start = c.requires in
    climbable start.parented.well start.pvalues c.args.order.now start.in_order c.loop-place.place-index (omega arith) _ c.fill_innermost.new.innermost _ start.parented.nested c.fill_innermost.ensures.innermost c.loop-place.invariant

pub loop-place-preserved : goal.loop-place-preserved
loop-place-preserved c =
    let start = c.requires in
    let order = c.args.order.now in
    let i = c.loop-place.place-index in
    let F = family_of c.args.file.now in
    coming_more start.parented.well start.pvalues order start.in_order i (omega arith) _ _ _ _ c.loop-place.invariant
    (c.lower_regions.ensures F (leaf_of F (suc (get_or order i 0))) start.parented.nested (c.fill_innermost.ensures.innermost (get_or order i 0) (within (goal.at.loop-place-preserved c).In-loop-place).0))

pub returns : goal.returns
returns c =
    coming_ends c.requires.parented.well c.requires.pvalues c.args.order.now _ _ c.loop-place.place-index (omega arith) c.loop-place.invariant

pub fill_innermost-requires-clause-zeroed : goal.fill_innermost-requires-clause-zeroed
fill_innermost-requires-clause-zeroed c =
    zeros 4096
