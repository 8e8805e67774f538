use Prim.Native.Nat.{◌-◌}
use native.Mathlib.Omega.{arith}
use mathlib.Core.Path.{◌≡◌, subst}
use Rattle.reader.specs.Family.{family_of, region}
use Rattle.reader.proofs.Parsed.{held_last}
use Rattle.reader.proofs.Climbing.{Climbable, climb_starts, climb_steps, climb_stops, climb_ends}
use Rattle.reader.proofs.nesting.climb.Goals as goal
use Rattle.reader.proofs.nesting.climb.Goals.{After-region-candidate}

-- the region that the loop looks at ends where its struct says
last-read : (c : After-region-candidate) → c.region-candidate.result.last.0 ≡ (region (family_of c.args.file.bytes.now) (c.loop-number.number - 1)).last
last-read c = held_last _ _ c.region-candidate.ensures

pub loop-number-init : goal.loop-number-init
loop-number-init c =
    let pre = c.requires.climbing in climb_starts _ pre.ordered _ pre.here pre.nested

pub region-candidate-requires : goal.region-candidate-requires
region-candidate-requires c =
    let pre = c.requires in omega (arith, pre.climbing.here, c.loop-number.invariant.0, c.loop-number-test)

pub returns-then-first-candidate : goal.returns-then-first-candidate
returns-then-first-candidate c =
    let pre = c.requires.climbing in
    climb_stops _ pre.ordered _ pre.here c.loop-number.number c.loop-number.invariant (omega (arith, last-read (goal.at.returns-then-first-candidate c).After-region-candidate, c.requires.first_value, c.if-first-candidate.true))

pub bounds-parents-number : goal.bounds-parents-number
bounds-parents-number c =
    let pre = c.requires.climbing in omega (arith, pre.here, pre.room, c.loop-number.invariant.0, c.loop-number-test)

pub loop-number-smaller : goal.loop-number-smaller
loop-number-smaller c =
    let pre = c.requires.climbing in omega (arith, (pre.known (c.loop-number.number - 1) (omega (arith, c.loop-number.invariant.0, c.loop-number-test))).earlier, c.loop-number-test)

pub loop-number-preserved : goal.loop-number-preserved
loop-number-preserved c =
    let pre = c.requires.climbing in
    climb_steps _ pre.ordered _ pre.here c.loop-number.number _ c.loop-number-test.true c.loop-number.invariant
    (omega (arith, last-read (goal.at.loop-number-preserved c).After-region-candidate, c.requires.first_value, c.if-first-candidate.false))
    (pre.known (c.loop-number.number - 1) (omega (arith, c.loop-number.invariant.0, c.loop-number-test)))

pub returns : goal.returns
returns c =
    let pre = c.requires.climbing in
    climb_ends _ pre.ordered _ pre.here (subst (Climbable _ _) c.loop-number-test.false c.loop-number.invariant)
