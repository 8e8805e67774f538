use Rattle.std.proofs.Common.{ℕ, ◌+◌, ◌-◌, drop, sym, ap, ◌∙◌, arith}
use Rattle.reader.specs.Family.{family_of, leaf_after}
use Rattle.reader.proofs.Parsed.{leaves_read, length_number}
use Rattle.reader.proofs.Walk.{walk_stops, walk_goes_on}
use Rattle.leaves.proofs.Walk.{walk_ends}
use Rattle.leaves.proofs.leaf_walk.leaf_by_leaf.Goals as goal

pub returns-then-left-length : goal.returns-then-left-length
returns-then-left-length c =
    let s = c.args.file.now in
    let j = c.loop-j.j in
    let leaves = c.leaf_count-j-end.ensures in
    let here = length_number s j (omega (arith, leaves_read s)) in
    sym (c.loop-j.invariant ∙ walk_stops (family_of s) j c.loop-j.left (omega arith) (omega arith))

pub loop-j-preserved : goal.loop-j-preserved
loop-j-preserved c =
    let s = c.args.file.now in
    let j = c.loop-j.j in
    let leaves = c.leaf_count-j-end.ensures in
    let here = length_number s j (omega (arith, leaves_read s)) in
    c.loop-j.invariant
    ∙ walk_goes_on (family_of s) j c.loop-j.left (omega arith) (omega arith)
    ∙ ap (λ (x : ℕ). leaf_after (j + 1) (drop (j + 1) (family_of s).lengths) (c.loop-j.left - x)) (omega arith)

pub returns : goal.returns
returns c =
    sym (c.loop-j.invariant ∙ walk_ends (family_of c.args.file.now) c.loop-j.j c.loop-j.left (omega (arith, c.leaf_count-j-end.ensures)))
