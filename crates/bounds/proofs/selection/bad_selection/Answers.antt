use native.Mathlib.Omega.{arith}
use mathlib.Core.Bool.{Bool, ◌||◌}
use mathlib.Core.Path.{◌≡◌, sym, ap, ◌∙◌}
use lib.ListN.{length}
use Rattle.reader.proofs.Below.{none_below_zero}
use Rattle.bounds.proofs.Calls.Selecting.{over_one, over_more, wrong_length, by_bytes}
use Rattle.bounds.proofs.selection.bad_selection.Goals as goal

pub returns-then-selection-whole : goal.returns-then-selection-whole
returns-then-selection-whole c =
    sym (wrong_length _ _ c.if-selection-whole.true)

pub loop-byte-init : goal.loop-byte-init
loop-byte-init c =
    sym (none_below_zero _)

pub loop-byte-preserved : goal.loop-byte-preserved
loop-byte-preserved c =
    let s = c.args.selection.now in
    let i = c.loop-byte.byte-index in
    ap (λ (b : Bool). b || over_one s i) c.loop-byte.invariant ∙ over_more s i

pub returns : goal.returns
returns c =
    let s = c.args.selection.now in
    let end : c.loop-byte.byte-index ≡ length s = omega arith in
    rw end at c.loop-byte.invariant ∙ sym (by_bytes _ s c.if-selection-whole.false)
