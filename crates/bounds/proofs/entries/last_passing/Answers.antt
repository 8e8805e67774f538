use Prim.Native.Nat.{◌+◌}
use native.Mathlib.Omega.{arith}
use mathlib.Core.Path.{◌≡◌, sym}
use Rattle.bounds.specs.Private.Walks.{marks_up_to}
use Rattle.bounds.proofs.Walking.Steps.{marks_none, marks_more, passing_none, passing_more}
use Rattle.bounds.proofs.entries.last_passing.Goals as goal

pub loop-i-init : goal.loop-i-init
loop-i-init c =
    record { few = omega arith; sum = sym (marks_none c.args.marks.now); passes = passing_none c.args.marks.now _ _ }

pub loop-i-preserved : goal.loop-i-preserved
loop-i-preserved c =
    let inv = c.loop-i.invariant in
    let i = c.loop-i.i in
    let args = c.args in
    let M = args.marks.now in
    let e : c.next_entry-entry.result ≡ marks_up_to M (i + 1) = omega (arith, c.next_entry-entry.ensures, inv.sum, marks_more M i) in record {
      few = omega (arith, c.next_entry-entry.ensures, c.requires.small i c.loop-i-test.true, inv.few);
      sum = e;
      passes = passing_more M args.a args.b i _ _ _ e inv.passes c.later_cut-cut.ensures;
    }
