use Prim.Native.Nat.{ℕ, ◌+◌}
use native.Mathlib.Omega.{arith}
use mathlib.Core.List.{List}
use mathlib.Core.Path.{◌≡◌, refl, sym, ap, ◌∙◌}
use lib.ListN.{set, length-set}
use Rattle.bounds.specs.Private.Walks.{marks_up_to}
use Rattle.reader.proofs.Lists.{write_first, write_more}
use Rattle.bounds.proofs.Walking.Steps.{marks_none, marks_more}
use Rattle.bounds.proofs.entries.write_values.Goals as goal

pub loop-t-init : goal.loop-t-init
loop-t-init c =
    let M = c.args.marks.now in
    record {
      same_length = refl;
      few = omega arith;
      sum = sym (marks_none M);
      written = write_first (marks_up_to M) c.args.values.now 0 (omega (arith, c.requires.room)) (sym (marks_none M));
    }

pub loop-t-preserved : goal.loop-t-preserved
loop-t-preserved c =
    let inv = c.loop-t.invariant in
    let t = c.loop-t.t in
    let M = c.args.marks.now in
    let values = set c.args.values.now 0 0 in
    let e : c.next_entry-entry.result ≡ marks_up_to M (t + 1) = omega (arith, c.next_entry-entry.ensures, inv.sum, marks_more M t) in record {
      same_length = simp length-set (simp length-set at inv.same_length);
      few = omega (arith, c.next_entry-entry.ensures, c.requires.marks_of.small t c.loop-t-test.true, inv.few);
      sum = e;
      written = ap (λ (l : List ℕ). set l (t + 1) c.next_entry-entry.result) inv.written
          ∙ write_more (marks_up_to M) values (t + 1) c.next_entry-entry.result (simp length-set (omega (arith, c.requires.room))) e;
    }
