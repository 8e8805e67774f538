-- The entries are what the marks add up to.
use Prim.Native.Nat.{ℕ, ◌+◌}
use native.Mathlib.Omega.{arith}
use mathlib.Core.List.{List, ◌++◌}
use mathlib.Core.Path.{◌≡◌, ap, ◌∙◌}
use lib.ListN.{length, take, drop}
use Rattle.reader.specs.Family.{family_of}
use Rattle.reader.proofs.Lists.{tabulate_same}
use Rattle.bounds.specs.Curves.{entry, curve_marks, curve_values}
use Rattle.bounds.specs.Private.Walks.{marks_up_to}
use Rattle.bounds.proofs.Basics.Known.{is_walkable}
use Rattle.bounds.proofs.Walking.Steps.{entries_marked, marks_of, marks_many, marks_written}
use Rattle.bounds.proofs.walk.Walk.write_curve.Goals as goal
use Rattle.bounds.proofs.walk.Walk.write_curve.Goals.{After-write_marks}

-- the part of the list that is passed on is the marks
part : (c : After-write_marks) → take (length c.args.self.now.path.now) c.write_marks.new.marks ≡ curve_marks (family_of c.args.self.now.file.now) c.args.self.now.path.now
part c = marks_written _ _ _ _ c.write_marks.ensures

pub write_values-requires : goal.write_values-requires
write_values-requires c =
    let pre = c.requires in
    let walk = is_walkable c.args.self.now.walkable in
    rw (part (goal.at.write_values-requires c).After-write_marks)
    (record { marks_of = marks_of walk.well walk.different walk.short; room = omega (arith, pre.values_room, marks_many (family_of c.args.self.now.file.now) c.args.self.now.path.now) })

pub returns : goal.returns
unfolding curve_values
returns c =
    let walk = is_walkable c.args.self.now.walkable in
    let args = c.args in
    let F = family_of args.self.now.file.now in
    let path = args.self.now.path.now in
    let M = curve_marks F path in record {
      values_after = (rw (part (goal.at.returns c).After-write_marks, marks_many F path) at c.write_values.ensures)
          ∙ ap (λ (l : List ℕ). l ++ drop (length path + 1) args.values.now)
          (tabulate_same (length path + 1) (marks_up_to M) (entry F path) (λ t l. entries_marked walk.well walk.different t (omega arith)));
      marks_after = c.write_marks.ensures;
    }
