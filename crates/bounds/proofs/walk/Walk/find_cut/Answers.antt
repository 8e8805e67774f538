-- The entries are what the marks add up to, so the largest t that passes is the cut.
use Prim.Native.Nat.{ℕ, ◌*◌}
use mathlib.Core.Path.{◌≡◌, ap, ◌∙◌}
use lib.ListN.{length, take}
use lib.Dec.{leb}
use Rattle.reader.specs.Family.{family_of}
use Rattle.bounds.specs.Curves.{entry, curve_marks, cut_of}
use Rattle.bounds.specs.Private.Walks.{marks_up_to}
use Rattle.bounds.proofs.Basics.Known.{is_walkable}
use Rattle.bounds.proofs.Walking.Steps.{entries_marked, marks_of, marks_many, marks_written, largest_same}
use Rattle.bounds.proofs.walk.Walk.find_cut.Goals as goal
use Rattle.bounds.proofs.walk.Walk.find_cut.Goals.{After-write_marks}

-- the part of the list that is passed on is the marks
part : (c : After-write_marks) → take (length c.args.self.now.path.now) c.write_marks.new.marks ≡ curve_marks (family_of c.args.self.now.file.now) c.args.self.now.path.now
part c = marks_written _ _ _ _ c.write_marks.ensures

pub last_passing-requires : goal.last_passing-requires
last_passing-requires c =
    let walk = is_walkable c.args.self.now.walkable in
    rw (part (goal.at.last_passing-requires c).After-write_marks) (marks_of walk.well walk.different walk.short)

pub returns : goal.returns
unfolding cut_of
returns c =
    let walk = is_walkable c.args.self.now.walkable in
    let args = c.args in
    let F = family_of args.self.now.file.now in
    let path = args.self.now.path.now in
    let M = curve_marks F path in
    (rw (part (goal.at.returns c).After-write_marks, marks_many F path) at c.last_passing.ensures)
    ∙ largest_same (λ t. leb (marks_up_to M t * args.b) (args.a * t)) (λ t. leb (entry F path t * args.b) (args.a * t)) (length path)
    (λ t l. ap (λ (n : ℕ). leb (n * args.b) (args.a * t)) (entries_marked walk.well walk.different t l))
