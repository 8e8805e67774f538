-- The totals of all regions are found, and then the taken bytes from them.
use Prim.Native.Nat.{ℕ}
use native.Mathlib.Omega.{arith}
use mathlib.Core.List.{List, ◌++◌}
use mathlib.Core.Path.{ap, ◌∙◌}
use lib.ListN.{drop}
use Rattle.reader.specs.Family.{family_of, region_count}
use Rattle.bounds.proofs.Summing.TakenBytes.{taken_along_lem}
use Rattle.bounds.proofs.taking.write_bound.Goals as goal

pub returns-clause-taken_after : goal.returns-clause-taken_after
returns-clause-taken_after c =
    let F = family_of c.args.file.now in
    let line = c.line_value-value.ensures in
    let along = taken_along_lem c.requires.ready.formed c.args.selection.now c.line_value-value.new.totals (λ k l. line.stored.totals k (omega arith) l) in
    c.write_taken.ensures ∙ ap (λ (L : List ℕ). L ++ drop (region_count F) c.args.taken.now) along
