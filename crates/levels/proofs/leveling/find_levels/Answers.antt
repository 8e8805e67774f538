-- The reader judges the file and finds the parents; from them come the levels.
use native.Mathlib.Omega.{arith}
use mathlib.Core.Path.{◌∙◌}
use Rattle.reader.proofs.Accepting.{learns_accepted, learns_refused}
use Rattle.reader.proofs.ParentLaws.{enough_checked}
use Rattle.reader.proofs.Refusals.{handed_on}
use Rattle.levels.proofs.Finding.LevelLaws.{parented, leveled_accepted, leveled_refused}
use Rattle.levels.proofs.leveling.find_levels.Goals as goal

pub fill_levels-requires : goal.fill_levels-requires
fill_levels-requires c =
    let s = c.args.file.now in
    let told = c.parents in
    let a = learns_accepted s _ (c.in_ok-parents.ensures.parents_answers ∙ enough_checked _ _ (omega arith)) in
    parented s (λ i. omega (arith, c.type_inv.file i)) a.accepted _ _ (omega arith) told.auto.out told.ensures.parents_writes

pub returns : goal.returns
returns c =
    let s = c.args.file.now in
    let a = learns_accepted s _ (c.in_ok-parents.ensures.parents_answers ∙ enough_checked _ _ (omega arith)) in
    leveled_accepted s _ a.accepted c.fill_levels.ensures

pub returns-in_err-parents : goal.returns-in_err-parents
returns-in_err-parents c =
    let s = c.args.file.now in
    let refusal = c.in_err-parents.field-0.0 in
    rw (handed_on c.from_residual.result refusal c.from_residual.ensures.1)
    (leveled_refused s _ refusal (learns_refused s refusal (c.in_err-parents.ensures.parents_answers ∙ enough_checked _ _ (omega arith))))
