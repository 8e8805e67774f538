-- What each pass answers, and what the two say of the rows.
use Rattle.std.proofs.Common.{false, ◌||◌, rules, ◌≡◌}
use Rattle.std.specs.List.{fold}
use Rattle.std.proofs.lemmas.Iterator.{YieldsList-from_slice}
use Rattle.std.proofs.lemmas.Iterator.Consumers.{fold_from_yields_List}
use Rattle.volcano.specs.Rules.{off_scale, not_finite}
use Rattle.volcano.proofs.Floats.{finite_is}
use Rattle.volcano.proofs.Judging.{rows_judged}
use Rattle.volcano.proofs.inputs.bad_rows.Goals as goal

pub returns : goal.returns
returns c =
    let ps = c.args.p_values.now in
    let folds = c.args.folds.now in
    let bad_p : c.fold-bad_p.result ≡ fold (λ b p. b || off_scale p) false ps =
    fold_from_yields_List _ (λ b p. b || off_scale p) false _ c.fold-bad_p.ensures.ran (YieldsList-from_slice ps cc) (λ a x b q k. search rules) in
    let bad_fold : c.fold-bad_fold.result ≡ fold (λ b x. b || not_finite x) false folds =
    fold_from_yields_List _ (λ b x. b || not_finite x) false _ c.fold-bad_fold.ensures.ran (YieldsList-from_slice folds cc) (λ a x b q k. search (rules, finite_is)) in
    rw (bad_p, bad_fold) (rows_judged ps folds)
