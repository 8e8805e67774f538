-- A refusal of the judge is handed on; without one the counts are those of the file.
use mathlib.Core.Path.{sym}
use Rattle.reader.proofs.Refusals.{handed_on}
use Rattle.reader.proofs.Accepting.{reports_refused, reports_accepted}
use Rattle.reader.proofs.check.Goals as goal

pub returns-in_err-judge : goal.returns-in_err-judge
returns-in_err-judge c =
    rw (handed_on c.from_residual.result _ c.from_residual.ensures.1) (reports_refused c.args.file.now _ c.in_err-judge.ensures.tested)

pub returns : goal.returns
returns c =
    reports_accepted c.args.file.now _ (sym c.in_ok-judge.ensures.tested) c.counts.ensures
