-- Each test is one of the facts of a region on the leaves.
use native.Mathlib.Omega.{arith}
use mathlib.Core.Logic.{⊎_elim}
use mathlib.Core.Path.{sym, ◌∙◌}
use borrow.Author.Tests.{eq-eqb, lt-ltb}
use Rattle.reader.specs.Calls.{held}
use Rattle.reader.proofs.Bools.{passes}
use Rattle.reader.proofs.Judged.{on_leaves, misplaced_last}
use Rattle.reader.proofs.causes.misplaced.Goals as goal
use Rattle.reader.proofs.causes.misplaced.Goals.{then-r-eq0, else-r-eq0}

pub returns-then-r : goal.returns-then-r
unfolding held
returns-then-r c =
    let r = held c.args.r in
    let on = on_leaves c.args.leaves r in
    elim c.if-r-eq0.branch [
      | then-r-eq0 w ↦ w.t-4-is ∙ eq-eqb _ _ w.if-r-eq0.true ∙ sym (passes _ (λ f. omega (arith, (on f).first_some, w.if-r-eq0.true)))
      | else-r-eq0 w ↦
          ⊎_elim
          (λ z. absurd (w.if-r-eq0.false z))
          (λ b. w.t-4-is ∙ lt-ltb _ _ b.1 ∙ sym (passes _ (λ f. omega (arith, (on f).first_last, b.1))))
          c.if-r.either
    ]

pub returns-else-r : goal.returns-else-r
unfolding held
returns-else-r c = sym (misplaced_last c.args.leaves (held c.args.r) c.if-r.false.0 c.if-r.false.1)
