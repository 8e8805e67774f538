-- `curve` tries the family and the path, with room for the largest; then the rest is tried, and the smaller values are written.
use Prim.Native.Nat.{ℕ}
use native.Mathlib.Omega.{arith}
use mathlib.Core.Path.{◌≡◌, sym, ◌∙◌}
use lib.ListN.{replicate, length-replicate}
use borrow.Author.Tests.{eqb-true, not-false}
use Rattle.reader.specs.Causes.{first_cause}
use Rattle.reader.proofs.Refusals.{handed_on}
use Rattle.bounds.specs.Calls.{input_causes, curve_causes}
use Rattle.bounds.proofs.Calls.Answering.{curve_judges}
use Rattle.hybrid.proofs.Calls.{hybrid_known, hybrid_refuses, hybrid_declines, hybrid_writes, region_curve}
use Rattle.hybrid.proofs.hybrid.Goals as goal
use Rattle.hybrid.proofs.hybrid.Goals.{In_ok-curve}

-- the curve is written: no cause of the family and the path holds
curve_clear : (c : In_ok-curve) → first_cause (curve_causes c.args.file.now c.args.path.now (replicate 4097 0) (replicate 4096 0)) ≡ 0
curve_clear c = eqb-true _ 0 (not-false _ (sym c.in_ok-curve.ensures.curve_declines))

clear : (c : In_ok-curve) → first_cause (input_causes c.args.file.now c.args.path.now) ≡ 0
clear c = sym (curve_judges _ _ (replicate 4097 0) (replicate 4096 0) (omega (arith, length-replicate {A = ℕ} 4097 0)) (omega (arith, length-replicate {A = ℕ} 4096 0))) ∙ curve_clear c

pub returns-in_err-curve : goal.returns-in_err-curve
returns-in_err-curve c =
    let a = c.args in
    let told = c.in_err-curve.ensures in
    let done =
    hybrid_refuses a.file.now a.path.now a.p_values.now a.level a.values.now (replicate 4097 0) (replicate 4096 0) (omega (arith, length-replicate {A = ℕ} 4097 0))
    (omega (arith, length-replicate {A = ℕ} 4096 0)) _ told.curve_answers told.curve_declines in
    rw (handed_on c.from_residual.result c.in_err-curve.field-0.0 c.from_residual.ensures.1) (record { hybrid_answers = done.0; hybrid_writes = done.1.0; hybrid_declines = done.1.1 })

pub returns-in_err-check_inputs : goal.returns-in_err-check_inputs
returns-in_err-check_inputs c =
    let refusal = c.in_err-check_inputs.field-0.0 in
    let done = hybrid_declines _ _ _ _ _ refusal (clear (goal.at.returns-in_err-check_inputs c).In_ok-curve) c.in_err-check_inputs.ensures in
    rw (handed_on c.from_residual-in_err-check_inputs.result refusal c.from_residual-in_err-check_inputs.ensures.1)
    (record { hybrid_answers = done.0; hybrid_writes = done.1.0; hybrid_declines = done.1.1 })

pub write_smaller-requires : goal.write_smaller-requires
write_smaller-requires c =
    let k = hybrid_known _ _ _ _ _ (clear (goal.at.write_smaller-requires c).In_ok-curve) (sym c.in_ok-check_inputs.ensures) in
    record { simes_inputs = rw c.peptide_count.ensures k.0; room = k.1 }

pub returns : goal.returns
returns c =
    let a = c.args in
    let told = (goal.at.returns c).In_ok-curve in
    let done =
    hybrid_writes a.file.now a.path.now a.p_values.now a.level a.values.now c.peptide_count.result c.curve.new.values _ (clear told) (sym c.in_ok-check_inputs.ensures) c.peptide_count.ensures
    (region_curve _ _ (replicate 4097 0) (replicate 4096 0) _ (curve_clear told) c.in_ok-curve.ensures.curve_values_writes) c.write_smaller.ensures in
    record { hybrid_answers = done.0; hybrid_writes = done.1.0; hybrid_declines = done.1.1 }
