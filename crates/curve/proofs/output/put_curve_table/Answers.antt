-- The curve's answer says which text it is: the buffers have room, so it has no cause of its own.
use Prim.Native.Nat.{ℕ}
use native.Mathlib.Omega.{arith}
use mathlib.Core.Bool.{false}
use mathlib.Core.List.{List, []}
use mathlib.Core.Path.{◌≡◌, sym, ap, ap₂, ◌∙◌}
use borrow.Author.Tests.{eq-eqb, ne_eqb, eqb-true, not-false}
use lib.Dec.{eqb}
use lib.ListN.{take, replicate, length-replicate}
use Rattle.std.specs.Prelude.{Err}
use Rattle.reader.specs.declared.refusal.Refusal.{Refusal}
use Rattle.reader.specs.Family.{family_of}
use Rattle.reader.specs.Causes.{first_cause, file_causes}
use Rattle.reader.specs.Refusals.{number_of, Report}
use Rattle.reader.proofs.First.{writes}
use Rattle.reader.proofs.Refusals.{handed_on, first_of}
use Rattle.reader.proofs.Accepting.{learns_accepted, learns_refused}
use Rattle.bounds.specs.Curves.{curve_values, curve_marks}
use Rattle.bounds.specs.Calls.{input_causes, curve_causes, CurveAnswers}
use Rattle.bounds.proofs.Calls.Answering.{path_number}
use Rattle.curve.specs.Program.{odd, program_causes, path_of, text_of}
use Rattle.curve.specs.Text.{table_of}
use Rattle.curve.proofs.Printing.{odd_path, even_number, even_path, curve_number, short_path, prints_table, table_same, values_room, marks_room}
use Rattle.curve.proofs.output.put_curve_table.Goals as goal
use Rattle.curve.proofs.output.put_curve_table.Goals.{In_ok-curve}

-- the causes of the curve with the zeros that are lent to it are those of the family and the path
same : (s path : List ℕ) → first_cause (curve_causes s path (replicate 4097 0) (replicate 4096 0)) ≡ first_cause (input_causes s path)
same s path = curve_number s path (replicate 4097 0) (replicate 4096 0) (omega (arith, length-replicate {A = ℕ} 4097 0)) (omega (arith, length-replicate {A = ℕ} 4096 0))

-- a refusal of the curve is the program's
refused : (s bytes path : List ℕ) (e : Refusal) → path ≡ path_of bytes → odd bytes ≡ false
    → CurveAnswers s path (replicate 4097 0) (replicate 4096 0) (Err e) → number_of e ≡ first_cause (program_causes s bytes)
refused s bytes path e decoded even told =
    ap (λ (r : Report). r.number) told
    ∙ path_number _ path []
    ∙ same s path
    ∙ ap (λ (p : List ℕ). first_cause (input_causes s p)) decoded
    ∙ sym (even_number s bytes even)

-- where the curve is written, no cause holds
unchecked : (c : In_ok-curve) → first_cause (curve_causes c.args.family.now (take c.decode-n.result c.decode-n.new.numbers) (replicate 4097 0) (replicate 4096 0)) ≡ 0
unchecked c = eqb-true _ 0 (not-false (eqb _ 0) (sym c.in_ok-curve.ensures.curve_declines))

clear : (c : In_ok-curve) → first_cause (input_causes c.args.family.now (take c.decode-n.result c.decode-n.new.numbers)) ≡ 0
clear c = sym (same c.args.family.now (take c.decode-n.result c.decode-n.new.numbers)) ∙ unchecked c

pub returns-in_err-check : goal.returns-in_err-check
unfolding program_causes
returns-in_err-check c =
    let refusal = c.in_err-check.field-0.0 in
    rw (handed_on c.from_residual.result refusal c.from_residual.ensures.1)
    (first_of refusal (file_causes c.args.family.now) (learns_refused _ _ c.in_err-check.ensures) _, c.requires.empty)

pub returns-then-path-eq1 : goal.returns-then-path-eq1
unfolding odd
returns-then-path-eq1 c =
    (sym (odd_path c.args.family.now c.args.path.now (learns_accepted _ _ c.in_ok-check.ensures).accepted (eq-eqb _ 1 c.if-path-eq1.true)), c.requires.empty)

pub returns-in_err-curve : goal.returns-in_err-curve
unfolding odd
returns-in_err-curve c =
    let refusal = c.in_err-curve.field-0.0 in
    rw (handed_on c.from_residual-in_err-curve.result refusal c.from_residual-in_err-curve.ensures.1)
    (refused c.args.family.now c.args.path.now _ refusal c.decode-n.ensures.path (ne_eqb _ 1 c.if-path-eq1.false) c.in_err-curve.ensures.curve_answers, c.requires.empty)

pub put_table-requires : goal.put_table-requires
put_table-requires c = record { empty = c.requires.empty; short = short_path _ _ (clear (goal.at.put_table-requires c).In_ok-curve) }

pub returns : goal.returns
unfolding odd
returns c =
    let s = c.args.family.now in
    let bytes = c.args.path.now in
    let path = take c.decode-n.result c.decode-n.new.numbers in
    let F = family_of s in
    let e = unchecked (goal.at.returns c).In_ok-curve in
    let answer = c.in_ok-curve.ensures in
    c.put_table.ensures
    ∙ ap₂ (table_of path) (answer.curve_values_writes ∙ writes _ e (curve_values F path) _) (answer.curve_marks_writes ∙ writes _ e (curve_marks F path) _)
    ∙ table_same path (curve_values F path) _ (curve_marks F path) _ (values_room F path) (marks_room F path)
    ∙ sym (prints_table s path (clear (goal.at.returns c).In_ok-curve))
    ∙ ap (λ (p : List ℕ). text_of (first_cause (input_causes s p)) s p) c.decode-n.ensures.path
    ∙ sym (even_path s bytes (ne_eqb _ 1 c.if-path-eq1.false))
