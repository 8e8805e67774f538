-- The regions begin after the leaf lengths, and an accepted file ends with them.
use Prim.Native.Nat.{ℕ, ◌+◌, ◌*◌, ◌≤◌, ◌-◌}
use native.Mathlib.Omega.{arith}
use mathlib.Core.Path.{◌≡◌, refl, sym, ap, ◌∙◌}
use lib.ListN.{length, drop, length-drop}
use lib.Seq.{take_all}
use Rattle.reader.specs.Causes.{first_cause, file_causes}
use Rattle.reader.specs.Calls.{CheckAnswers}
use Rattle.std.specs.Prelude.{Ok}
use Rattle.reader.specs.declared.Sizes.{Sizes}
use mathlib.Core.List.{List}
use Rattle.reader.proofs.Accepting.{accepted_header, whole_length, learns_accepted, learns_refused, part_accepted, part_refused, start_accepted, start_refused, part_given}
use Rattle.reader.proofs.Refusals.{number_some}
use Rattle.reader.proofs.regions.Goals as goal

-- the part begins inside the file
inside : (s : List ℕ) (n : Sizes) → CheckAnswers s (Ok n) → 16 + 2 * n.leaves ≤ length s
inside s n given =
    let a = learns_accepted s n given in
    omega (arith, a.leaves, whole_length s (accepted_header s a.accepted))

pub slice_bounds-result-count : goal.slice_bounds-result-count
slice_bounds-result-count c = inside _ _ c.in-Ok.ensures

pub slice_bounds-result-start : goal.slice_bounds-result-start
slice_bounds-result-start c = omega (arith, inside _ _ c.in-Ok.ensures)

pub returns-in-Ok : goal.returns-in-Ok
returns-in-Ok c =
    let s = c.args.file.now in
    let n = c.in-Ok.accepted.leaves in
    let a = learns_accepted s _ c.in-Ok.ensures in
    part_given s
    refl
    (omega (arith, a.leaves, start_accepted s a.accepted))
    (take_all (length s - (16 + 2 * n)) (drop (16 + 2 * n) s) (omega (arith, length-drop (16 + 2 * n) s))
    ∙ ap (λ (n : ℕ). drop (16 + 2 * n) s) a.leaves
    ∙ sym (part_accepted s a.accepted))

pub returns-in-Err : goal.returns-in-Err
returns-in-Err c =
    let s = c.args.file.now in
    let r = learns_refused s _ c.in-Err.ensures in
    let some : first_cause (file_causes s) ≡ 0 → ⊥ = λ e. number_some _ (r ∙ e) in
    part_given s refl (omega (arith, start_refused s some)) (sym (part_refused s some))
