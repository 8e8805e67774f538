-- The regions begin after the leaf lengths, and an accepted file ends with them.
-- the part with n leaves before it and k regions in it
use Prim.Native.Nat.{ℕ, ◌+◌, ◌*◌}
use mathlib.Core.Path.{sym, ap₂, ◌∙◌}
use lib.ListN.{take, drop}
use Rattle.reader.proofs.Accepting.{learns_accepted, learns_refused, part_refused}
use Rattle.reader.proofs.Refusals.{some_holds}
use Rattle.phf.specs.declared.PhfPart.{PhfPart}
use Rattle.phf.proofs.FieldLaws.{part_fields_lem, no_part_fields, part_taken}
use Rattle.phf.proofs.phf_regions.Goals as goal

abbrev part_of : ℕ → ℕ → PhfPart
part_of n k = record { offset = 16 + 2 * n; length = 6 * k }

pub returns-in-Ok : goal.returns-in-Ok
returns-in-Ok c =
    let s = c.args.file.now in
    let a = learns_accepted s _ c.in-Ok.ensures in
    record {
      phf_regions_answers = ap₂ part_of a.leaves a.regions ∙ sym (part_fields_lem s a.accepted);
      phf_regions_placed = ap₂ (λ (n k : ℕ). take (6 * k) (drop (16 + 2 * n) s)) a.leaves a.regions ∙ part_taken s a.accepted;
    }

pub returns-in-Err : goal.returns-in-Err
returns-in-Err c =
    let s = c.args.file.now in
    let some = some_holds _ _ (learns_refused s _ c.in-Err.ensures) in
    record { phf_regions_answers = sym (no_part_fields s some); phf_regions_placed = sym (part_refused s some) }
