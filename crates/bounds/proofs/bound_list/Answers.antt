-- Where no cause holds, the bounds are written and the charge is added.
use Prim.Native.Nat.{ℕ, ◌+◌}
use native.Mathlib.Omega.{arith}
use mathlib.Core.Path.{◌≡◌, sym, ap, ◌∙◌}
use lib.ListN.{length}
use lib.Seq.{length-take-le}
use Rattle.reader.specs.Family.{family_of, region_count}
use Rattle.reader.specs.Causes.{first_cause}
use Rattle.reader.proofs.Refusals.{number_some, unwritten}
use Rattle.reader.proofs.Accepting.{well_formed_lem}
use Rattle.bounds.specs.Tally.{charge_of}
use Rattle.bounds.specs.Calls.{list_causes}
use Rattle.bounds.proofs.Calls.ListCalls.{no_list_cause, charges_nothing, charges, list_written}
use Rattle.bounds.proofs.bound_list.Goals as goal
use Rattle.bounds.proofs.bound_list.Goals.{After-charge_of-charge, In-Ok}

clear : (c : In-Ok) → let a = c.args in first_cause (list_causes a.file.now a.selections.now a.count a.tally (length a.values.now)) ≡ 0
clear c = sym c.in-Ok.ensures

pub returns-in-Err : goal.returns-in-Err
returns-in-Err c =
    let e = c.in-Err.ensures in
    record { list_answers = charges_nothing _ _ _ _ e (number_some c.in-Err.refusal); list_writes = unwritten c.in-Err.refusal _ e _ _ }

pub slice_bounds-write_bounds-end : goal.slice_bounds-write_bounds-end
slice_bounds-write_bounds-end c =
    (no_list_cause _ _ _ _ _ (clear (goal.at.slice_bounds-write_bounds-end c).In-Ok)).room

pub slice_bounds-write_bounds-end-in-Ok : goal.slice_bounds-write_bounds-end-in-Ok
slice_bounds-write_bounds-end-in-Ok c =
    sym (length-take-le c.args.count c.args.values.now (no_list_cause _ _ _ _ _ (clear (goal.at.slice_bounds-write_bounds-end-in-Ok c).In-Ok)).room)

pub write_bounds-requires : goal.write_bounds-requires
write_bounds-requires c =
    let n = no_list_cause _ _ _ _ _ (clear (goal.at.write_bounds-requires c).In-Ok) in record { well_formed = well_formed_lem _ (λ i. omega (arith, c.type_inv.file i)) n.accepted; whole = rw (length-take-le c.args.count c.args.values.now n.room) n.whole }

charge_is : (c : After-charge_of-charge) → c.charge_of-charge.result ≡ charge_of (region_count (family_of c.args.file.now)) c.args.count
charge_is c = c.charge_of-charge.ensures ∙ ap (λ (K : ℕ). charge_of K c.args.count) c.region_count.ensures

pub overflow_add-result : goal.overflow_add-result
overflow_add-result c =
    let n = no_list_cause _ _ _ _ _ (clear (goal.at.overflow_add-result c).In-Ok) in
    record { fits = omega (arith, n.fits, charge_is (goal.at.overflow_add-result c).After-charge_of-charge) }

pub returns-in-Ok : goal.returns-in-Ok
returns-in-Ok c =
    let h = clear (goal.at.returns-in-Ok c).In-Ok in record { list_answers = ap (λ (n : ℕ). record { number = 0; charge = n; tally = c.args.tally + n }) (charge_is (goal.at.returns-in-Ok c).After-charge_of-charge) ∙ charges _ _ _ h; list_writes = list_written _ _ _ _ _ _ h (rw (c.write_bounds.ensures, length-take-le c.args.count c.args.values.now (no_list_cause _ _ _ _ _ h).room)) }
