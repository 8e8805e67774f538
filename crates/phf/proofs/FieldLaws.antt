-- The fields of each case of an answer.
--   placeless_told     what a call's promise says of its answer, where no place belongs to it
--   pair_told          the same of a comparison
--   place_beside       the place of an answer with a path is what is returned beside its refusal
use Prim.Native.Nat.{ℕ, ◌*◌}
use native.Mathlib.Omega.{arith}
use mathlib.Core.Bool.{Bool, true, false, cond}
use mathlib.Core.List.{List, [], ◌∷◌}
use mathlib.Core.Logic.{⊎_elim}
use mathlib.Core.Path.{◌≡◌, refl, sym, ap, ◌∙◌}
use lib.ListN.{take, drop, get_or, length-drop}
use lib.Seq.{take_all}
use lib.Dec.{eqb}
use borrow.Author.Tests.{ne_eqb, eqb-false}
use Rattle.std.specs.Prelude.{Result, Ok, Err}
use Rattle.reader.specs.Family.{family_of, leaves, region_count, regions_offset}
use Rattle.reader.specs.Causes.{Cause, first_cause, file_causes, Accepted}
use Rattle.reader.specs.declared.refusal.Refusal.{Refusal}
use Rattle.reader.specs.Refusals.{number_of, beside, Report, report}
use Rattle.reader.specs.Calls.{answer, region_part}
use Rattle.reader.proofs.Refusals.{learns_err, nothing_beside}
use Rattle.reader.proofs.First.{answers, declines, none_or_some}
use Rattle.reader.proofs.Bools.{test}
use Rattle.reader.proofs.Accepting.{accepted_header, whole_length, part_accepted}
use Rattle.bounds.specs.Curves.{first_repeat}
use Rattle.bounds.specs.Calls.{path_refusal}
use Rattle.reduction.specs.declared.PairRefusal.{PairRefusal}
use Rattle.reduction.specs.Calls.{pair_number, pair_beside, report_compared}
use Rattle.reduction.proofs.Calls.ReduceCalls.{pair_some}
use Rattle.phf.specs.Fields.{placeless, placeless_pair, value_at, value_with, part_fields, curved_fields, cutting_fields}

pub pair_learns : (cs : List Cause) (vs : List ℕ) (e : PairRefusal) → report_compared (Err e) ≡ answer cs vs → (pair_number e ≡ first_cause cs) × (pair_beside e ≡ [])
pair_learns cs vs e h =
    ⊎_elim
    (λ z. absurd (pair_some e (ap (λ (r : Report). r.number) (h ∙ answers cs z vs))))
    (λ s. let d = h ∙ declines cs s vs in (ap (λ (r : Report). r.number) d, ap (λ (r : Report). r.values) d))
    (none_or_some cs)

module _ {A : Type 0} (values : A → List ℕ) where
  pub placeless_told : (cs : List Cause) (vs : List ℕ) (r : Result A Refusal) → report values r ≡ answer cs vs → placeless values r ≡ answer cs vs
  placeless_told cs vs (Ok x) h = h
  placeless_told cs vs (Err e) h =
      ap (λ (l : List ℕ). record { number = number_of e; values = l }) (sym (learns_err values cs vs e h).1) ∙ h

  pub place_beside : (e : Refusal) → value_with 13 (report values (Err e)) ≡ get_or (beside e) 0 0
  place_beside e =
      ⊎_elim
      (λ (t : eqb (number_of e) 13 ≡ true). rw t)
      (λ (f : eqb (number_of e) 13 ≡ false). rw f (sym (ap (λ (l : List ℕ). get_or l 0 0) (nothing_beside e (eqb-false (number_of e) 13 f)))))
      (test (eqb (number_of e) 13))

pub pair_told : (cs : List Cause) (vs : List ℕ) (r : Result Bool PairRefusal) → report_compared r ≡ answer cs vs → placeless_pair r ≡ answer cs vs
pair_told cs vs (Ok same) h = h
pair_told cs vs (Err e) h = ap (λ (l : List ℕ). record { number = pair_number e; values = l }) (sym (pair_learns cs vs e h).1) ∙ h

-- The place of the regions.

module _ (file : List ℕ) where
  pub part_fields_lem : Accepted file → part_fields file ≡ record { offset = regions_offset (leaves (family_of file)); length = 6 * region_count (family_of file) }
  unfolding part_fields
  part_fields_lem a = rw a

  pub no_part_fields : (first_cause (file_causes file) ≡ 0 → ⊥) → part_fields file ≡ record { offset = 0; length = 0 }
  unfolding part_fields
  no_part_fields h = rw (ne_eqb (first_cause (file_causes file)) 0 h)

  pub part_taken : Accepted file → take (6 * region_count (family_of file)) (drop (regions_offset (leaves (family_of file))) file) ≡ region_part file
  part_taken a =
      take_all (6 * region_count (family_of file)) (drop (regions_offset (leaves (family_of file))) file) (omega (arith, length-drop (regions_offset (leaves (family_of file))) file, whole_length file (accepted_header file a)))
      ∙ sym (part_accepted file a)

-- the fields of a refusal on a path, by its number
module _ (path : List ℕ) (n : ℕ) where
  pub curve_refusal_fields : curved_fields (path_refusal path n) ≡ record { number = n; place = cond (eqb n 13) (first_repeat path) 0 }
  unfolding path_refusal
  curve_refusal_fields = ⊎_elim (λ (t : eqb n 13 ≡ true). rw t) (λ (f : eqb n 13 ≡ false). rw f) (test (eqb n 13))

  pub cut_refusal_fields : (n ≡ 0 → ⊥) → cutting_fields (path_refusal path n) ≡ record { number = n; place = cond (eqb n 13) (first_repeat path) 0; cut = 0 }
  unfolding path_refusal
  cut_refusal_fields some =
      ⊎_elim (λ (t : eqb n 13 ≡ true). rw (t, ne_eqb n 0 some)) (λ (f : eqb n 13 ≡ false). rw (f, ne_eqb n 0 some)) (test (eqb n 13))
