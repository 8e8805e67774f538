-- How the answer of a call becomes the fields of a struct of C: the number, then the values in their order. A field that has
-- no value is 0; a place comes with number 13 only; the tally of a declined list is the given one.
use Rattle.std.specs.Prelude.{ℕ, ◌*◌, Bool, cond, List, [], get_or, eqb, Result, Ok, Err}
use Rattle.reader.specs.Family.{family_of, leaves, region_count, regions_offset}
use Rattle.reader.specs.Causes.{first_cause, file_causes}
use Rattle.reader.specs.declared.refusal.Refusal.{Refusal}
use Rattle.reader.specs.Refusals.{number_of, Report, report}
use Rattle.bounds.specs.Calls.{ListReport}
use Rattle.reduction.specs.declared.PairRefusal.{PairRefusal}
use Rattle.reduction.specs.Calls.{pair_number, report_compared}
use Rattle.phf.specs.declared.PhfChecked.{PhfChecked}
use Rattle.phf.specs.declared.PhfPart.{PhfPart}
use Rattle.phf.specs.declared.PhfBounded.{PhfBounded}
use Rattle.phf.specs.declared.PhfListed.{PhfListed}
use Rattle.phf.specs.declared.PhfCurved.{PhfCurved}
use Rattle.phf.specs.declared.PhfCutting.{PhfCutting}
use Rattle.phf.specs.declared.PhfReduced.{PhfReduced}
use Rattle.phf.specs.declared.PhfCompared.{PhfCompared}
use Rattle.phf.specs.declared.PhfConverted.{PhfConverted}

-- what the answer of a call says beside whose refusals nothing is returned
abbrev pub placeless : {A : Type 0} → (A → List ℕ) → Result A Refusal → Report
placeless values (Ok answer) = report values (Ok answer)
placeless values (Err refusal) = record { number = number_of refusal; values = [] }

-- the same of a comparison
abbrev pub placeless_pair : Result Bool PairRefusal → Report
placeless_pair (Ok same) = report_compared (Ok same)
placeless_pair (Err refusal) = record { number = pair_number refusal; values = [] }

-- the i-th value of an answer, counted from 0; 0 if it has none there
abbrev pub value_at : Report → ℕ → ℕ
value_at r i = get_or r.values i 0

-- the first value of an answer with this number, else 0
abbrev pub value_with : ℕ → Report → ℕ
value_with number r = cond (eqb r.number number) (value_at r 0) 0

abbrev pub checked_fields : Report → PhfChecked
checked_fields r = record { number = r.number; peptides = value_at r 0; leaves = value_at r 1; regions = value_at r 2 }

-- where the regions of an accepted file stand
unfoldable pub part_fields : List ℕ → PhfPart
part_fields file =
    cond (eqb (first_cause (file_causes file)) 0)
    (record { offset = regions_offset (leaves (family_of file)); length = 6 * region_count (family_of file) })
    (record { offset = 0; length = 0 })

abbrev pub bounded_fields : Report → PhfBounded
bounded_fields r = record { number = r.number; bound = value_at r 0 }

-- the report of a list has these fields already
abbrev pub listed_fields : ListReport → PhfListed
listed_fields r = record { number = r.number; charge = r.charge; tally = r.tally }

abbrev pub reduced_fields : Report → PhfReduced
reduced_fields r = record { number = r.number; length = value_at r 0; regions = value_at r 1 }

abbrev pub compared_fields : Report → PhfCompared
compared_fields r = record { number = r.number; same = value_at r 0 }

abbrev pub converted_fields : Report → PhfConverted
converted_fields r = record { number = r.number; length = value_at r 0 }

abbrev pub curved_fields : Report → PhfCurved
curved_fields r = record { number = r.number; place = value_with 13 r }

abbrev pub cutting_fields : Report → PhfCutting
cutting_fields r = record { number = r.number; place = value_with 13 r; cut = value_with 0 r }
