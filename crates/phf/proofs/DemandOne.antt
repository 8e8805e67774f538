-- Demand 1: every call with bad input gets the first cause that holds, with its number, and every lent list is unchanged; with no cause
-- it does its work. Over all inputs, and over what each call answers and leaves by its promise. A slice that is lent to be read cannot
-- be written, so only those that are lent for outputs are named; that every call ends is part of the proof of each function.
-- It speaks of every call that has causes. Those of reader that answer, or leave, a total definition of any bytes (`leaf_length`,
-- `peptides_between`, `region_of`, the counts, `number_at`, `number_of`, `put_number`, `put_numbers`, `same_bytes`, `smaller`) have none, nor have `leaf_of` of
-- leaves and `passes` of volcano; the program's text has a theorem of its own (`program_theorem`).
use Prim.Native.Nat.{ℕ, ◌+◌, ◌*◌}
use mathlib.Core.Bool.{Bool, cond}
use mathlib.Core.List.{List, [], ◌∷◌, map}
use mathlib.Core.Path.{◌≡◌, refl, sym, ap, ◌∙◌}
use mathlib.Core.Logic.{◌⊎◌, inl, inr, ⊎_elim, ◌↔◌}
use native.Mathlib.Omega.{arith}
use lib.ListN.{length, drop, get_or, length-drop, drop_of_length-le}
use lib.Dec.{eqb}
use lib.Ieee.{Float}
use Rattle.reader.specs.Lists.{same_list}
use Rattle.reader.specs.Bytes.{number_at}
use Rattle.reader.specs.Family.{family_of, leaves, region_count, regions_offset}
use Rattle.reader.specs.Causes.{Cause, first_cause, header_causes, family_causes, file_causes, Accepted}
use Rattle.reader.specs.Nesting as nesting
use Rattle.reader.specs.Calls.{sizes, counts, checked, region_part, CheckAnswers, RegionsGiven, parents_causes, ParentsAnswers, ParentsWrites, at_start}
use Rattle.std.specs.Prelude.{Result, Ok, Err}
use Rattle.reader.specs.declared.refusal.Refusal.{Refusal}
use Rattle.reader.specs.declared.Sizes.{Sizes}
use Rattle.reader.specs.Refusals.{number_of}
use Rattle.reader.proofs.Refusals.{Lacks, lacks_joined}
use Rattle.reader.proofs.First.{none_or_some}
use Rattle.reader.proofs.Accepting.{file_lacks, accepted_header, whole_length, part_accepted, part_refused, start_accepted, start_refused}
use Rattle.bounds.specs.Selections.{bound_of, taken_of, totals_of}
use Rattle.bounds.specs.SelectionLists.{list_bounds}
use Rattle.bounds.specs.Tally.{charge_of}
use Rattle.bounds.specs.Curves.{curve_values, curve_marks, cut_of, first_repeat, IsFirstRepeat}
use Rattle.bounds.specs.Calls.{the_number, no_values, causes_with_room, path_causes, input_causes, selection_causes, list_inputs, list_causes, curve_causes, cut_causes, BoundAnswers, TakenWrites, TotalsWrites, ListAnswers, ListWrites, CurveAnswers, CurveValuesWrites, CurveMarksWrites, CurveDeclines, CutAnswers}
use Rattle.bounds.specs.declared.Listed.{Listed}
use Rattle.bounds.proofs.Calls.FirstRepeat.{first_repeat_lem, place_with_13}
use Rattle.reduction.specs.Reduction.{reduced_file}
use Rattle.reduction.specs.declared.Size.{Size}
use Rattle.reduction.specs.declared.PairRefusal.{PairRefusal}
use Rattle.reduction.specs.Calls.{size_values, reduce_causes, reduced_counts, compare_causes, comparison, ReduceAnswers, ReduceWrites, SameAnswers}
use Rattle.pvalues.specs.Calls.{room_and_p_values, from_p_inputs, from_p_causes, file_from_p, FromPAnswers, FromPWrites}
use Rattle.hybrid.specs.Hybrid.{hybrid_values}
use Rattle.hybrid.specs.Calls.{hybrid_inputs, hybrid_causes, HybridAnswers, HybridWrites, HybridDeclines}
use Rattle.levels.specs.Levels.{level_file_of, family_file_of}
use Rattle.levels.specs.Causes.{level_header_causes, nesting_causes, form_causes, place_causes}
use Rattle.levels.specs.Calls.{to_levels_causes, from_levels_causes, ToLevelsAnswers, ToLevelsWrites, FromLevelsAnswers, FromLevelsWrites}
use Rattle.volcano.specs.Rules.{chosen}
use Rattle.volcano.specs.Calls.{choose_causes, ChooseAnswers, ChooseWrites}
use Rattle.volcano.specs.declared.Rule.{Rule}
use Rattle.volcano.specs.declared.Rule.TheVariants.{AtMost, Between, Volcano}
use Rattle.phf.specs.Fields.{value_at, value_with, checked_fields, part_fields, bounded_fields, listed_fields, curved_fields, cutting_fields, reduced_fields, compared_fields, converted_fields}
use Rattle.phf.specs.Calls.{PhfCheckAnswers, PhfRegionsAnswers, PhfBoundAnswers, PhfListAnswers, PhfChooseAnswers, PhfCurveAnswers, PhfCutAnswers, PhfReduceAnswers, PhfSameAnswers, PhfFromPAnswers, PhfHybridAnswers, PhfToLevelsAnswers, PhfFromLevelsAnswers}
use Rattle.phf.specs.Obeys.{refusals, refusal_of, pair_refusal_of, numbers, NoZero, NoneHolds, FirstHolds, Obeys}
use Rattle.phf.specs.declared.PhfChecked.{PhfChecked}
use Rattle.phf.specs.declared.PhfPart.{PhfPart}
use Rattle.phf.specs.declared.PhfBounded.{PhfBounded}
use Rattle.phf.specs.declared.PhfListed.{PhfListed}
use Rattle.phf.specs.declared.PhfCurved.{PhfCurved}
use Rattle.phf.specs.declared.PhfCutting.{PhfCutting}
use Rattle.phf.specs.declared.PhfReduced.{PhfReduced}
use Rattle.phf.specs.declared.PhfCompared.{PhfCompared}
use Rattle.phf.specs.declared.PhfConverted.{PhfConverted}
use Rattle.phf.proofs.FieldLaws.{part_fields_lem, no_part_fields, curve_refusal_fields, cut_refusal_fields}
use Rattle.phf.proofs.Obeying.{first_is, numbered_if, none_is, Lent, nothing_lent, lent_too, lent_one, made_obeys, number_obeys, verdict_obeys, result_obeys, pair_obeys, path_obeys, path_result_obeys, charged_obeys, list_obeys}

pub record DemandOne : Type 0 where
  -- The first cause of a list has the number n exactly when a cause with this number holds and none before it. In a list that has no
  -- cause with the number 0, as the lists below show of all, it is 0 exactly when none holds.
  pub first_cause_lem : (cs : List Cause) (n : ℕ) → (n ≡ 0 → ⊥) → (first_cause cs ≡ n) ↔ FirstHolds cs n
  pub no_cause : (cs : List Cause) → NoZero (numbers cs) → (first_cause cs ≡ 0) ↔ NoneHolds cs
  -- The refusals have the numbers 1 to 27, in the order of their names in `refusals`.
  pub refusals_numbered : (place : ℕ) → map number_of (refusals place) ≡ 1 ∷ 2 ∷ 3 ∷ 4 ∷ 5 ∷ 6 ∷ 7 ∷ 8 ∷ 9 ∷ 10 ∷ 11 ∷ 12 ∷ 13 ∷ 14 ∷ 15 ∷ 16 ∷ 17 ∷ 18 ∷ 19 ∷ 20 ∷ 21 ∷ 22 ∷ 23 ∷ 24 ∷ 25 ∷ 26 ∷ 27 ∷ []
  -- The causes that each call tries, in this order.
  pub check_tries : (file : List ℕ) → numbers (file_causes file) ≡ 1 ∷ 2 ∷ 3 ∷ 4 ∷ 5 ∷ 6 ∷ 7 ∷ 8 ∷ 9 ∷ 10 ∷ []
  pub parents_tries : (file out : List ℕ) → numbers (parents_causes file out) ≡ 1 ∷ 2 ∷ 3 ∷ 4 ∷ 5 ∷ 6 ∷ 7 ∷ 8 ∷ 9 ∷ 10 ∷ 16 ∷ []
  pub bound_tries : (file selection out : List ℕ) → numbers (selection_causes file selection out) ≡ 1 ∷ 2 ∷ 3 ∷ 4 ∷ 5 ∷ 6 ∷ 7 ∷ 8 ∷ 9 ∷ 10 ∷ 14 ∷ 16 ∷ []
  pub bound_list_tries : (file selections : List ℕ) (count tally room : ℕ) → numbers (list_causes file selections count tally room) ≡ 1 ∷ 2 ∷ 3 ∷ 4 ∷ 5 ∷ 6 ∷ 7 ∷ 8 ∷ 9 ∷ 10 ∷ 14 ∷ 16 ∷ 24 ∷ 25 ∷ []
  pub choose_tries : (m : ℕ) (ps folds : List Float) (rule : Rule) (room : ℕ) → numbers (choose_causes m ps folds rule room) ≡ 2 ∷ 17 ∷ 18 ∷ 19 ∷ []
  pub curve_tries : (file path values marks : List ℕ) → numbers (curve_causes file path values marks) ≡ 1 ∷ 2 ∷ 3 ∷ 4 ∷ 5 ∷ 6 ∷ 7 ∷ 8 ∷ 9 ∷ 10 ∷ 11 ∷ 12 ∷ 13 ∷ 16 ∷ []
  pub cut_tries : (file path : List ℕ) (a b : ℕ) → numbers (cut_causes file path a b) ≡ 1 ∷ 2 ∷ 3 ∷ 4 ∷ 5 ∷ 6 ∷ 7 ∷ 8 ∷ 9 ∷ 10 ∷ 11 ∷ 12 ∷ 13 ∷ 15 ∷ []
  pub reduce_tries : (file out : List ℕ) → numbers (reduce_causes file out) ≡ 1 ∷ 2 ∷ 3 ∷ 4 ∷ 5 ∷ 6 ∷ 7 ∷ 8 ∷ 9 ∷ 10 ∷ 16 ∷ []
  pub same_tries : (first second : List ℕ) → numbers (compare_causes first second) ≡ 1 ∷ 2 ∷ 3 ∷ 4 ∷ 5 ∷ 6 ∷ 7 ∷ 8 ∷ 9 ∷ 10 ∷ 101 ∷ 102 ∷ 103 ∷ 104 ∷ 105 ∷ 106 ∷ 107 ∷ 108 ∷ 109 ∷ 110 ∷ []
  pub bounds_from_p_tries : (file ps : List ℕ) (deviationSquared room : ℕ) → numbers (from_p_causes file ps deviationSquared room) ≡ 1 ∷ 2 ∷ 3 ∷ 4 ∷ 5 ∷ 6 ∷ 7 ∷ 8 ∷ 9 ∷ 10 ∷ 16 ∷ 20 ∷ 21 ∷ 22 ∷ []
  pub hybrid_tries : (file path ps : List ℕ) (level room : ℕ) → numbers (hybrid_causes file path ps level room) ≡ 1 ∷ 2 ∷ 3 ∷ 4 ∷ 5 ∷ 6 ∷ 7 ∷ 8 ∷ 9 ∷ 10 ∷ 11 ∷ 12 ∷ 13 ∷ 16 ∷ 20 ∷ 21 ∷ 23 ∷ []
  pub to_levels_tries : (file : List ℕ) (room : ℕ) → numbers (to_levels_causes file room) ≡ 1 ∷ 2 ∷ 3 ∷ 4 ∷ 5 ∷ 6 ∷ 7 ∷ 8 ∷ 9 ∷ 10 ∷ 16 ∷ []
  pub from_levels_tries : (file : List ℕ) (room : ℕ) → numbers (from_levels_causes file room) ≡ 1 ∷ 2 ∷ 3 ∷ 4 ∷ 5 ∷ 6 ∷ 7 ∷ 9 ∷ 10 ∷ 16 ∷ 26 ∷ 27 ∷ []
  -- The calls of C. For each, after its promises: its causes; its answer, the refusal with the number n, the answer of its work; its lent
  -- lists after the call, before it, and with its work.
  pub phf_check : (file : List ℕ) (r : PhfChecked) → PhfCheckAnswers file r
      → Obeys (file_causes file)
      r (λ n. record { number = n; peptides = 0; leaves = 0; regions = 0 }) (record { number = 0; peptides = (family_of file).peptides; leaves = leaves (family_of file); regions = region_count (family_of file) })
      [] [] []
  pub phf_bound : (file selection taken new : List ℕ) (r : PhfBounded) → PhfBoundAnswers file selection taken r → TakenWrites file selection taken new
      → Obeys (selection_causes file selection taken)
      r (λ n. record { number = n; bound = 0 }) (record { number = 0; bound = bound_of (family_of file) selection })
      (new ∷ []) (taken ∷ []) (at_start (taken_of (family_of file) selection) taken ∷ [])
  pub phf_bounds_list : (file selections : List ℕ) (count tally : ℕ) (values new : List ℕ) (r : PhfListed) → PhfListAnswers file selections count tally values r → ListWrites file selections count tally values new
      → Obeys (list_causes file selections count tally (length values))
      r (λ n. record { number = n; charge = 0; tally = tally }) (record { number = 0; charge = charge_of (region_count (family_of file)) count; tally = tally + charge_of (region_count (family_of file)) count })
      (new ∷ []) (values ∷ []) (at_start (list_bounds (family_of file) selections count) values ∷ [])
  pub phf_choose_at_most : (m : ℕ) (ps folds : List Float) (cut : Float) (out new : List ℕ) (r : ℕ) → PhfChooseAnswers m ps folds (AtMost cut) out r → ChooseWrites m ps folds (AtMost cut) out new
      → Obeys (choose_causes m ps folds (AtMost cut) (length out)) r (λ n. n) 0 (new ∷ []) (out ∷ []) (at_start (chosen (AtMost cut) ps folds) out ∷ [])
  pub phf_choose_between : (m : ℕ) (ps folds : List Float) (low high : Float) (out new : List ℕ) (r : ℕ) → PhfChooseAnswers m ps folds (Between low high) out r → ChooseWrites m ps folds (Between low high) out new
      → Obeys (choose_causes m ps folds (Between low high) (length out)) r (λ n. n) 0 (new ∷ []) (out ∷ []) (at_start (chosen (Between low high) ps folds) out ∷ [])
  pub phf_choose_volcano : (m : ℕ) (ps folds : List Float) (cut fold : Float) (out new : List ℕ) (r : ℕ) → PhfChooseAnswers m ps folds (Volcano cut fold) out r → ChooseWrites m ps folds (Volcano cut fold) out new
      → Obeys (choose_causes m ps folds (Volcano cut fold) (length out)) r (λ n. n) 0 (new ∷ []) (out ∷ []) (at_start (chosen (Volcano cut fold) ps folds) out ∷ [])
  pub phf_curve : (file path values marks newValues newMarks : List ℕ) (r : PhfCurved) → PhfCurveAnswers file path values marks r → CurveValuesWrites file path values marks newValues → CurveMarksWrites file path values marks newMarks
      → Obeys (curve_causes file path values marks)
      r (λ n. record { number = n; place = cond (eqb n 13) (first_repeat path) 0 }) (record { number = 0; place = 0 })
      (newValues ∷ newMarks ∷ []) (values ∷ marks ∷ []) (at_start (curve_values (family_of file) path) values ∷ at_start (curve_marks (family_of file) path) marks ∷ [])
  pub phf_cut : (file path : List ℕ) (a b : ℕ) (r : PhfCutting) → PhfCutAnswers file path a b r
      → Obeys (cut_causes file path a b)
      r (λ n. record { number = n; place = cond (eqb n 13) (first_repeat path) 0; cut = 0 }) (record { number = 0; place = 0; cut = cut_of (family_of file) path a b })
      [] [] []
  pub phf_reduce : (file out new : List ℕ) (r : PhfReduced) → PhfReduceAnswers file out r → ReduceWrites file out new
      → Obeys (reduce_causes file out)
      r (λ n. record { number = n; length = 0; regions = 0 }) (record { number = 0; length = number_at (reduced_file file) 14; regions = number_at (reduced_file file) 8 })
      (new ∷ []) (out ∷ []) (at_start (reduced_file file) out ∷ [])
  pub phf_same : (first second : List ℕ) (r : PhfCompared) → PhfSameAnswers first second r
      → Obeys (compare_causes first second)
      r (λ n. record { number = n; same = 0 }) (record { number = 0; same = cond (same_list (reduced_file first) (reduced_file second)) 1 0 })
      [] [] []
  pub phf_bounds_from_p : (file ps : List ℕ) (deviationSquared : ℕ) (out new : List ℕ) (r : ℕ) → PhfFromPAnswers file ps deviationSquared out r → FromPWrites file ps deviationSquared out new
      → Obeys (from_p_causes file ps deviationSquared (length out)) r (λ n. n) 0 (new ∷ []) (out ∷ []) (at_start (file_from_p file ps deviationSquared) out ∷ [])
  pub phf_hybrid : (file path ps : List ℕ) (level : ℕ) (values new : List ℕ) (r : PhfCurved) → PhfHybridAnswers file path ps level values r → HybridWrites file path ps level values new
      → Obeys (hybrid_causes file path ps level (length values))
      r (λ n. record { number = n; place = cond (eqb n 13) (first_repeat path) 0 }) (record { number = 0; place = 0 })
      (new ∷ []) (values ∷ []) (at_start (hybrid_values (family_of file) ps level path) values ∷ [])
  pub phf_to_levels : (file out new : List ℕ) (r : PhfConverted) → PhfToLevelsAnswers file out r → ToLevelsWrites file out new
      → Obeys (to_levels_causes file (length out))
      r (λ n. record { number = n; length = 0 }) (record { number = 0; length = length (level_file_of (family_of file)) })
      (new ∷ []) (out ∷ []) (at_start (level_file_of (family_of file)) out ∷ [])
  pub phf_from_levels : (file out new : List ℕ) (r : PhfConverted) → PhfFromLevelsAnswers file out r → FromLevelsWrites file out new
      → Obeys (from_levels_causes file (length out))
      r (λ n. record { number = n; length = 0 }) (record { number = 0; length = length (family_file_of file) })
      (new ∷ []) (out ∷ []) (at_start (family_file_of file) out ∷ [])
  -- The calls of the libraries, in the same order.
  pub check : (file : List ℕ) (r : Result Sizes Refusal) → CheckAnswers file r
      → Obeys (file_causes file) r (λ n. Err (refusal_of 0 n)) (Ok (record { peptides = (family_of file).peptides; leaves = leaves (family_of file); regions = region_count (family_of file) })) [] [] []
  pub parents : (file out new : List ℕ) (r : Result Sizes Refusal) → ParentsAnswers file out r → ParentsWrites file out new
      → Obeys (parents_causes file out)
      r (λ n. Err (refusal_of 0 n)) (Ok (record { peptides = (family_of file).peptides; leaves = leaves (family_of file); regions = region_count (family_of file) }))
      (new ∷ []) (out ∷ []) (at_start (nesting.parents (family_of file)) out ∷ [])
  pub bound : (file selection taken new : List ℕ) (r : Result ℕ Refusal) → BoundAnswers file selection taken r → TakenWrites file selection taken new
      → Obeys (selection_causes file selection taken)
      r (λ n. Err (refusal_of 0 n)) (Ok (bound_of (family_of file) selection))
      (new ∷ []) (taken ∷ []) (at_start (taken_of (family_of file) selection) taken ∷ [])
  pub inside_totals : (file selection out new : List ℕ) (r : Result ℕ Refusal) → BoundAnswers file selection out r → TotalsWrites file selection out new
      → Obeys (selection_causes file selection out)
      r (λ n. Err (refusal_of 0 n)) (Ok (bound_of (family_of file) selection))
      (new ∷ []) (out ∷ []) (at_start (totals_of (family_of file) selection) out ∷ [])
  pub bound_list : (file selections : List ℕ) (count tally : ℕ) (values new : List ℕ) (r : Listed) → ListAnswers file selections count tally values r → ListWrites file selections count tally values new
      → Obeys (list_causes file selections count tally (length values))
      r (λ n. record { charged = Err (refusal_of 0 n); tally = tally }) (record { charged = Ok (charge_of (region_count (family_of file)) count); tally = tally + charge_of (region_count (family_of file)) count })
      (new ∷ []) (values ∷ []) (at_start (list_bounds (family_of file) selections count) values ∷ [])
  pub choose : (m : ℕ) (ps folds : List Float) (rule : Rule) (out new : List ℕ) (r : Result (Unit {0}) Refusal) → ChooseAnswers m ps folds rule out r → ChooseWrites m ps folds rule out new
      → Obeys (choose_causes m ps folds rule (length out)) r (λ n. Err (refusal_of 0 n)) (Ok tt) (new ∷ []) (out ∷ []) (at_start (chosen rule ps folds) out ∷ [])
  pub curve : (file path values marks newValues newMarks : List ℕ) (r : Result (Unit {0}) Refusal) → CurveAnswers file path values marks r → CurveDeclines file path values marks r → CurveValuesWrites file path values marks newValues → CurveMarksWrites file path values marks newMarks
      → Obeys (curve_causes file path values marks)
      r (λ n. Err (refusal_of (first_repeat path) n)) (Ok tt)
      (newValues ∷ newMarks ∷ []) (values ∷ marks ∷ []) (at_start (curve_values (family_of file) path) values ∷ at_start (curve_marks (family_of file) path) marks ∷ [])
  pub cut : (file path : List ℕ) (a b : ℕ) (r : Result ℕ Refusal) → CutAnswers file path a b r
      → Obeys (cut_causes file path a b)
      r (λ n. Err (refusal_of (first_repeat path) n)) (Ok (cut_of (family_of file) path a b))
      [] [] []
  pub reduce : (file out new : List ℕ) (r : Result Size Refusal) → ReduceAnswers file out r → ReduceWrites file out new
      → Obeys (reduce_causes file out)
      r (λ n. Err (refusal_of 0 n)) (Ok (record { length = number_at (reduced_file file) 14; regions = number_at (reduced_file file) 8 }))
      (new ∷ []) (out ∷ []) (at_start (reduced_file file) out ∷ [])
  pub same : (first second : List ℕ) (r : Result Bool PairRefusal) → SameAnswers first second r
      → Obeys (compare_causes first second)
      r (λ n. Err (pair_refusal_of n)) (Ok (same_list (reduced_file first) (reduced_file second)))
      [] [] []
  pub bounds_from_p : (file ps : List ℕ) (deviationSquared : ℕ) (out new : List ℕ) (r : Result (Unit {0}) Refusal) → FromPAnswers file ps deviationSquared out r → FromPWrites file ps deviationSquared out new
      → Obeys (from_p_causes file ps deviationSquared (length out)) r (λ n. Err (refusal_of 0 n)) (Ok tt) (new ∷ []) (out ∷ []) (at_start (file_from_p file ps deviationSquared) out ∷ [])
  pub hybrid : (file path ps : List ℕ) (level : ℕ) (values new : List ℕ) (r : Result (Unit {0}) Refusal) → HybridAnswers file path ps level values r → HybridDeclines file path ps level values r → HybridWrites file path ps level values new
      → Obeys (hybrid_causes file path ps level (length values))
      r (λ n. Err (refusal_of (first_repeat path) n)) (Ok tt)
      (new ∷ []) (values ∷ []) (at_start (hybrid_values (family_of file) ps level path) values ∷ [])
  pub to_levels : (file out new : List ℕ) (r : Result ℕ Refusal) → ToLevelsAnswers file out r → ToLevelsWrites file out new
      → Obeys (to_levels_causes file (length out))
      r (λ n. Err (refusal_of 0 n)) (Ok (length (level_file_of (family_of file))))
      (new ∷ []) (out ∷ []) (at_start (level_file_of (family_of file)) out ∷ [])
  pub from_levels : (file out new : List ℕ) (r : Result ℕ Refusal) → FromLevelsAnswers file out r → FromLevelsWrites file out new
      → Obeys (from_levels_causes file (length out))
      r (λ n. Err (refusal_of 0 n)) (Ok (length (family_file_of file)))
      (new ∷ []) (out ∷ []) (at_start (family_file_of file) out ∷ [])
  -- The place that comes with 13 is the first one of the path whose peptide stands earlier too; no other number is.
  pub curve_place : (file path values marks : List ℕ) → first_cause (curve_causes file path values marks) ≡ 13 → IsFirstRepeat path (first_repeat path)
  pub cut_place : (file path : List ℕ) (a b : ℕ) → first_cause (cut_causes file path a b) ≡ 13 → IsFirstRepeat path (first_repeat path)
  pub hybrid_place : (file path ps : List ℕ) (level room : ℕ) → first_cause (hybrid_causes file path ps level room) ≡ 13 → IsFirstRepeat path (first_repeat path)
  pub only_place : (path : List ℕ) (p : ℕ) → IsFirstRepeat path p → p ≡ first_repeat path
  -- The part that holds the regions: of an accepted file the 6K bytes from byte 16 + 2N on; of a refused one nothing, at the file's start.
  pub regions_accepted : (place fileAt : ℕ × ℕ) (part file : List ℕ) → RegionsGiven place part fileAt file → Accepted file
      → (part ≡ drop (regions_offset (leaves (family_of file))) file) × (length part ≡ 6 * region_count (family_of file))
      × (place.0 ≡ fileAt.0) × (place.1 ≡ fileAt.1 + regions_offset (leaves (family_of file)))
  pub regions_refused : (place fileAt : ℕ × ℕ) (part file : List ℕ) → RegionsGiven place part fileAt file → (Accepted file → ⊥)
      → (part ≡ []) × (place.0 ≡ fileAt.0) × (place.1 ≡ fileAt.1)
  -- In C it is an offset and a length.
  pub phf_regions : (file : List ℕ) (r : PhfPart) → PhfRegionsAnswers file r
      → Obeys (file_causes file) r (λ n. record { offset = 0; length = 0 }) (record { offset = regions_offset (leaves (family_of file)); length = 6 * region_count (family_of file) }) [] [] []
  -- It is empty exactly when the file is refused or K is 0; in C it has the length 0 exactly then.
  pub regions_empty : (place fileAt : ℕ × ℕ) (part file : List ℕ) → RegionsGiven place part fileAt file → (part ≡ []) ↔ ((Accepted file → ⊥) ⊎ (region_count (family_of file) ≡ 0))
  pub phf_regions_empty : (file : List ℕ) (r : PhfPart) → PhfRegionsAnswers file r → (r.length ≡ 0) ↔ ((Accepted file → ⊥) ⊎ (region_count (family_of file) ≡ 0))

-- The place with 13.

only_first : (path : List ℕ) (p : ℕ) → IsFirstRepeat path p → p ≡ first_repeat path
only_first path p h = sym ((first_repeat_lem path p (λ z. omega (arith, h.from_two))).1 h)

-- The lent lists of `curve`.

module _ (file path values marks newValues newMarks : List ℕ) (v : CurveValuesWrites file path values marks newValues) (w : CurveMarksWrites file path values marks newMarks) where
  curve_lent : Lent (curve_causes file path values marks) (newValues ∷ newMarks ∷ []) (values ∷ marks ∷ []) (at_start (curve_values (family_of file) path) values ∷ at_start (curve_marks (family_of file) path) marks ∷ [])
  curve_lent = lent_too _ _ values newValues (newMarks ∷ []) (marks ∷ []) _ v (lent_one _ _ marks newMarks w)

-- `choose`, and its names in C.

choose_obeys : (m : ℕ) (ps folds : List Float) (rule : Rule) (out new : List ℕ) (r : ℕ) → PhfChooseAnswers m ps folds rule out r → ChooseWrites m ps folds rule out new
    → Obeys (choose_causes m ps folds rule (length out)) r (λ n. n) 0 (new ∷ []) (out ∷ []) (at_start (chosen rule ps folds) out ∷ [])
choose_obeys m ps folds rule out new r h w = number_obeys (choose_causes m ps folds rule (length out)) r _ _ _ h (lent_one _ _ out new w)

-- `bounds_from_p`, and its name in C.

from_p_obeys : (file ps : List ℕ) (deviationSquared : ℕ) (out new : List ℕ) (r : ℕ) → PhfFromPAnswers file ps deviationSquared out r → FromPWrites file ps deviationSquared out new
    → Obeys (from_p_causes file ps deviationSquared (length out)) r (λ n. n) 0 (new ∷ []) (out ∷ []) (at_start (file_from_p file ps deviationSquared) out ∷ [])
from_p_obeys file ps deviationSquared out new r h w = number_obeys (from_p_causes file ps deviationSquared (length out)) r _ _ _ h (lent_one _ _ out new w)

-- The part that holds the regions.

module _ (file : List ℕ) where
  exactly_then : {P : Type 0} → ((Accepted file → ⊥) → P) → (Accepted file → P ↔ (region_count (family_of file) ≡ 0))
      → P ↔ ((Accepted file → ⊥) ⊎ (region_count (family_of file) ≡ 0))
  exactly_then refused accepted =
      let known = none_or_some (file_causes file) in
      (λ p. ⊎_elim (λ a. inr ((accepted a).0 p)) inl known, λ z. ⊎_elim refused (λ k. ⊎_elim (λ a. (accepted a).1 k) refused known) z)

  part_empty : (region_part file ≡ []) ↔ ((Accepted file → ⊥) ⊎ (region_count (family_of file) ≡ 0))
  part_empty =
      let o : ℕ = regions_offset (leaves (family_of file)) in
      exactly_then
      (part_refused file)
      (λ a.
      let whole = whole_length file (accepted_header file a) in (
        λ e. omega (arith, length-drop o file, ap length (sym (part_accepted file a) ∙ e)),
        λ k. part_accepted file a ∙ drop_of_length-le file {i = o} (omega arith),
      ))

  length_empty : ((part_fields file).length ≡ 0) ↔ ((Accepted file → ⊥) ⊎ (region_count (family_of file) ≡ 0))
  length_empty =
      exactly_then
      (λ refused. ap (λ (p : PhfPart). p.length) (no_part_fields file refused))
      (λ a. let six = ap (λ (p : PhfPart). p.length) (part_fields_lem file a) in (λ e. omega arith, λ k. omega arith))

module _ (place fileAt : ℕ × ℕ) (part file : List ℕ) (h : RegionsGiven place part fileAt file) where
  part_of_accepted : Accepted file
      → (part ≡ drop (regions_offset (leaves (family_of file))) file) × (length part ≡ 6 * region_count (family_of file))
      × (place.0 ≡ fileAt.0) × (place.1 ≡ fileAt.1 + regions_offset (leaves (family_of file)))
  part_of_accepted a =
      let o : ℕ = regions_offset (leaves (family_of file)) in
      let e = h.bytes ∙ part_accepted file a in
      (e, omega (arith, ap length e, length-drop o file, whole_length file (accepted_header file a)), h.part.block, h.part.place ∙ ap (λ n. fileAt.1 + n) (start_accepted file a))

  part_of_refused : (Accepted file → ⊥) → (part ≡ []) × (place.0 ≡ fileAt.0) × (place.1 ≡ fileAt.1)
  part_of_refused r = (h.bytes ∙ part_refused file r, h.part.block, omega (arith, h.part.place, start_refused file r))

-- The calls that try no path have no cause with the number 13.

list_lacks : (file selections : List ℕ) (count tally room : ℕ) → Lacks 13 (list_causes file selections count tally room)
unfolding list_causes list_inputs
list_lacks file selections count tally room =
    lacks_joined 13 (file_causes file) _ (file_lacks file) (omega arith, (omega arith, (omega arith, (omega arith, tt))))

choose_lacks : (m : ℕ) (ps folds : List Float) (rule : Rule) (room : ℕ) → Lacks 13 (choose_causes m ps folds rule room)
unfolding choose_causes
choose_lacks m ps folds rule room = (omega arith, (omega arith, (omega arith, (omega arith, tt))))

from_p_lacks : (file ps : List ℕ) (deviationSquared room : ℕ) → Lacks 13 (from_p_causes file ps deviationSquared room)
unfolding from_p_causes from_p_inputs room_and_p_values
from_p_lacks file ps deviationSquared room =
    lacks_joined 13 (file_causes file) _ (file_lacks file) (omega arith, (omega arith, (omega arith, (omega arith, tt))))

-- m, N and K, made again of the values that a check reports
abbrev made_sizes : List ℕ → Sizes
made_sizes vs = record { peptides = get_or vs 0 0; leaves = get_or vs 1 0; regions = get_or vs 2 0 }

pub demand_one : DemandOne
unfolding header_causes family_causes file_causes parents_causes causes_with_room list_inputs list_causes path_causes input_causes curve_causes cut_causes reduce_causes compare_causes choose_causes room_and_p_values from_p_inputs from_p_causes hybrid_inputs hybrid_causes to_levels_causes from_levels_causes level_header_causes nesting_causes form_causes place_causes checked reduced_counts comparison
demand_one =
    record {
      first_cause_lem = first_is;
      no_cause = λ cs n. none_is cs (numbered_if cs n);
      refusals_numbered = λ place. refl;
      check_tries = λ file. refl;
      parents_tries = λ file out. refl;
      bound_tries = λ file selection out. refl;
      bound_list_tries = λ file selections count tally room. refl;
      choose_tries = λ m ps folds rule room. refl;
      curve_tries = λ file path values marks. refl;
      cut_tries = λ file path a b. refl;
      reduce_tries = λ file out. refl;
      same_tries = λ first second. refl;
      bounds_from_p_tries = λ file ps deviationSquared room. refl;
      hybrid_tries = λ file path ps level room. refl;
      to_levels_tries = λ file room. refl;
      from_levels_tries = λ file room. refl;
      phf_check = λ file r h. made_obeys (file_causes file) _ checked_fields r [] [] [] h (nothing_lent (file_causes file));
      phf_bound = λ file selection taken new r h w. made_obeys (selection_causes file selection taken) _ bounded_fields r (new ∷ []) _ _ h (lent_one _ _ _ _ w);
      phf_bounds_list = λ file selections count tally values new r h w. charged_obeys (list_causes file selections count tally (length values)) _ tally listed_fields r (new ∷ []) _ _ h (lent_one _ _ _ _ w);
      phf_choose_at_most = λ m ps folds cut. choose_obeys m ps folds (AtMost cut);
      phf_choose_between = λ m ps folds low high. choose_obeys m ps folds (Between low high);
      phf_choose_volcano = λ m ps folds cut fold. choose_obeys m ps folds (Volcano cut fold);
      phf_curve = λ file path values marks newValues newMarks r h v w. path_obeys _ path [] curved_fields _ (λ n some. curve_refusal_fields path n) r _ _ _ h (curve_lent file path values marks newValues newMarks v w);
      phf_cut = λ file path a b r h. path_obeys _ path _ cutting_fields _ (cut_refusal_fields path) r [] [] [] h (nothing_lent _);
      phf_reduce = λ file out new r h w. made_obeys (reduce_causes file out) _ reduced_fields r (new ∷ []) _ _ h (lent_one _ _ _ _ w);
      phf_same = λ first second r h. made_obeys (compare_causes first second) _ compared_fields r [] [] [] h (nothing_lent _);
      phf_bounds_from_p = from_p_obeys;
      phf_hybrid = λ file path ps level values new r h w. path_obeys _ path [] curved_fields _ (λ n some. curve_refusal_fields path n) r _ _ _ h (lent_one _ _ values new w);
      phf_to_levels = λ file out new r h w. made_obeys (to_levels_causes file (length out)) _ converted_fields r (new ∷ []) _ _ h (lent_one _ _ _ _ w);
      phf_from_levels = λ file out new r h w. made_obeys (from_levels_causes file (length out)) _ converted_fields r (new ∷ []) _ _ h (lent_one _ _ _ _ w);
      check = λ file r h. result_obeys sizes made_sizes (λ x. refl) (file_causes file) (counts (family_of file)) r [] [] [] h (nothing_lent (file_causes file));
      parents = λ file out new r h w. result_obeys sizes made_sizes (λ x. refl) (parents_causes file out) (counts (family_of file)) r (new ∷ []) _ _ h (lent_one _ _ _ _ w);
      bound = λ file selection taken new r h w. result_obeys the_number (λ vs. get_or vs 0 0) (λ x. refl) (selection_causes file selection taken) (the_number (bound_of (family_of file) selection)) r (new ∷ []) _ _ h (lent_one _ _ _ _ w);
      inside_totals = λ file selection out new r h w. result_obeys the_number (λ vs. get_or vs 0 0) (λ x. refl) (selection_causes file selection out) (the_number (bound_of (family_of file) selection)) r (new ∷ []) _ _ h (lent_one _ _ _ _ w);
      bound_list = λ file selections count tally values new r h w. list_obeys (list_causes file selections count tally (length values)) _ tally (list_lacks file selections count tally (length values)) r (new ∷ []) _ _ h (lent_one _ _ _ _ w);
      choose = λ m ps folds rule out new r h w. verdict_obeys (choose_causes m ps folds rule (length out)) (choose_lacks m ps folds rule (length out)) r (new ∷ []) _ _ h (lent_one _ _ _ _ w);
      curve = λ file path values marks newValues newMarks r h d v w. path_result_obeys no_values (λ vs. tt) (λ x. refl) _ path [] r _ _ _ h (curve_lent file path values marks newValues newMarks v w);
      cut = λ file path a b r h. path_result_obeys the_number (λ vs. get_or vs 0 0) (λ x. refl) _ path (the_number (cut_of (family_of file) path a b)) r [] [] [] h (nothing_lent _);
      reduce = λ file out new r h w. result_obeys size_values (λ vs. record { length = get_or vs 0 0; regions = get_or vs 1 0 }) (λ x. refl) (reduce_causes file out) (reduced_counts file) r (new ∷ []) _ _ h (lent_one _ _ _ _ w);
      same = λ first second r h. pair_obeys (compare_causes first second) (same_list (reduced_file first) (reduced_file second)) r [] [] [] h (nothing_lent _);
      bounds_from_p = λ file ps deviationSquared out new r h w. verdict_obeys (from_p_causes file ps deviationSquared (length out)) (from_p_lacks file ps deviationSquared (length out)) r (new ∷ []) _ _ h (lent_one _ _ _ _ w);
      hybrid = λ file path ps level values new r h d w. path_result_obeys no_values (λ vs. tt) (λ x. refl) _ path [] r _ _ _ h (lent_one _ _ values new w);
      to_levels = λ file out new r h w. result_obeys the_number (λ vs. get_or vs 0 0) (λ x. refl) (to_levels_causes file (length out)) (the_number (length (level_file_of (family_of file)))) r (new ∷ []) _ _ h (lent_one _ _ _ _ w);
      from_levels = λ file out new r h w. result_obeys the_number (λ vs. get_or vs 0 0) (λ x. refl) (from_levels_causes file (length out)) (the_number (length (family_file_of file))) r (new ∷ []) _ _ h (lent_one _ _ _ _ w);
      curve_place = λ file path values marks. place_with_13 file path _ (omega arith);
      cut_place = λ file path a b. place_with_13 file path _ (omega arith);
      hybrid_place = λ file path ps level room. place_with_13 file path _ (omega arith);
      only_place = only_first;
      regions_accepted = part_of_accepted;
      regions_refused = part_of_refused;
      phf_regions = λ file r h. record { declined = λ some. (h ∙ no_part_fields file some, refl); done = λ none. (h ∙ part_fields_lem file none, refl) };
      regions_empty = λ place fileAt part file h. rw h.bytes (part_empty file);
      phf_regions_empty = λ file r h. rw h (length_empty file);
    }
