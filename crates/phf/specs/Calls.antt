-- What the calls of the C interface promise, defined from their inputs. What they leave in lent lists is promised in the words of
-- the libraries (`TakenWrites`, `ListWrites`, `ChooseWrites`, `CurveValuesWrites`, `CurveMarksWrites`, `ReduceWrites`, `FromPWrites`,
-- `HybridWrites`, `ToLevelsWrites`, `FromLevelsWrites`). The theorem of demand 1 (`DemandOne`) rests on these promises.
use Rattle.std.specs.Prelude.{ℕ, List, [], ◌∷◌, ◌≡◌, length, take, drop, Float}
use Rattle.reader.specs.Causes.{first_cause}
use Rattle.reader.specs.Family.{family_of, region_count}
use Rattle.reader.specs.Calls.{answer, checked, region_part}
use Rattle.bounds.specs.Selections.{bound_of}
use Rattle.bounds.specs.Tally.{charge_of}
use Rattle.bounds.specs.Curves.{cut_of}
use Rattle.bounds.specs.Calls.{selection_causes, list_causes, listed, curve_causes, cut_causes, path_answer}
use Rattle.reduction.specs.Calls.{reduce_causes, reduced_counts, compare_causes, comparison}
use Rattle.volcano.specs.declared.Rule.{Rule}
use Rattle.volcano.specs.Calls.{choose_causes}
use Rattle.pvalues.specs.Calls.{from_p_causes}
use Rattle.hybrid.specs.Calls.{hybrid_causes}
use Rattle.levels.specs.Levels.{level_file_of, family_file_of}
use Rattle.levels.specs.Calls.{to_levels_causes, from_levels_causes}
use Rattle.phf.specs.Fields.{checked_fields, part_fields, bounded_fields, listed_fields, curved_fields, cutting_fields, reduced_fields, compared_fields, converted_fields}
use Rattle.phf.specs.declared.PhfChecked.{PhfChecked}
use Rattle.phf.specs.declared.PhfPart.{PhfPart}
use Rattle.phf.specs.declared.PhfBounded.{PhfBounded}
use Rattle.phf.specs.declared.PhfListed.{PhfListed}
use Rattle.phf.specs.declared.PhfCurved.{PhfCurved}
use Rattle.phf.specs.declared.PhfCutting.{PhfCutting}
use Rattle.phf.specs.declared.PhfReduced.{PhfReduced}
use Rattle.phf.specs.declared.PhfCompared.{PhfCompared}
use Rattle.phf.specs.declared.PhfConverted.{PhfConverted}

-- the answer r of each call

abbrev pub PhfCheckAnswers : List ℕ → PhfChecked → Type 0
PhfCheckAnswers file r = r ≡ checked_fields (checked file)

abbrev pub PhfRegionsAnswers : List ℕ → PhfPart → Type 0
PhfRegionsAnswers file r = r ≡ part_fields file

-- the bytes at the place that `phf_regions` answers are the part that holds the regions
abbrev pub PhfRegionsPlaced : List ℕ → PhfPart → Type 0
PhfRegionsPlaced file r = take r.length (drop r.offset file) ≡ region_part file

abbrev pub PhfBoundAnswers : List ℕ → List ℕ → List ℕ → PhfBounded → Type 0
PhfBoundAnswers file selection taken r = r ≡ bounded_fields (answer (selection_causes file selection taken) (bound_of (family_of file) selection ∷ []))

abbrev pub PhfListAnswers : List ℕ → List ℕ → ℕ → ℕ → List ℕ → PhfListed → Type 0
PhfListAnswers file selections count tally values r =
    r ≡ listed_fields (listed (list_causes file selections count tally (length values)) (charge_of (region_count (family_of file)) count) tally)

abbrev pub PhfCurveAnswers : List ℕ → List ℕ → List ℕ → List ℕ → PhfCurved → Type 0
PhfCurveAnswers file path values marks r = r ≡ curved_fields (path_answer (curve_causes file path values marks) path [])

abbrev pub PhfCutAnswers : List ℕ → List ℕ → ℕ → ℕ → PhfCutting → Type 0
PhfCutAnswers file path a b r = r ≡ cutting_fields (path_answer (cut_causes file path a b) path (cut_of (family_of file) path a b ∷ []))

abbrev pub PhfReduceAnswers : List ℕ → List ℕ → PhfReduced → Type 0
PhfReduceAnswers file out r = r ≡ reduced_fields (answer (reduce_causes file out) (reduced_counts file))

abbrev pub PhfSameAnswers : List ℕ → List ℕ → PhfCompared → Type 0
PhfSameAnswers first second r = r ≡ compared_fields (answer (compare_causes first second) (comparison first second))

abbrev pub PhfHybridAnswers : List ℕ → List ℕ → List ℕ → ℕ → List ℕ → PhfCurved → Type 0
PhfHybridAnswers file path ps level values r = r ≡ curved_fields (path_answer (hybrid_causes file path ps level (length values)) path [])

abbrev pub PhfToLevelsAnswers : List ℕ → List ℕ → PhfConverted → Type 0
PhfToLevelsAnswers file out r = r ≡ converted_fields (answer (to_levels_causes file (length out)) (length (level_file_of (family_of file)) ∷ []))

abbrev pub PhfFromLevelsAnswers : List ℕ → List ℕ → PhfConverted → Type 0
PhfFromLevelsAnswers file out r = r ≡ converted_fields (answer (from_levels_causes file (length out)) (length (family_file_of file) ∷ []))

-- of a choice and of bounds from p-values the answer is the number alone
abbrev pub PhfChooseAnswers : ℕ → List Float → List Float → Rule → List ℕ → ℕ → Type 0
PhfChooseAnswers m ps folds rule out r = r ≡ first_cause (choose_causes m ps folds rule (length out))

abbrev pub PhfFromPAnswers : List ℕ → List ℕ → ℕ → List ℕ → ℕ → Type 0
PhfFromPAnswers file ps deviationSquared out r = r ≡ first_cause (from_p_causes file ps deviationSquared (length out))
