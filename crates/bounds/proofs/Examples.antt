-- Worked examples of paths of eight peptides that are refused, computed: the number, and the place with 13.
use Prim.Native.Nat.{ℕ}
use mathlib.Core.List.{List, [], ◌∷◌}
use mathlib.Core.Path.{◌≡◌, refl}
use Rattle.reader.specs.Lists.{some_below, first_below}
use Rattle.reader.specs.Causes.{first_cause}
use Rattle.reader.specs.Calls.{Report}
use Rattle.bounds.specs.Curves.{cause11, cause12, repeated, cause13, first_repeat}
use Rattle.bounds.specs.Calls.{path_causes, path_refusal, path_answer}

-- what a call that gives no values answers, of eight peptides
abbrev pub told : List ℕ → Report
told path = path_answer (path_causes 8 path) path []

abbrev pub repeat_at : ℕ → Report
repeat_at place = record { number = 13; values = place ∷ [] }

pub record RepeatExamples : Type 0 where
  -- 3 stands again at place 4, 7 at 5, 1 at 6
  pub several : told (7 ∷ 3 ∷ 1 ∷ 3 ∷ 7 ∷ 1 ∷ []) ≡ repeat_at 4
  -- 1 stands first and last, and 2 twice between
  pub enclosed : told (1 ∷ 2 ∷ 2 ∷ 1 ∷ []) ≡ repeat_at 3
  -- 5 stands three times
  pub triple : told (5 ∷ 2 ∷ 5 ∷ 5 ∷ []) ≡ repeat_at 3
  pub neighbours : told (8 ∷ 8 ∷ []) ≡ repeat_at 2
  pub last_place : told (7 ∷ 3 ∷ 1 ∷ 4 ∷ 6 ∷ 2 ∷ 5 ∷ 7 ∷ []) ≡ repeat_at 8
  -- a number out of range comes first, before or after a repeat, and without a place
  pub out_of_range : told (1 ∷ 1 ∷ 9 ∷ []) ≡ record { number = 12; values = [] }
  pub zero_first : told (0 ∷ 0 ∷ []) ≡ record { number = 12; values = [] }
  pub too_long : told (1 ∷ 1 ∷ 1 ∷ 1 ∷ 1 ∷ 1 ∷ 1 ∷ 1 ∷ 1 ∷ []) ≡ record { number = 11; values = [] }
  pub different : told (7 ∷ 3 ∷ 1 ∷ 4 ∷ 6 ∷ 2 ∷ 5 ∷ 8 ∷ []) ≡ record { number = 0; values = [] }

pub repeat_examples : RepeatExamples
unfolding path_answer path_refusal path_causes first_cause cause11 cause12 cause13 repeated first_repeat some_below first_below
repeat_examples =
    record {
      several = refl;
      enclosed = refl;
      triple = refl;
      neighbours = refl;
      last_place = refl;
      out_of_range = refl;
      zero_first = refl;
      too_long = refl;
      different = refl;
    }
