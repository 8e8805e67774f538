-- Worked examples of rows, rules and causes at their edges, computed. A number that has no short name is given by its bit pattern.
use Prim.Native.Nat.{ℕ}
use mathlib.Core.Bool.{true, false}
use mathlib.Core.List.{List, [], ◌∷◌}
use mathlib.Core.Path.{◌≡◌, refl}
use lib.Ieee.{Float, nan, inf, binary64, of_bits, of_fields, odd, lt, le, eq, neg, is_nan}
use Rattle.reader.specs.Lists.{tabulate, some_below}
use Rattle.reader.specs.Causes.{first_cause, cause2}
use Rattle.reader.specs.Calls.{short, written}
use Rattle.volcano.specs.Rules.{zero, one, passes, row_at, chosen, off_scale, not_finite, cause17, cause18, cause19}
use Rattle.volcano.specs.Calls.{choose_causes}
use Rattle.volcano.specs.declared.Row.{Row}
use Rattle.volcano.specs.declared.Rule.{Rule}
use Rattle.volcano.specs.declared.Rule.TheVariants.{AtMost, Between, Volcano}

abbrev bits : ℕ → Float
bits b = of_bits binary64 b

-- 0.5, and its neighbours
abbrev pub half : Float
half = bits 0x3fe0_0000_0000_0000

abbrev pub next_before_half : Float
next_before_half = bits 0x3fdf_ffff_ffff_ffff

abbrev pub next_after_half : Float
next_after_half = bits 0x3fe0_0000_0000_0001

-- the neighbours of 0.0 and the larger one of 1.0
abbrev pub next_after_zero : Float
next_after_zero = bits 1

abbrev pub next_before_zero : Float
next_before_zero = bits 0x8000_0000_0000_0001

abbrev pub next_after_one : Float
next_after_one = bits 0x3ff0_0000_0000_0001

abbrev pub minus_zero : Float
minus_zero = bits 0x8000_0000_0000_0000

abbrev row : Float → Float → Row
row p fold = record { p = p; fold = fold }

pub record RuleExamples : Type 0 where
  -- both ends of each rule pass, and the numbers next to them do not
  pub at_cut : passes (AtMost half) (row half zero) ≡ true
  pub over_cut : passes (AtMost half) (row next_after_half zero) ≡ false
  pub at_low : passes (Between half one) (row half zero) ≡ true
  pub under_low : passes (Between half one) (row next_before_half zero) ≡ false
  pub at_high : passes (Between zero half) (row half zero) ≡ true
  pub over_high : passes (Between zero half) (row next_after_half zero) ≡ false
  pub upside_down : passes (Between next_after_half half) (row half zero) ≡ false
  pub at_f : passes (Volcano one half) (row one half) ≡ true
  pub under_f : passes (Volcano one half) (row one next_before_half) ≡ false
  pub at_minus_f : passes (Volcano one half) (row one (neg half)) ≡ true
  pub over_minus_f : passes (Volcano one half) (row one (neg next_before_half)) ≡ false
  pub far_from_cut : passes (Volcano next_before_half half) (row half one) ≡ false
  -- the zeros are equal
  pub zero_at_minus_zero : passes (AtMost minus_zero) (row zero zero) ≡ true
  pub over_minus_zero : passes (AtMost minus_zero) (row next_after_zero zero) ≡ false
  -- infinite cuts and an infinite f
  pub all_below : passes (AtMost (inf false)) (row one zero) ≡ true
  pub none_below : passes (AtMost (inf true)) (row zero zero) ≡ false
  pub none_outside : passes (Volcano one (inf false)) (row zero (bits 0x7fef_ffff_ffff_ffff)) ≡ false
  -- p-values
  pub p_zero : off_scale zero ≡ false
  pub p_minus_zero : off_scale minus_zero ≡ false
  pub p_under_zero : off_scale next_before_zero ≡ true
  pub p_one : off_scale one ≡ false
  pub p_over_one : off_scale next_after_one ≡ true
  pub p_not_a_number : off_scale (bits 0x7ff8_0000_0000_0001) ≡ true
  pub p_infinite : off_scale (inf false) ≡ true
  -- folds
  pub fold_largest : not_finite (bits 0x7fef_ffff_ffff_ffff) ≡ false
  pub fold_infinite : not_finite (inf false) ≡ true
  pub fold_not_a_number : not_finite nan ≡ true
  -- rules
  pub f_minus_zero : cause19 (Volcano half minus_zero) ≡ false
  pub f_under_zero : cause19 (Volcano half next_before_zero) ≡ true
  pub f_minus_infinite : cause19 (Volcano half (inf true)) ≡ true
  pub f_infinite : cause19 (Volcano half (inf false)) ≡ false
  pub f_not_a_number : cause19 (Volcano half nan) ≡ true
  pub cut_not_a_number : cause19 (Volcano nan half) ≡ true
  pub cuts_infinite : cause19 (Between (inf false) (inf true)) ≡ false
  pub cuts_under_zero : cause19 (Between next_before_zero next_before_zero) ≡ false
  pub low_not_a_number : cause19 (Between nan half) ≡ true
  pub high_not_a_number : cause19 (Between half nan) ≡ true

abbrev told : ℕ → List Float → List Float → Rule → ℕ → ℕ
told m ps folds rule room = first_cause (choose_causes m ps folds rule room)

pub record ChooseExamples : Type 0 where
  -- with each number all causes after it hold too
  pub number_2 : told 0 (nan ∷ []) [] (AtMost nan) 0 ≡ 2
  pub number_17 : told 2 (nan ∷ []) (zero ∷ zero ∷ []) (AtMost nan) 2 ≡ 17
  pub folds_17 : told 2 (zero ∷ nan ∷ []) (zero ∷ zero ∷ zero ∷ []) (AtMost nan) 2 ≡ 17
  pub output_17 : told 2 (zero ∷ nan ∷ []) (zero ∷ zero ∷ []) (AtMost nan) 1 ≡ 17
  pub number_18 : told 2 (zero ∷ next_after_one ∷ []) (zero ∷ zero ∷ []) (AtMost nan) 2 ≡ 18
  pub folds_18 : told 2 (zero ∷ one ∷ []) (zero ∷ inf true ∷ []) (AtMost nan) 2 ≡ 18
  pub number_19 : told 2 (zero ∷ one ∷ []) (zero ∷ zero ∷ []) (AtMost nan) 2 ≡ 19
  -- the largest m is not refused by 2
  pub most_4096 : told 4096 [] [] (AtMost nan) 0 ≡ 17
  pub over_4096 : told 4097 [] [] (AtMost nan) 0 ≡ 2
  pub none : told 3 (half ∷ one ∷ next_after_half ∷ []) (zero ∷ zero ∷ zero ∷ []) (AtMost half) 4 ≡ 0
  pub selection : chosen (AtMost half) (half ∷ one ∷ zero ∷ []) (zero ∷ zero ∷ zero ∷ []) ≡ 1 ∷ 0 ∷ 1 ∷ []
  -- the rest of a longer output, and the output of a declined call, stay
  pub longer : written (choose_causes 1 (half ∷ []) (zero ∷ []) (AtMost half) 2) (chosen (AtMost half) (half ∷ []) (zero ∷ [])) (7 ∷ 8 ∷ []) ≡ 1 ∷ 8 ∷ []
  pub declined : written (choose_causes 1 (half ∷ []) (zero ∷ []) (AtMost nan) 2) (chosen (AtMost nan) (half ∷ []) (zero ∷ [])) (7 ∷ 8 ∷ []) ≡ 7 ∷ 8 ∷ []
  -- the fold is at f, at -f, between the two, and at f where p is over the cut
  pub volcano : chosen (Volcano half one) (zero ∷ half ∷ zero ∷ one ∷ []) (one ∷ neg one ∷ half ∷ one ∷ []) ≡ 1 ∷ 1 ∷ 0 ∷ 0 ∷ []

pub rule_examples : RuleExamples
unfolding passes off_scale not_finite cause19 of_bits of_fields odd lt le eq neg is_nan
rule_examples =
    record {
      at_cut = refl;
      over_cut = refl;
      at_low = refl;
      under_low = refl;
      at_high = refl;
      over_high = refl;
      upside_down = refl;
      at_f = refl;
      under_f = refl;
      at_minus_f = refl;
      over_minus_f = refl;
      far_from_cut = refl;
      zero_at_minus_zero = refl;
      over_minus_zero = refl;
      all_below = refl;
      none_below = refl;
      none_outside = refl;
      p_zero = refl;
      p_minus_zero = refl;
      p_under_zero = refl;
      p_one = refl;
      p_over_one = refl;
      p_not_a_number = refl;
      p_infinite = refl;
      fold_largest = refl;
      fold_infinite = refl;
      fold_not_a_number = refl;
      f_minus_zero = refl;
      f_under_zero = refl;
      f_minus_infinite = refl;
      f_infinite = refl;
      f_not_a_number = refl;
      cut_not_a_number = refl;
      cuts_infinite = refl;
      cuts_under_zero = refl;
      low_not_a_number = refl;
      high_not_a_number = refl;
    }

pub choose_examples : ChooseExamples
unfolding written first_cause choose_causes chosen tabulate some_below row_at passes off_scale not_finite short cause2 cause17 cause18 cause19 of_bits of_fields odd lt le eq neg is_nan
choose_examples =
    record {
      number_2 = refl;
      number_17 = refl;
      folds_17 = refl;
      output_17 = refl;
      number_18 = refl;
      folds_18 = refl;
      number_19 = refl;
      most_4096 = refl;
      over_4096 = refl;
      none = refl;
      selection = refl;
      longer = refl;
      declined = refl;
      volcano = refl;
    }
