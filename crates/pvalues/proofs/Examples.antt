-- Worked examples of the z from p-values, of the file that is written, and of the causes at their edges, computed.
use Prim.Native.Nat.{ℕ}
use mathlib.Core.Bool.{true, false}
use mathlib.Core.List.{List, [], ◌∷◌, ◌++◌, map}
use mathlib.Core.Path.{◌≡◌, refl}
use lib.ListN.{take}
use Rattle.reader.specs.Lists.{tabulate, sum, same_list, some_below, count_below}
use Rattle.reader.specs.Bytes.{number_at, bytes_of}
use Rattle.reader.specs.Family.{Family, region, peptides_up_to, length_at, region_at, family_of, region_fields, fields, mark, file_of}
use Rattle.reader.specs.Nesting.{before, share_leaf, region_within, crossing, region_inside}
use Rattle.reader.specs.Causes.{cause1, cause2, cause3, cause4, cause5, cause6, cause7, cause8, cause9, cause10, misplaced, first_cause, header_causes, family_causes, file_causes}
use Rattle.reader.specs.Calls.{short}
use Rattle.reader.proofs.Examples.{eight, eight_file}
use Rattle.bounds.specs.Ranges.{range_of, those}
use Rattle.bounds.specs.Curves.{largest_up_to}
use Rattle.pvalues.specs.FromP.{gap, over, no_excess, excess, passes, passes_at, thresholds, every, z_of, region_p_values, bounded_region, family_from_p, cause20, cause21, cause22}
use Rattle.pvalues.specs.Calls.{room_and_p_values, from_p_inputs, from_p_causes, file_from_p}

-- the p-values of the peptides of the eight-peptide family
abbrev pub eight_values : List ℕ
eight_values = 1000 ∷ 500000 ∷ 20 ∷ 300 ∷ 900000 ∷ 40000 ∷ 10 ∷ 5 ∷ []

-- two leaves, of which the first has no peptide, each with a region
abbrev pub unmeasured : Family
unmeasured =
    record {
      peptides = 1;
      lengths = 0 ∷ 1 ∷ [];
      regions = record { first = 1; last = 1; z = 7 } ∷ record { first = 2; last = 2; z = 7 } ∷ [];
    }

-- the z of each region
abbrev pub zs : Family → List ℕ → ℕ → List ℕ
zs F ps deviationSquared = map (λ r. r.z) (family_from_p F ps deviationSquared).regions

-- the number that is told of the eight-peptide family's file and an output of so many bytes
abbrev pub told : List ℕ → ℕ → ℕ → ℕ
told ps deviationSquared room = first_cause (from_p_causes eight_file ps deviationSquared room)

pub record FromPExamples : Type 0 where
  pub constant_0 : zs eight eight_values 0 ≡ 0 ∷ 0 ∷ 0 ∷ 0 ∷ 0 ∷ []
  pub constant_100000 : zs eight eight_values 100000 ≡ 2 ∷ 0 ∷ 1 ∷ 0 ∷ 0 ∷ []
  pub constant_250000 : zs eight eight_values 250000 ≡ 2 ∷ 1 ∷ 1 ∷ 0 ∷ 0 ∷ []
  pub constant_1497866 : zs eight eight_values 1497866 ≡ 4 ∷ 2 ∷ 3 ∷ 1 ∷ 1 ∷ []
  -- the constant of the risk level 0.05, rounded up
  pub constant_1497867 : zs eight eight_values 1497867 ≡ 4 ∷ 2 ∷ 3 ∷ 1 ∷ 1 ∷ []
  pub file : file_from_p eight_file eight_values 1497866 ≡
      take 24 eight_file
      ++ (1 ∷ 0 ∷ 2 ∷ 0 ∷ 4 ∷ 0 ∷ 1 ∷ 0 ∷ 1 ∷ 0 ∷ 2 ∷ 0 ∷ 2 ∷ 0 ∷ 2 ∷ 0 ∷ 3 ∷ 0 ∷ 3 ∷ 0 ∷ 4 ∷ 0 ∷ 1 ∷ 0 ∷ 4 ∷ 0 ∷ 4 ∷ 0 ∷ 1 ∷ 0 ∷ [])
  pub no_peptides : zs unmeasured (1000000 ∷ []) 100000000 ≡ 0 ∷ 1 ∷ []
  pub all_largest : z_of 0 (1000000 ∷ 1000000 ∷ 1000000 ∷ []) ≡ 3
  pub all_zero : z_of 0 (0 ∷ 0 ∷ 0 ∷ []) ≡ 0
  -- a p-value that is equal to the threshold is not over it
  pub equal_not_over : over 300 (299 ∷ 300 ∷ 301 ∷ []) ≡ 1
  -- the excess is -1,000,000
  pub negative_passes : passes 0 1000000 2 1 ≡ true
  -- 1,000,000 times 1,000,000 on both sides; with a constant one smaller the square is larger
  pub equal_passes : (passes 1000000 1000000 0 1 ≡ true) × (z_of 1000000 (0 ∷ []) ≡ 1)
  pub larger_fails : (passes 999999 1000000 0 1 ≡ false) × (z_of 999999 (0 ∷ []) ≡ 0)
  -- the edges of the causes
  pub eight_of_eight : cause20 8 eight_values ≡ false
  pub seven_of_eight : cause20 8 (500000 ∷ 20 ∷ 300 ∷ 900000 ∷ 40000 ∷ 10 ∷ 5 ∷ []) ≡ true
  pub nine_of_eight : cause20 8 (0 ∷ eight_values) ≡ true
  pub p_largest : cause21 (0 ∷ 1000000 ∷ []) ≡ false
  pub p_over : cause21 (0 ∷ 1000001 ∷ []) ≡ true
  pub constant_largest : cause22 100000000 ≡ false
  pub constant_over : cause22 100000001 ≡ true
  -- with each number all causes after it hold too
  pub number_16 : told (1000001 ∷ []) 100000001 53 ≡ 16
  pub number_20 : told (1000001 ∷ []) 100000001 54 ≡ 20
  pub number_21 : told (1000 ∷ 500000 ∷ 20 ∷ 300 ∷ 1000001 ∷ 40000 ∷ 10 ∷ 5 ∷ []) 100000001 54 ≡ 21
  pub number_22 : told eight_values 100000001 54 ≡ 22
  pub none : told eight_values 100000000 54 ≡ 0

pub from_p_examples : FromPExamples
unfolding tabulate sum same_list some_below count_below number_at bytes_of region peptides_up_to length_at region_at family_of region_fields fields mark file_of before share_leaf region_within crossing region_inside cause1 cause2 cause3 cause4 cause5 cause6 cause7 cause8 cause9 cause10 misplaced first_cause header_causes family_causes file_causes short range_of those largest_up_to gap over no_excess excess passes passes_at thresholds every z_of region_p_values bounded_region family_from_p cause20 cause21 cause22 room_and_p_values from_p_inputs from_p_causes file_from_p
from_p_examples =
    record {
      constant_0 = refl;
      constant_100000 = refl;
      constant_250000 = refl;
      constant_1497866 = refl;
      constant_1497867 = refl;
      file = refl;
      no_peptides = refl;
      all_largest = refl;
      all_zero = refl;
      equal_not_over = refl;
      negative_passes = refl;
      equal_passes = (refl, refl);
      larger_fails = (refl, refl);
      eight_of_eight = refl;
      seven_of_eight = refl;
      nine_of_eight = refl;
      p_largest = refl;
      p_over = refl;
      constant_largest = refl;
      constant_over = refl;
      number_16 = refl;
      number_20 = refl;
      number_21 = refl;
      number_22 = refl;
      none = refl;
    }
