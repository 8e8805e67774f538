-- Worked examples of the hybrid curve, of the Simes bound at its edges, and of the causes of the call, computed.
use Prim.Native.Nat.{ℕ}
use mathlib.Core.Bool.{true, false}
use mathlib.Core.List.{List, [], ◌∷◌}
use mathlib.Core.Path.{◌≡◌, refl}
use lib.ListN.{take}
use Rattle.reader.specs.Lists.{tabulate, sum, same_list, some_below, count_below}
use Rattle.reader.specs.Bytes.{number_at, bytes_of}
use Rattle.reader.specs.Family.{Family, region, peptides_up_to, length_at, region_at, family_of, region_fields, fields, mark, file_of}
use Rattle.reader.specs.Nesting.{before, share_leaf, region_within, crossing, region_inside}
use Rattle.reader.specs.Causes.{cause1, cause2, cause3, cause4, cause5, cause6, cause7, cause8, cause9, cause10, misplaced, first_cause, header_causes, family_causes, file_causes, Accepted}
use Rattle.reader.specs.Calls.{short}
use Rattle.reader.proofs.Examples.{eight_file}
use Rattle.bounds.specs.Ranges.{range_of, ranges_of, has, card, count, some, those, sum_over, within, inside, just_inside, parts, outermost, outside}
use Rattle.bounds.specs.Bound.{total_within, total, value, bound}
use Rattle.bounds.specs.Curves.{among, entry, curve_values, cause11, cause12, repeated, cause13}
use Rattle.bounds.specs.Calls.{path_causes, input_causes}
use Rattle.pvalues.specs.FromP.{cause20, cause21}
use Rattle.pvalues.specs.Calls.{room_and_p_values}
use Rattle.pvalues.proofs.Examples.{eight_values}
use Rattle.hybrid.specs.Hybrid.{p_value_of, counted_at, simes_at, least_up_to, simes, hybrid_entry, hybrid_values, cause23}
use Rattle.hybrid.specs.Calls.{hybrid_inputs, hybrid_causes}

-- the eight-peptide family, and its path
abbrev pub eight_family : Family
eight_family = family_of eight_file

abbrev pub eight_path : List ℕ
eight_path = 7 ∷ 3 ∷ 1 ∷ 4 ∷ 6 ∷ 2 ∷ 5 ∷ 8 ∷ []

-- other p-values for it, with that of peptide 6 to be given
abbrev pub mixed_with : ℕ → List ℕ
mixed_with p = 8000 ∷ 13000 ∷ 7000 ∷ 10 ∷ 600000 ∷ p ∷ 900000 ∷ 5 ∷ []

-- eight peptides without a region
abbrev pub free : Family
free = record { peptides = 8; lengths = 8 ∷ []; regions = [] }

-- the Simes bounds of the first 0 to 8 peptides
abbrev pub simes_values : List ℕ → ℕ → List ℕ
simes_values ps level = tabulate 9 (λ t. simes 8 ps level (among (take t eight_path)))

-- the number that is told of the eight-peptide family's file, a path and a list with so many places
abbrev pub told : List ℕ → List ℕ → ℕ → ℕ → ℕ
told path ps level room = first_cause (hybrid_causes eight_file path ps level room)

pub record HybridExamples : Type 0 where
  -- the region bounds by themselves
  pub region_values : curve_values eight_family eight_path ≡ 0 ∷ 0 ∷ 1 ∷ 2 ∷ 2 ∷ 3 ∷ 4 ∷ 4 ∷ 4 ∷ []
  -- With the p-values of the examples of `pvalues` the Simes bound is nowhere the larger one.
  pub simes_50000 : simes_values eight_values 50000 ≡ 0 ∷ 0 ∷ 0 ∷ 0 ∷ 0 ∷ 1 ∷ 2 ∷ 3 ∷ 3 ∷ []
  pub hybrid_50000 : hybrid_values eight_family eight_values 50000 eight_path ≡ 0 ∷ 0 ∷ 0 ∷ 0 ∷ 0 ∷ 1 ∷ 2 ∷ 3 ∷ 3 ∷ []
  pub simes_1000000 : simes_values eight_values 1000000 ≡ 0 ∷ 0 ∷ 0 ∷ 0 ∷ 0 ∷ 0 ∷ 1 ∷ 2 ∷ 2 ∷ []
  pub hybrid_1000000 : hybrid_values eight_family eight_values 1000000 eight_path ≡ 0 ∷ 0 ∷ 0 ∷ 0 ∷ 0 ∷ 0 ∷ 1 ∷ 2 ∷ 2 ∷ []
  -- The region bound is the smaller one of the first 1 and 2 peptides, the Simes bound of the first 5 and 6.
  pub simes_mixed : simes_values (mixed_with 12500) 50000 ≡ 0 ∷ 1 ∷ 2 ∷ 2 ∷ 2 ∷ 2 ∷ 3 ∷ 4 ∷ 4 ∷ []
  pub hybrid_mixed : hybrid_values eight_family (mixed_with 12500) 50000 eight_path ≡ 0 ∷ 0 ∷ 1 ∷ 2 ∷ 2 ∷ 2 ∷ 3 ∷ 4 ∷ 4 ∷ []
  -- There 12,500 times 8 is 50,000 times 2, so that peptide 6 is not counted at k = 2. With a millionth more it is.
  pub simes_over : simes_values (mixed_with 12501) 50000 ≡ 0 ∷ 1 ∷ 2 ∷ 2 ∷ 2 ∷ 3 ∷ 3 ∷ 4 ∷ 4 ∷ []
  pub hybrid_over : hybrid_values eight_family (mixed_with 12501) 50000 eight_path ≡ 0 ∷ 0 ∷ 1 ∷ 2 ∷ 2 ∷ 3 ∷ 3 ∷ 4 ∷ 4 ∷ []
  -- the first of two peptides, at its threshold of k = 1 and a millionth over it
  pub equal_not_counted : simes 2 (25000 ∷ 0 ∷ []) 50000 (among (1 ∷ [])) ≡ 0
  pub larger_counted : simes 2 (25001 ∷ 0 ∷ []) 50000 (among (1 ∷ [])) ≡ 1
  -- a p-value of 1,000,000 at the level 1,000,000, and at the next lower one
  pub largest_level : simes 1 (1000000 ∷ []) 1000000 (among (1 ∷ [])) ≡ 0
  pub level_lower : simes 1 (1000000 ∷ []) 999999 (among (1 ∷ [])) ≡ 1
  -- no peptide
  pub empty_selection : simes 8 (mixed_with 12500) 50000 (among []) ≡ 0
  pub empty_path : hybrid_values eight_family (mixed_with 12500) 50000 [] ≡ 0 ∷ []
  -- Two accepted families with different curves along the path have the same hybrid curve there.
  pub both_accepted : Accepted eight_file × Accepted (file_of free)
  pub other_curve : curve_values free eight_path ≡ 0 ∷ 1 ∷ 2 ∷ 3 ∷ 4 ∷ 5 ∷ 6 ∷ 7 ∷ 8 ∷ []
  pub same_hybrid : hybrid_values free eight_values 50000 eight_path ≡ hybrid_values eight_family eight_values 50000 eight_path
  -- A path of one peptide: its thresholds are those of m = 8 peptides, and so is the number of p-values. With 1 for m the value would be 0.
  pub short_path : hybrid_values eight_family (mixed_with 12500) 50000 (3 ∷ []) ≡ 0 ∷ 1 ∷ []
  pub short_none : told (3 ∷ []) (mixed_with 12500) 50000 2 ≡ 0
  pub short_20 : told (3 ∷ []) (7000 ∷ []) 50000 2 ≡ 20
  -- the edges of cause 23
  pub level_0 : cause23 0 ≡ true
  pub level_1 : cause23 1 ≡ false
  pub level_1000000 : cause23 1000000 ≡ false
  pub level_1000001 : cause23 1000001 ≡ true
  -- with each number all causes after it hold too
  pub number_1 : first_cause (hybrid_causes [] (0 ∷ 0 ∷ []) (1000001 ∷ []) 0 2) ≡ 1
  pub number_11 : told (0 ∷ 0 ∷ 0 ∷ 0 ∷ 0 ∷ 0 ∷ 0 ∷ 0 ∷ 0 ∷ []) (1000001 ∷ []) 0 9 ≡ 11
  pub number_12 : told (1 ∷ 1 ∷ 9 ∷ []) (1000001 ∷ []) 0 3 ≡ 12
  pub number_13 : told (7 ∷ 7 ∷ []) (1000001 ∷ []) 0 2 ≡ 13
  pub number_16 : told eight_path (1000001 ∷ []) 0 8 ≡ 16
  pub number_20 : told eight_path (1000001 ∷ []) 0 9 ≡ 20
  pub number_21 : told eight_path (mixed_with 1000001) 0 9 ≡ 21
  pub number_23 : told eight_path (mixed_with 1000000) 0 9 ≡ 23
  pub none : told eight_path (mixed_with 1000000) 1 9 ≡ 0

pub hybrid_examples : HybridExamples
unfolding tabulate sum same_list some_below count_below number_at bytes_of region peptides_up_to length_at region_at family_of region_fields fields mark file_of before share_leaf region_within crossing region_inside cause1 cause2 cause3 cause4 cause5 cause6 cause7 cause8 cause9 cause10 misplaced first_cause header_causes family_causes file_causes short range_of ranges_of has card count some those sum_over within inside just_inside parts outermost outside total_within total value bound among entry curve_values cause11 cause12 repeated cause13 path_causes input_causes cause20 cause21 p_value_of counted_at simes_at least_up_to simes hybrid_entry hybrid_values cause23 room_and_p_values hybrid_inputs hybrid_causes
hybrid_examples =
    record {
      region_values = refl;
      simes_50000 = refl;
      hybrid_50000 = refl;
      simes_1000000 = refl;
      hybrid_1000000 = refl;
      simes_mixed = refl;
      hybrid_mixed = refl;
      simes_over = refl;
      hybrid_over = refl;
      equal_not_counted = refl;
      larger_counted = refl;
      largest_level = refl;
      level_lower = refl;
      empty_selection = refl;
      empty_path = refl;
      both_accepted = (refl, refl);
      other_curve = refl;
      same_hybrid = refl;
      short_path = refl;
      short_none = refl;
      short_20 = refl;
      level_0 = refl;
      level_1 = refl;
      level_1000000 = refl;
      level_1000001 = refl;
      number_1 = refl;
      number_11 = refl;
      number_12 = refl;
      number_13 = refl;
      number_16 = refl;
      number_20 = refl;
      number_21 = refl;
      number_23 = refl;
      none = refl;
    }
