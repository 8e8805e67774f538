-- Worked examples of lists of selections, computed: the values, the charge and the tally, the causes in their order, and their edges.
use Prim.Native.Nat.{ℕ}
use mathlib.Core.List.{List, [], ◌∷◌, ◌++◌, flatten}
use mathlib.Core.Path.{◌≡◌, refl}
use lib.ListN.{length, drop, replicate}
use Rattle.reader.specs.Lists.{tabulate, sum, same_list, some_below, count_below}
use Rattle.reader.specs.Bytes.{number_at, bytes_of}
use Rattle.reader.specs.Family.{region_count, region, peptides_up_to, length_at, region_at, family_of, region_fields, fields, mark, file_of}
use Rattle.reader.specs.Nesting.{before, share_leaf, region_within, crossing, region_inside}
use Rattle.reader.specs.Causes.{cause1, cause2, cause3, cause4, cause5, cause6, cause7, cause8, cause9, cause10, misplaced, first_cause, header_causes, family_causes, file_causes}
use Rattle.reader.specs.Calls.{written, short}
use Rattle.reader.proofs.Examples.{eight_file}
use Rattle.bounds.specs.Ranges.{range_of, ranges_of, has, card, count, some, those, sum_over, within, inside, just_inside, parts, outermost, outside}
use Rattle.bounds.specs.Bound.{total_within, total, value, bound}
use Rattle.bounds.specs.Selections.{selected, bound_of, cause14}
use Rattle.bounds.specs.SelectionLists.{selection_at, list_bounds, cause24}
use Rattle.bounds.specs.Tally.{charge_of, added, cause25}
use Rattle.bounds.specs.Calls.{ListReport, list_inputs, list_causes, charged, listed}

-- Selections from the eight-peptide family, of leaf lengths 2, 3, 1, 2 and the regions (1,2,3), (1,1,2), (2,2,1), (3,4,3), (4,4,0).

-- peptide 7 alone, of leaf 4, whose z is 0: 0
abbrev pub seventh : List ℕ
seventh = 0 ∷ 0 ∷ 0 ∷ 0 ∷ 0 ∷ 0 ∷ 1 ∷ 0 ∷ []

-- peptides 1, 3 and 7: 1 of leaf 1, 1 of leaf 2, of both at most 3, and 0 of leaf 4: 2
abbrev pub three : List ℕ
three = 1 ∷ 0 ∷ 1 ∷ 0 ∷ 0 ∷ 0 ∷ 1 ∷ 0 ∷ []

-- all peptides: 2 of leaf 1, 1 of leaf 2, of both at most 3; the peptide 6 of leaf 3 and 0 of leaf 4, of both at most 3: 4
abbrev pub whole : List ℕ
whole = 1 ∷ 1 ∷ 1 ∷ 1 ∷ 1 ∷ 1 ∷ 1 ∷ 1 ∷ []

abbrev pub all_three : List ℕ
all_three = flatten (seventh ∷ three ∷ whole ∷ [])

-- one peptide, in a region with z = 0, and in no region
abbrev pub one_file : List ℕ
one_file = file_of (record { peptides = 1; lengths = 1 ∷ []; regions = record { first = 1; last = 1; z = 0 } ∷ [] })

abbrev pub free_file : List ℕ
free_file = file_of (record { peptides = 1; lengths = 1 ∷ []; regions = [] })

-- what a call answers
abbrev pub told : List ℕ → List ℕ → ℕ → ℕ → ℕ → ListReport
told file selections count tally room =
    listed (list_causes file selections count tally room) (charge_of (region_count (family_of file)) count) tally

abbrev pub answers : ℕ → ℕ → ListReport
answers charge tally = record { number = 0; charge = charge; tally = tally }

abbrev pub declines : ℕ → ℕ → ListReport
declines number tally = record { number = number; charge = 0; tally = tally }

-- and what it leaves in the lent list
abbrev pub left : List ℕ → List ℕ → ℕ → ℕ → List ℕ → List ℕ
left file selections count tally values =
    written (list_causes file selections count tally (length values)) (list_bounds (family_of file) selections count) values

pub record ListExamples : Type 0 where
  pub joined : all_three ≡ seventh ++ three ++ whole
  -- Three selections, of K = 5 regions: the charge is 5 once. The fourth place is left as it was.
  pub three_values : left eight_file all_three 3 7 (9 ∷ 9 ∷ 9 ∷ 9 ∷ []) ≡ 0 ∷ 2 ∷ 4 ∷ 9 ∷ []
  pub three_answer : told eight_file all_three 3 7 4 ≡ answers 5 12
  -- in another order, and one of them twice
  pub other_order : left eight_file (flatten (whole ∷ three ∷ whole ∷ [])) 3 12 (9 ∷ 9 ∷ 9 ∷ []) ≡ 4 ∷ 2 ∷ 4 ∷ []
  -- one selection has the same charge
  pub one_value : left eight_file three 1 17 (9 ∷ []) ≡ 2 ∷ []
  pub one_answer : told eight_file three 1 17 1 ≡ answers 5 22
  -- no selection: nothing is written, and nothing charged
  pub empty_values : left eight_file [] 0 22 (9 ∷ []) ≡ 9 ∷ []
  pub empty_answer : told eight_file [] 0 22 0 ≡ answers 0 22
  -- the one peptide not selected, and selected
  pub of_a_region : left one_file (0 ∷ 1 ∷ []) 2 0 (9 ∷ 9 ∷ []) ≡ 0 ∷ 0 ∷ []
  pub of_none : left free_file (0 ∷ 1 ∷ []) 2 0 (9 ∷ 9 ∷ []) ≡ 0 ∷ 1 ∷ []
  -- with each number all causes after it hold too
  pub number_1 : told (0 ∷ drop 1 eight_file) (2 ∷ []) 33 4294967295 0 ≡ declines 1 4294967295
  pub number_14 : told eight_file (2 ∷ []) 33 4294967295 0 ≡ declines 14 4294967295
  pub number_16 : told one_file (replicate 33 1) 33 4294967295 32 ≡ declines 16 4294967295
  pub number_24 : told one_file (replicate 33 1) 33 4294967295 33 ≡ declines 24 4294967295
  pub number_25 : told one_file (replicate 32 1) 32 4294967295 32 ≡ declines 25 4294967295
  -- a declined call writes nothing
  pub declined_values : left eight_file all_three 3 4294967291 (9 ∷ 9 ∷ 9 ∷ []) ≡ 9 ∷ 9 ∷ 9 ∷ []
  -- 32 selections are not too many; `number_24` has 33
  pub most : told one_file (replicate 32 1) 32 0 32 ≡ answers 1 1
  -- The tally reaches 4,294,967,295 and does not pass it.
  pub last_tally : told eight_file all_three 3 4294967290 3 ≡ answers 5 4294967295
  pub over_tally : told eight_file all_three 3 4294967291 3 ≡ declines 25 4294967291
  -- On a full tally there is room for the charge 0: of an empty list, and of a family without a region.
  pub empty_on_full : told eight_file [] 0 4294967295 0 ≡ answers 0 4294967295
  pub free_on_full : told free_file (1 ∷ []) 1 4294967295 1 ≡ answers 0 4294967295
  -- cause 14: a byte or a selection that is not counted, one that is missing, and a byte over 1, in the last selection alone
  pub byte_over : told eight_file (0 ∷ []) 0 0 0 ≡ declines 14 0
  pub not_counted : told eight_file all_three 2 0 2 ≡ declines 14 0
  pub missing : told eight_file all_three 4 0 4 ≡ declines 14 0
  pub last_byte : told eight_file (seventh ++ (0 ∷ 0 ∷ 0 ∷ 0 ∷ 0 ∷ 0 ∷ 0 ∷ 2 ∷ [])) 2 0 2 ≡ declines 14 0
  -- cause 16: one place less than selections
  pub no_room : told eight_file all_three 3 0 2 ≡ declines 16 0

pub list_examples : ListExamples
unfolding flatten tabulate sum same_list some_below count_below number_at bytes_of region peptides_up_to length_at region_at family_of region_fields fields mark file_of before share_leaf region_within crossing region_inside cause1 cause2 cause3 cause4 cause5 cause6 cause7 cause8 cause9 cause10 misplaced first_cause header_causes family_causes file_causes written short range_of ranges_of has card count some those sum_over within inside just_inside parts outermost outside total_within total value bound selected bound_of cause14 selection_at list_bounds cause24 charge_of added cause25 list_inputs list_causes charged listed
list_examples =
    record {
      joined = refl;
      three_values = refl;
      three_answer = refl;
      other_order = refl;
      one_value = refl;
      one_answer = refl;
      empty_values = refl;
      empty_answer = refl;
      of_a_region = refl;
      of_none = refl;
      number_1 = refl;
      number_14 = refl;
      number_16 = refl;
      number_24 = refl;
      number_25 = refl;
      declined_values = refl;
      most = refl;
      last_tally = refl;
      over_tally = refl;
      empty_on_full = refl;
      free_on_full = refl;
      byte_over = refl;
      not_counted = refl;
      missing = refl;
      last_byte = refl;
      no_room = refl;
    }
