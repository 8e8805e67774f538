-- The worked examples E1 to E10, and one with empty leaves, computed.
use Prim.Native.Nat.{ℕ}
use mathlib.Core.Logic.{◌≢◌}
use mathlib.Core.List.{List, [], ◌∷◌}
use mathlib.Core.Path.{◌≡◌, refl, ap}
use native.Mathlib.Omega.{arith}
use lib.ListN.{get_or}
use Rattle.reader.specs.Lists.{tabulate, sum, same_list, some_below, count_below}
use Rattle.reader.specs.Bytes.{number_at, bytes_of}
use Rattle.reader.specs.Family.{Region, Family, region, peptides_up_to, length_at, region_at, family_of, region_fields, fields, mark, file_of}
use Rattle.reader.specs.Nesting.{before, share_leaf, region_within, crossing, region_inside}
use Rattle.reader.specs.Causes.{cause1, cause2, cause3, cause4, cause5, cause6, cause7, cause8, cause9, cause10, misplaced, first_cause, header_causes, family_causes, file_causes, Accepted}
use Rattle.bounds.specs.Ranges.{range_of, ranges_of, has, card, count, some, those, sum_over, within, inside, just_inside, parts, outermost, outside}
use Rattle.bounds.specs.Bound.{total_within, total, value, bound, full, is_taken, taken_bytes}
use Rattle.bounds.specs.Selections.{selected, taken_of}
use Rattle.bounds.specs.Curves.{among, entry, curve_values, mark_at, curve_marks, largest_up_to, cut_of}
use Rattle.reduction.specs.Reduction.{rising, falling, grid, first_of, last_of, dead, live, live_peptides, has_stretch, smallest_z, merged, stretch_at, stretches, room, is_kept, is_dead_run, reduced_at, reduced, ends_leaf, leaf_lengths, region_of, written_family, reduced_family, reduced_file}

unfoldable pub triple : ℕ → ℕ → ℕ → Region
triple f l z = record { first = f; last = l; z = z }

-- the eight-peptide family, with z as the bound of its first region
unfoldable pub eight_with : ℕ → Family
eight_with z =
    record {
      peptides = 8;
      lengths = 2 ∷ 3 ∷ 1 ∷ 2 ∷ [];
      regions = triple 1 2 z ∷ triple 1 1 2 ∷ triple 2 2 1 ∷ triple 3 4 3 ∷ triple 4 4 0 ∷ [];
    }

-- the family of E6
unfoldable pub five : Family
five =
    record {
      peptides = 8;
      lengths = 2 ∷ 3 ∷ 1 ∷ 1 ∷ 1 ∷ [];
      regions = triple 2 2 1 ∷ triple 4 4 0 ∷ triple 5 5 0 ∷ [];
    }

-- the eight-peptide family on a list of seven proteins, of which the first, the third and the last have nothing measured:
-- the second region has no peptide, and the third and the fourth have the same
unfoldable pub unmeasured : Family
unmeasured =
    record {
      peptides = 8;
      lengths = 0 ∷ 2 ∷ 0 ∷ 3 ∷ 1 ∷ 2 ∷ 0 ∷ [];
      regions = triple 1 4 3 ∷ triple 1 1 0 ∷ triple 2 3 5 ∷ triple 2 2 2 ∷ triple 4 4 1 ∷ triple 5 7 3 ∷ triple 6 6 0 ∷ [];
    }

-- one leaf of m peptides, with the given regions
unfoldable pub one_leaf : ℕ → List Region → Family
one_leaf m regions = record { peptides = m; lengths = m ∷ []; regions = regions }

-- the reduced file of the eight-peptide family, as the document writes it
unfoldable pub reduced_eight : List ℕ
reduced_eight =
    0x50 ∷ 0x48 ∷ 0x46 ∷ 0x42 ∷ 0x08 ∷ 0x00 ∷ 0x04 ∷ 0x00 ∷ 0x02 ∷ 0x00 ∷ 0x10 ∷ 0x00 ∷ 0x18 ∷ 0x00 ∷ 0x24 ∷ 0x00
    ∷ 0x02 ∷ 0x00 ∷ 0x03 ∷ 0x00 ∷ 0x01 ∷ 0x00 ∷ 0x02 ∷ 0x00
    ∷ 0x02 ∷ 0x00 ∷ 0x02 ∷ 0x00 ∷ 0x01 ∷ 0x00
    ∷ 0x04 ∷ 0x00 ∷ 0x04 ∷ 0x00 ∷ 0x00 ∷ 0x00
    ∷ []

-- of three peptides and no region: one leaf
unfoldable pub reduced_three : List ℕ
reduced_three =
    0x50 ∷ 0x48 ∷ 0x46 ∷ 0x42 ∷ 0x03 ∷ 0x00 ∷ 0x01 ∷ 0x00 ∷ 0x00 ∷ 0x00 ∷ 0x10 ∷ 0x00 ∷ 0x12 ∷ 0x00 ∷ 0x12 ∷ 0x00
    ∷ 0x03 ∷ 0x00
    ∷ []

-- the path of the eight-peptide family
unfoldable pub full_path : List ℕ
full_path = 7 ∷ 3 ∷ 1 ∷ 4 ∷ 6 ∷ 2 ∷ 5 ∷ 8 ∷ []

-- the reduced file of a family's file; naming it opens every definition on the way
reduced_of : Family → List ℕ
unfolding triple eight_with five unmeasured one_leaf reduced_eight reduced_three full_path tabulate sum number_at bytes_of peptides_up_to length_at region_at family_of region_fields fields mark file_of range_of ranges_of has card count some those sum_over within inside just_inside parts outermost outside total_within total value bound full is_taken taken_bytes selected taken_of among entry curve_values mark_at curve_marks largest_up_to cut_of rising falling grid first_of last_of dead live live_peptides has_stretch smallest_z merged stretch_at stretches room is_kept is_dead_run reduced_at reduced ends_leaf leaf_lengths region_of written_family reduced_family reduced_file
reduced_of F = reduced_file (file_of F)

-- E1 to E10, on the definitions.
pub record Examples : Type 0 where
  -- the values and the marks of the program's output
  pub E1 :
      (curve_values (eight_with 3) full_path ≡ 0 ∷ 0 ∷ 1 ∷ 2 ∷ 2 ∷ 3 ∷ 4 ∷ 4 ∷ 4 ∷ [])
      × (curve_marks (eight_with 3) full_path ≡ 0 ∷ 1 ∷ 1 ∷ 0 ∷ 1 ∷ 1 ∷ 0 ∷ 0 ∷ [])
  -- with all peptides selected, the taken bytes
  pub E2 : taken_of (eight_with 3) (1 ∷ 1 ∷ 1 ∷ 1 ∷ 1 ∷ 1 ∷ 1 ∷ 1 ∷ []) ≡ 0 ∷ 0 ∷ 1 ∷ 0 ∷ 1 ∷ []
  pub E3 : reduced_file (file_of (eight_with 3)) ≡ reduced_eight
  -- q = 1/2 cuts at 8, q = 2/5 at 1
  pub E4 : cut_of (eight_with 3) full_path 1 2 ≡ 8
  pub E5 : cut_of (eight_with 3) full_path 2 5 ≡ 1
  pub E6 : reduced_file (file_of five) ≡ reduced_eight
  -- with z = 2 in the first region the reduction differs; path 3 1 2 gives 0 1 2 2, and 0 1 2 3 before
  pub E7 :
      (reduced_file (file_of (eight_with 2)) ≢ reduced_eight)
      × (curve_values (eight_with 2) (3 ∷ 1 ∷ 2 ∷ []) ≡ 0 ∷ 1 ∷ 2 ∷ 2 ∷ [])
      × (curve_values (eight_with 3) (3 ∷ 1 ∷ 2 ∷ []) ≡ 0 ∷ 1 ∷ 2 ∷ 3 ∷ [])
  -- no region: the full path gives 0 1 2 3, the reduction has one leaf
  pub E8 : (curve_values (one_leaf 3 []) (1 ∷ 2 ∷ 3 ∷ []) ≡ 0 ∷ 1 ∷ 2 ∷ 3 ∷ []) × (reduced_file (file_of (one_leaf 3 [])) ≡ reduced_three)
  pub E9 : curve_values (one_leaf 1 (triple 1 1 0 ∷ [])) (1 ∷ []) ≡ 0 ∷ 0 ∷ []
  -- reduces as E8
  pub E10 : reduced_file (file_of (one_leaf 3 (triple 1 1 5 ∷ []))) ≡ reduced_file (file_of (one_leaf 3 []))

pub examples : Examples
unfolding reduced_of
examples =
    record {
      E1 = (refl, refl);
      E2 = refl;
      E3 = refl;
      E4 = refl;
      E5 = refl;
      E6 = refl;
      E7 = (λ e. let h : ◌≡◌ {A = ℕ} 3 2 = ap (λ s. get_or s 8 0) e in omega arith, refl, refl);
      E8 = (refl, refl);
      E9 = refl;
      E10 = refl;
    }

-- The family with empty leaves has the values, the marks and the reduced file of the eight-peptide family;
-- of its regions those on the leaves 4 and 6 are taken.
pub record EmptyLeafExample : Type 0 where
  pub accepted : Accepted (file_of unmeasured)
  pub curve :
      (curve_values unmeasured full_path ≡ 0 ∷ 0 ∷ 1 ∷ 2 ∷ 2 ∷ 3 ∷ 4 ∷ 4 ∷ 4 ∷ [])
      × (curve_marks unmeasured full_path ≡ 0 ∷ 1 ∷ 1 ∷ 0 ∷ 1 ∷ 1 ∷ 0 ∷ 0 ∷ [])
  pub taken : taken_of unmeasured (1 ∷ 1 ∷ 1 ∷ 1 ∷ 1 ∷ 1 ∷ 1 ∷ 1 ∷ []) ≡ 0 ∷ 0 ∷ 0 ∷ 0 ∷ 1 ∷ 0 ∷ 1 ∷ []
  pub reduction : reduced_file (file_of unmeasured) ≡ reduced_eight

pub empty_leaf_example : EmptyLeafExample
unfolding reduced_of same_list some_below count_below region before share_leaf region_within crossing region_inside cause1 cause2 cause3 cause4 cause5 cause6 cause7 cause8 cause9 cause10 misplaced first_cause header_causes family_causes file_causes
empty_leaf_example = record { accepted = refl; curve = (refl, refl); taken = refl; reduction = refl }

-- No copy of its input and no one fixed file is the reduction: it takes E10 to another file, and E3 and E8 to different ones.
pub not_a_copy : reduced_file (file_of (one_leaf 3 (triple 1 1 5 ∷ []))) ≢ file_of (one_leaf 3 (triple 1 1 5 ∷ []))
unfolding reduced_of
not_a_copy e = let h : ◌≡◌ {A = ℕ} 0 1 = ap (λ s. get_or s 8 0) e in omega arith

pub not_one_file : reduced_file (file_of (eight_with 3)) ≢ reduced_file (file_of (one_leaf 3 []))
unfolding reduced_of
not_one_file e = let h : ◌≡◌ {A = ℕ} 8 3 = ap (λ s. get_or s 4 0) e in omega arith
