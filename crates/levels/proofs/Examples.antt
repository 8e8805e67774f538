-- Worked examples of families by level, of the two files, and of the causes at their edges, computed.
use Prim.Native.Nat.{ℕ, ◌-◌}
use mathlib.Core.Bool.{true}
use mathlib.Core.List.{List, [], ◌∷◌, ◌++◌, map}
use mathlib.Core.Path.{◌≡◌, refl}
use lib.ListN.{take, replicate}
use Rattle.reader.specs.Lists.{tabulate, sum, same_list, some_below, count_below, those}
use Rattle.reader.specs.Bytes.{number_at, bytes_of}
use Rattle.reader.specs.Family.{Region, Family, region, length_at, region_at, family_of, region_fields, fields, mark, file_of}
use Rattle.reader.specs.Nesting.{before, share_leaf, region_within, crossing, region_inside}
use Rattle.reader.specs.Causes.{cause1, cause2, cause3, cause4, cause5, cause6, cause7, cause8, cause9, cause10, misplaced, first_cause, header_causes, family_causes, file_causes}
use Rattle.reader.specs.Calls.{short}
use Rattle.reader.proofs.Examples.{eight, eight_file}
use Rattle.sorting.specs.ByKey.{by_key}
use Rattle.levels.specs.Levels.{level_of, by_level, level_counts, in_file_order, level_mark, level_fields, level_file, level_file_of, without_counts, listed_family, counts_in, family_file_of, same_range, without_repeats, distinct}
use Rattle.levels.specs.Causes.{cause26, cause27, in_level, misleveled, repeated, level_header_causes, nesting_causes, place_causes, form_causes, level_file_causes}
use Rattle.levels.specs.Calls.{to_levels_causes, from_levels_causes}

abbrev range : ℕ → ℕ → ℕ → Region
range a b z = record { first = a; last = b; z = z }

-- the eight-peptide family with its regions by level: (1,2,3), (3,4,3), then (1,1,2), (2,2,1), (4,4,0)
abbrev pub eight_by_level : Family
eight_by_level =
    record {
      peptides = 8;
      lengths = 2 ∷ 3 ∷ 1 ∷ 2 ∷ [];
      regions = range 1 2 3 ∷ range 3 4 3 ∷ range 1 1 2 ∷ range 2 2 1 ∷ range 4 4 0 ∷ [];
    }

-- the first counts, the others 0
abbrev pub padded : List ℕ → List ℕ
padded counts = take 64 (counts ++ replicate 64 0)

abbrev pub eight_levels : List ℕ
eight_levels =
    0x50 ∷ 0x48 ∷ 0x46 ∷ 0x4C ∷ 8 ∷ 0 ∷ 4 ∷ 0 ∷ 5 ∷ 0 ∷ 144 ∷ 0 ∷ 152 ∷ 0 ∷ 182 ∷ 0
    ∷ 2 ∷ 0 ∷ 3 ∷ 0
    ∷ (replicate 124 0
    ++ (2 ∷ 0 ∷ 3 ∷ 0 ∷ 1 ∷ 0 ∷ 2 ∷ 0
    ∷ 1 ∷ 0 ∷ 2 ∷ 0 ∷ 3 ∷ 0
    ∷ 3 ∷ 0 ∷ 4 ∷ 0 ∷ 3 ∷ 0
    ∷ 1 ∷ 0 ∷ 1 ∷ 0 ∷ 2 ∷ 0
    ∷ 2 ∷ 0 ∷ 2 ∷ 0 ∷ 1 ∷ 0
    ∷ 4 ∷ 0 ∷ 4 ∷ 0 ∷ 0 ∷ 0
    ∷ []))

-- three leaves of one peptide each
abbrev pub three : List Region → Family
three rs = record { peptides = 3; lengths = 1 ∷ 1 ∷ 1 ∷ []; regions = rs }

-- a region, one inside it on leaf 1, and one inside it on leaf 3
abbrev pub comb : Family
comb = three (range 1 3 1 ∷ range 1 1 1 ∷ range 3 3 1 ∷ [])

-- n leaves, and the regions from leaf 1 to the leaves n, n - 1, .., 1, each inside the one before
abbrev pub nested : ℕ → List Region
nested n = tabulate n (λ k. range 1 (n - k) 1)

abbrev pub chain : ℕ → List Region → Family
chain n rs = record { peptides = n; lengths = replicate n 1; regions = rs }

-- the number that `from_levels` tells of the file with these first level counts and this family, and an output of so many bytes; naming
-- it opens every definition on the way
pub told : List ℕ → Family → ℕ → ℕ
unfolding tabulate sum same_list some_below count_below those number_at bytes_of region length_at region_at family_of region_fields fields mark file_of before share_leaf region_within crossing region_inside cause1 cause2 cause3 cause4 cause5 cause6 cause7 cause8 cause9 cause10 misplaced first_cause header_causes family_causes file_causes short by_key level_of by_level level_counts in_file_order level_mark level_fields level_file level_file_of without_counts listed_family counts_in family_file_of same_range without_repeats distinct cause26 cause27 in_level misleveled repeated level_header_causes nesting_causes place_causes form_causes level_file_causes to_levels_causes from_levels_causes
told counts F room = first_cause (from_levels_causes (level_file (padded counts) F) room)

pub record LevelExamples : Type 0 where
  pub eight_levels_lem : map (level_of eight) eight.regions ≡ 1 ∷ 2 ∷ 2 ∷ 1 ∷ 2 ∷ []
  pub eight_counts : level_counts eight ≡ 2 ∷ 3 ∷ replicate 62 0
  pub eight_by_level_lem : by_level eight ≡ eight_by_level
  pub eight_in_order : in_file_order eight_by_level ≡ eight
  -- the two files, each of the other
  pub to_file : level_file_of (family_of eight_file) ≡ eight_levels
  pub from_file : family_file_of eight_levels ≡ eight_file
  pub from_listed : listed_family eight_levels ≡ eight_by_level
  pub from_counts : counts_in eight_levels ≡ 2 ∷ 3 ∷ replicate 62 0
  -- both are accepted, each as what it is, and each has cause 1 as the other
  pub levels_accepted : first_cause (level_file_causes eight_levels) ≡ 0
  pub levels_elsewhere : first_cause (file_causes eight_levels) ≡ 1
  pub family_elsewhere : first_cause (from_levels_causes eight_file 54) ≡ 1
  -- room for the length given plus 128, or less 128
  pub to_room : (first_cause (to_levels_causes eight_file 182) ≡ 0) × (first_cause (to_levels_causes eight_file 181) ≡ 16)
  pub from_room : (first_cause (from_levels_causes eight_levels 54) ≡ 0) × (first_cause (from_levels_causes eight_levels 53) ≡ 16)

pub level_examples : LevelExamples
unfolding told
level_examples =
    record {
      eight_levels_lem = refl;
      eight_counts = refl;
      eight_by_level_lem = refl;
      eight_in_order = refl;
      to_file = refl;
      from_file = refl;
      from_listed = refl;
      from_counts = refl;
      levels_accepted = refl;
      levels_elsewhere = refl;
      family_elsewhere = refl;
      to_room = (refl, refl);
      from_room = (refl, refl);
    }

-- The edges of the causes. Where a number is told before others, some of those hold too.

pub record LevelEdges : Type 0 where
  pub none : told (1 ∷ 2 ∷ []) comb 40 ≡ 0
  pub lengths_sum : told (1 ∷ []) (record { peptides = 4; lengths = 1 ∷ 1 ∷ 1 ∷ []; regions = range 0 3 1 ∷ range 1 2 1 ∷ range 2 3 1 ∷ [] }) 0 ≡ 6
  pub leaf_0 : told (1 ∷ []) (three (range 0 3 1 ∷ range 1 2 1 ∷ range 2 3 1 ∷ [])) 0 ≡ 7
  pub share_a_leaf : told (1 ∷ []) (three (range 1 3 1 ∷ range 1 2 1 ∷ range 2 3 1 ∷ [])) 0 ≡ 9
  -- the room comes before the level counts
  pub room_short : told (2 ∷ []) comb 39 ≡ 16
  -- one region less, and one more, than there are
  pub counts_under : told (2 ∷ []) comb 40 ≡ 26
  pub counts_over : told (3 ∷ 1 ∷ []) comb 40 ≡ 26
  -- a region listed one level deeper than it is, and one less deep
  pub too_deep : told (1 ∷ 1 ∷ 1 ∷ []) comb 40 ≡ 27
  pub not_deep_enough : told (2 ∷ 1 ∷ []) (three (range 1 3 1 ∷ range 2 2 1 ∷ range 3 3 1 ∷ [])) 40 ≡ 27
  -- a level by first leaf falling
  pub falling : told (1 ∷ 2 ∷ []) (three (range 1 3 1 ∷ range 3 3 1 ∷ range 1 1 1 ∷ [])) 40 ≡ 27
  -- two regions with the same leaves: their level is that of one, and their first leaf the same
  pub same_leaves : told (2 ∷ []) (three (range 1 1 1 ∷ range 1 1 2 ∷ [])) 34 ≡ 27
  pub same_levels : map (level_of (three (range 1 1 1 ∷ range 1 1 2 ∷ []))) (range 1 1 1 ∷ range 1 1 2 ∷ []) ≡ 1 ∷ 1 ∷ []
  pub same_first : misleveled (padded (2 ∷ [])) (three (range 1 1 1 ∷ range 1 1 2 ∷ [])) 0 1 ≡ true

pub level_edges : LevelEdges
unfolding told
level_edges =
    record {
      none = refl;
      lengths_sum = refl;
      leaf_0 = refl;
      share_a_leaf = refl;
      room_short = refl;
      counts_under = refl;
      counts_over = refl;
      too_deep = refl;
      not_deep_enough = refl;
      falling = refl;
      same_leaves = refl;
      same_levels = refl;
      same_first = refl;
    }

-- 64 nested regions are the most, and 10 is told before what the level counts say. Where the outermost of 64 is listed twice, the innermost
-- has 64 around it as they stand, but 63 without the repeat: 10 does not hold.

pub record DeepEdges : Type 0 where
  pub deepest : told (replicate 64 1) (chain 64 (nested 64)) 528 ≡ 0
  pub too_deep : told (replicate 64 1) (chain 65 (nested 65)) 0 ≡ 10
  pub twice : told (2 ∷ replicate 63 1) (chain 64 (range 1 64 2 ∷ nested 64)) 534 ≡ 27

pub deep_edges : DeepEdges
unfolding told
deep_edges = record { deepest = refl; too_deep = refl; twice = refl }
