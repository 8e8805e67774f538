-- Worked examples of the check: the eight-peptide family, and the edges of causes 2, 3, 4, 6 and 10.
use Prim.Native.Nat.{ℕ, zero, suc, ◌+◌, ◌-◌, ◌<◌, ◌≤◌}
use mathlib.Core.Bool.{Bool, true, false, cond}
use mathlib.Core.List.{List, [], ◌∷◌, ◌++◌}
use mathlib.Core.Path.{◌≡◌, refl, ap, ◌∙◌}
use native.Mathlib.Omega.{arith}
use lib.ListN.{length, replicate, take, drop}
use Rattle.reader.specs.Lists.{tabulate, sum, same_list, some_below, count_below, first_below}
use Rattle.reader.specs.Bytes.{number_at, bytes_of}
use Rattle.reader.specs.Family.{Region, Family, region, mark, length_at, region_at, family_of, region_fields, fields, file_of}
use Rattle.reader.specs.Nesting.{before, share_leaf, region_within, crossing, region_inside, regions_around, region_just_inside, parent, parents}
use Rattle.reader.specs.Causes.{cause1, cause2, cause3, cause4, cause5, cause6, cause7, cause8, cause9, cause10, misplaced, first_cause, header_causes, family_causes, file_causes}
use Rattle.reader.specs.WellFormed.{WellFormed}
use Rattle.reader.proofs.Bools.{passes}
use Rattle.reader.proofs.Parsed.{peptides_read, leaves_read}
use Rattle.reader.proofs.Judged.{from_marked, from_peptides_counted, leaves_counted, header_rest, layout_3}
use Rattle.reader.proofs.Accepting.{file_header}
use Rattle.reader.proofs.Files.{field_read, file_length, file_accepted}
use Rattle.reader.specs.Calls.{answer, checked, region_part, part_start}

abbrev range : ℕ → ℕ → ℕ → Region
range a b z = record { first = a; last = b; z = z }

-- leaf lengths 2, 3, 1, 2; regions (1,2,3), (1,1,2), (2,2,1), (3,4,3), (4,4,0)
abbrev pub eight : Family
eight =
    record {
      peptides = 8;
      lengths = 2 ∷ 3 ∷ 1 ∷ 2 ∷ [];
      regions = range 1 2 3 ∷ range 1 1 2 ∷ range 2 2 1 ∷ range 3 4 3 ∷ range 4 4 0 ∷ [];
    }

abbrev pub eight_file : List ℕ
eight_file =
    0x50 ∷ 0x48 ∷ 0x46 ∷ 0x42 ∷ 8 ∷ 0 ∷ 4 ∷ 0 ∷ 5 ∷ 0 ∷ 16 ∷ 0 ∷ 24 ∷ 0 ∷ 54 ∷ 0
    ∷ 2 ∷ 0 ∷ 3 ∷ 0 ∷ 1 ∷ 0 ∷ 2 ∷ 0
    ∷ 1 ∷ 0 ∷ 2 ∷ 0 ∷ 3 ∷ 0
    ∷ 1 ∷ 0 ∷ 1 ∷ 0 ∷ 2 ∷ 0
    ∷ 2 ∷ 0 ∷ 2 ∷ 0 ∷ 1 ∷ 0
    ∷ 3 ∷ 0 ∷ 4 ∷ 0 ∷ 3 ∷ 0
    ∷ 4 ∷ 0 ∷ 4 ∷ 0 ∷ 0 ∷ 0
    ∷ []

-- one leaf of each peptide, and the n regions from leaf 1 to the leaves n, n - 1, .., 1, each inside the one before
pub nest : ℕ → Family
nest n = record { peptides = n; lengths = replicate n 1; regions = tabulate n (λ k. range 1 (n - k) 1) }

-- N leaves with all 2N - 1 regions of a comb: the leaf j to the end, and the leaf j
pub comb : Family
comb =
    record {
      peptides = 3;
      lengths = 1 ∷ 1 ∷ 1 ∷ [];
      regions = range 1 3 1 ∷ range 1 1 1 ∷ range 2 3 1 ∷ range 2 2 1 ∷ range 3 3 1 ∷ [];
    }

-- the same with one region more than 2N - 1
pub overfull : Family
overfull = record { peptides = 3; lengths = 1 ∷ 1 ∷ 1 ∷ []; regions = tabulate 6 (λ k. range 1 (6 - k) 1) }

-- one leaf with all peptides
pub single_leaf : ℕ → Family
single_leaf m = record { peptides = m; lengths = m ∷ []; regions = [] }

-- one peptide on the last of n leaves; the others are empty
pub last_leaf_only : ℕ → Family
last_leaf_only n = record { peptides = 1; lengths = replicate (n - 1) 0 ++ (1 ∷ []); regions = range 1 n 0 ∷ [] }

-- m = 1 on n leaves, all of them empty
pub none_measured : ℕ → Family
none_measured n = record { peptides = 1; lengths = replicate n 0; regions = [] }

-- the number that the check gives the file of a family; naming it opens every definition on the way
pub number : Family → ℕ
unfolding tabulate sum same_list some_below count_below number_at bytes_of region mark length_at region_at family_of region_fields fields file_of before share_leaf region_within crossing region_inside cause1 cause2 cause3 cause4 cause5 cause6 cause7 cause8 cause9 cause10 misplaced first_cause header_causes family_causes file_causes
number F = first_cause (file_causes (file_of F))

pub eight_written : file_of eight ≡ eight_file
unfolding number
eight_written = refl

pub eight_accepted : checked eight_file ≡ record { number = 0; values = 8 ∷ 4 ∷ 5 ∷ [] }
unfolding number answer checked
eight_accepted = refl

pub eight_regions : (region_part eight_file ≡ drop 24 eight_file) × (part_start eight_file ≡ 24)
unfolding number region_part part_start
eight_regions = (refl, refl)

-- leaf lengths with the bytes of the region: the place alone tells the two apart
abbrev pub twin : Family
twin = record { peptides = 7; lengths = 1 ∷ 1 ∷ 5 ∷ []; regions = range 1 1 5 ∷ [] }

pub twin_regions : (region_part (file_of twin) ≡ take 6 (drop 16 (file_of twin))) × (part_start (file_of twin) ≡ 22)
unfolding number region_part part_start
twin_regions = (refl, refl)

-- regions 2 and 3 lie just inside region 1, region 5 just inside region 4
pub eight_parents : parents eight ≡ 0 ∷ 1 ∷ 1 ∷ 0 ∷ 4 ∷ []
unfolding number first_below region_just_inside parent parents
eight_parents = refl

-- the lengths of `last_leaf_only`
only_length : (k : ℕ) → length {A = ℕ} (replicate k 0 ++ (1 ∷ [])) ≡ suc k
only_length zero = refl
only_length (suc k) = ap suc (only_length k)

only_sum : (k : ℕ) → sum (replicate k 0 ++ (1 ∷ [])) ≡ 1
unfolding sum
only_sum zero = refl
only_sum (suc k) = omega (arith, only_sum k)

last_leaf_only_lem : (n : ℕ) → 1 ≤ n → n ≤ 4096 → WellFormed (last_leaf_only n)
unfolding last_leaf_only region count_below
last_leaf_only_lem n some most =
    let many : length {A = ℕ} (replicate (n - 1) 0 ++ (1 ∷ [])) ≡ n = only_length (n - 1) ∙ omega arith in
    record {
      peptides_some = omega arith;
      peptides_most = omega arith;
      leaves_some = omega (arith, many);
      leaves_most = omega (arith, many);
      regions_most = omega (arith, many);
      lengths_sum = only_sum (n - 1);
      ordered =
          record {
            first_some = λ k h. one k h (λ k. 1 ≤ (region (last_leaf_only n) k).first) (omega arith);
            first_last = λ k h. one k h (λ k. (region (last_leaf_only n) k).first ≤ (region (last_leaf_only n) k).last) some;
            last_leaf = λ k h. one k h (λ k. (region (last_leaf_only n) k).last ≤ length {A = ℕ} (replicate (n - 1) 0 ++ (1 ∷ []))) (omega (arith, many));
            rising = λ i j l h. absurd (omega arith);
            falling = λ i j l h. absurd (omega arith);
          };
      nested = λ i j l h. absurd (omega arith);
      shallow = λ k h. one k h (λ k. regions_around (last_leaf_only n) k ≤ 63) (few (region_inside (region (last_leaf_only n) 0) (region (last_leaf_only n) 0)));
      z_fits = λ k h. one k h (λ k. (region (last_leaf_only n) k).z < 65536) (omega arith);
    }
  where
    few : (b : Bool) → 0 + cond b 1 0 ≤ 63
    few true = omega arith
    few false = omega arith

    one : (k : ℕ) → k < 1 → (P : ℕ → Type 0) → P 0 → P k
    one zero h P p = p
    one (suc k) h P p = absurd (omega arith)

too_many : (n : ℕ) → 4096 < n → n < 65536 → first_cause (file_causes (file_of (last_leaf_only n))) ≡ 3
unfolding last_leaf_only fields
too_many n over fits =
    let F = last_leaf_only n in
    let s = file_of F in
    let many : length F.lengths ≡ n = only_length (n - 1) ∙ omega arith in
    let m : number_at s 4 ≡ 1 = field_read F 0 4 refl (omega arith) in
    let read : number_at s 6 ≡ length F.lengths = field_read F 1 6 refl (omega (arith, many)) in
    let three =
    header_rest s (from_marked mark s (omega (arith, file_length F)) (unfold file_of mark in refl))
    ∙ layout_3 16 s
    (from_peptides_counted (family_of s).peptides (omega (arith, peptides_read s)) (omega (arith, peptides_read s)))
    (passes (cause3 (family_of s)) (λ f. omega (arith, leaves_counted (family_of s) f, leaves_read s)))
    in
    file_header s (λ z. omega (arith, three, z)) ∙ three

-- The edges: each family on the line is accepted, and one step beyond it gives its number.
pub record Edges : Type 0 where
  pub most_peptides : number (single_leaf 4096) ≡ 0
  pub too_many_peptides : number (single_leaf 4097) ≡ 2
  pub most_leaves : (n : ℕ) → 1 ≤ n → n ≤ 4096 → number (last_leaf_only n) ≡ 0
  pub too_many_leaves : (n : ℕ) → 4096 < n → n < 65536 → number (last_leaf_only n) ≡ 3
  pub no_leaf : number (none_measured 0) ≡ 3
  pub nothing_measured : number (none_measured 3) ≡ 6
  pub most_regions : number comb ≡ 0
  pub too_many_regions : number overfull ≡ 4
  pub deepest : number (nest 64) ≡ 0
  pub too_deep : number (nest 65) ≡ 10

pub edges : Edges
unfolding number nest comb overfull single_leaf last_leaf_only none_measured
edges =
    record {
      most_peptides = refl;
      too_many_peptides = refl;
      most_leaves = λ n some most. file_accepted (last_leaf_only n) (last_leaf_only_lem n some most);
      too_many_leaves = too_many;
      no_leaf = refl;
      nothing_measured = refl;
      most_regions = refl;
      too_many_regions = refl;
      deepest = refl;
      too_deep = refl;
    }
