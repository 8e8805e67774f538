-- A family and its file: each is read back from the other, and the file of a well-formed family is accepted.
use Prim.Native.Nat.{ℕ, zero, suc, ◌+◌, ◌*◌, ◌/◌, ◌%◌, ◌<◌, ◌≤◌}
use native.Mathlib.Nat.{not-suc-le-zero, le_of_suc-le-suc, eq-or-lt_of_le, zero-add, suc-add}
use native.Mathlib.Omega.{arith}
use mathlib.Core.Bool.{false}
use mathlib.Core.List.{List, [], ◌∷◌, ◌++◌}
use mathlib.Core.Path.{◌≡◌, refl, sym, ap, ap₂, subst, ◌∙◌}
use mathlib.Core.Logic.{⊎_elim, inl, inr}
use lib.ListN.{length, get_or, take, drop, length-append, length-drop, take-append-drop, get_or-append}
use lib.Seq.{ext_get_or, get_or-append-add, get_or-drop, take-append_seam}
use Rattle.reader.specs.Lists.{tabulate, sum}
use Rattle.reader.specs.Bytes.{IsBytes, number_at, bytes_of}
use Rattle.reader.specs.Family.{Region, Family, no_region, leaves, region_count, region, mark, total_length, length_at, region_at, family_of, region_fields, fields, file_of}
use Rattle.reader.specs.Causes.{cause2, cause3, cause4, first_cause, header_causes, listing_causes, family_causes, file_causes, Accepted}
use Rattle.reader.specs.WellFormed.{WellFormed}
use Rattle.reader.proofs.Lists.{length_tabulate, get_d_tabulate, tabulate_same}
use Rattle.reader.proofs.Parsed.{peptides_read, leaves_read, regions_read}
use Rattle.reader.proofs.Judged.{Before, LaidDown, mark_there, from_marked, from_peptides_counted, from_leaves_counted, from_regions_counted, laid_down, from_laid_down, from_lengths_clear, from_regions_placed, from_regions_rise}
use Rattle.reader.proofs.Climbing.{clear_if_nested, not_too_deep}
use Rattle.reader.proofs.First.{join_clear}
use Rattle.reader.proofs.Accepting.{FamilyClear, accepted_header, header_none, family_none, file_family, header_numbered}

-- Numbers in a row, as bytes.

pub length_bytes : (ns : List ℕ) → length (bytes_of ns) ≡ 2 * length ns
unfolding bytes_of
length_bytes [] = refl
length_bytes (n ∷ ns) = omega (arith, length_bytes ns)

pub all_bytes : (ns : List ℕ) → IsBytes (bytes_of ns)
unfolding bytes_of
all_bytes [] i = omega arith
all_bytes (n ∷ ns) zero = omega arith
all_bytes (n ∷ ns) (suc zero) = omega arith
all_bytes (n ∷ ns) (suc (suc i)) = all_bytes ns i

double_suc : (i : ℕ) → 2 * suc i ≡ suc (suc (2 * i))
double_suc i = omega arith

-- the i-th number in a row is read at 2 i
number_in_row : (ns : List ℕ) (i : ℕ) → get_or ns i 0 < 65536 → number_at (bytes_of ns) (2 * i) ≡ get_or ns i 0
unfolding bytes_of number_at
number_in_row [] i h = refl
number_in_row (n ∷ ns) zero h = omega arith
number_in_row (n ∷ ns) (suc i) h =
    subst (λ (k : ℕ). number_at (bytes_of (n ∷ ns)) k ≡ get_or ns i 0) (sym (double_suc i)) (shifted ns n i (number_in_row ns i h))
  where
    regroup : (j : ℕ) → suc (suc j) + 1 ≡ suc (suc (j + 1))
    regroup j = omega arith

    shifted : (ns : List ℕ) (n i : ℕ) → number_at (bytes_of ns) (2 * i) ≡ get_or ns i 0 → number_at (bytes_of (n ∷ ns)) (suc (suc (2 * i))) ≡ get_or ns i 0
    shifted ns n i e = ap (λ (k : ℕ). get_or (bytes_of ns) (2 * i) 0 + 256 * get_or (bytes_of (n ∷ ns)) k 0) (regroup (2 * i)) ∙ e

past_mark : (l : List ℕ) (i : ℕ) → get_or (mark ++ l) (4 + i) 0 ≡ get_or l i 0
unfolding mark
past_mark l i = get_or-append-add mark l i 0

number_past_mark : (l : List ℕ) (i : ℕ) → number_at (mark ++ l) (4 + i) ≡ number_at l i
unfolding number_at
number_past_mark l i =
    omega (arith, past_mark l i, past_mark l (i + 1), ap (λ (k : ℕ). get_or (mark ++ l) k 0) (regroup i))
  where
    regroup : (i : ℕ) → 4 + i + 1 ≡ 4 + (i + 1)
    regroup i = omega arith

-- the i-th number after the mark
pub field_read : (F : Family) (i a : ℕ) → a ≡ 4 + 2 * i → get_or (fields F) i 0 < 65536 → number_at (file_of F) a ≡ get_or (fields F) i 0
unfolding file_of
field_read F i a e h = rw e (number_past_mark (bytes_of (fields F)) (2 * i) ∙ number_in_row (fields F) i h)

-- The fields of a family, one by one.

pub region_fields_length : (rs : List Region) → length (region_fields rs) ≡ 3 * length rs
unfolding region_fields
region_fields_length [] = refl
region_fields_length (r ∷ rs) = omega (arith, region_fields_length rs)

triple_suc : (k : ℕ) → 3 * suc k ≡ suc (suc (suc (3 * k)))
triple_suc k = omega arith

-- the three fields of the k-th region
record FieldsOf (l : List ℕ) (k : ℕ) (r : Region) : Type 0 where
  first : get_or l (3 * k) 0 ≡ r.first
  last : get_or l (3 * k + 1) 0 ≡ r.last
  z : get_or l (3 * k + 2) 0 ≡ r.z

region_fields_lem : (rs : List Region) (k : ℕ) → k < length rs → FieldsOf (region_fields rs) k (get_or rs k no_region)
unfolding region_fields
region_fields_lem [] k h = absurd (not-suc-le-zero h)
region_fields_lem (r ∷ rs) zero h = record { first = refl; last = refl; z = refl }
region_fields_lem (r ∷ rs) (suc k) h =
    let rest = region_fields_lem rs k (le_of_suc-le-suc h) in
    record {
      first = rw (triple_suc k) rest.first;
      last = subst (λ (i : ℕ). get_or (region_fields (r ∷ rs)) i 0 ≡ (get_or rs k no_region).last) (over k 1) rest.last;
      z = subst (λ (i : ℕ). get_or (region_fields (r ∷ rs)) i 0 ≡ (get_or rs k no_region).z) (over k 2) rest.z;
    }
  where
    over : (k j : ℕ) → suc (suc (suc (3 * k + j))) ≡ 3 * suc k + j
    over k j = omega arith

module _ (F : Family) where
  header_field : (i : ℕ) → get_or (fields F) (6 + i) 0 ≡ get_or (F.lengths ++ region_fields F.regions) i 0
  unfolding fields
  header_field i = subst (λ (k : ℕ). get_or (fields F) k 0 ≡ get_or (F.lengths ++ region_fields F.regions) i 0) (six i) refl
    where
      six : (i : ℕ) → suc (suc (suc (suc (suc (suc i))))) ≡ 6 + i
      six i = omega arith

  length_field : (j : ℕ) → j < leaves F → get_or (fields F) (6 + j) 0 ≡ get_or F.lengths j 0
  length_field j h = header_field j ∙ get_or-append F.lengths (region_fields F.regions) 0 j h

  region_field : (i : ℕ) → get_or (fields F) (6 + (leaves F + i)) 0 ≡ get_or (region_fields F.regions) i 0
  region_field i = header_field (leaves F + i) ∙ get_or-append-add F.lengths (region_fields F.regions) i 0

  pub fields_length : length (fields F) ≡ 6 + leaves F + 3 * region_count F
  unfolding fields
  fields_length =
      omega (arith, length-append F.lengths (region_fields F.regions), region_fields_length F.regions)

  pub file_length : length (file_of F) ≡ total_length (leaves F) (region_count F)
  unfolding file_of mark
  file_length = omega (arith, length-append mark (bytes_of (fields F)), length_bytes (fields F), fields_length)

  pub file_bytes : IsBytes (file_of F)
  unfolding file_of mark
  file_bytes zero = omega arith
  file_bytes (suc zero) = omega arith
  file_bytes (suc (suc zero)) = omega arith
  file_bytes (suc (suc (suc zero))) = omega arith
  file_bytes (suc (suc (suc (suc i)))) = all_bytes (fields F) i

element_in_sum : (l : List ℕ) (j : ℕ) → get_or l j 0 ≤ sum l
unfolding sum
element_in_sum [] j = omega arith
element_in_sum (x ∷ l) zero = omega arith
element_in_sum (x ∷ l) (suc j) = omega (arith, element_in_sum l j)

-- The family of the file of a family whose numbers fit.

pub record Fits (F : Family) : Type 0 where
  pub peptides : F.peptides < 65536
  pub total : total_length (leaves F) (region_count F) < 65536
  pub lengths : (j : ℕ) → get_or F.lengths j 0 < 65536
  pub first : (k : ℕ) → k < region_count F → (region F k).first < 65536
  pub last : (k : ℕ) → k < region_count F → (region F k).last < 65536
  pub z : (k : ℕ) → k < region_count F → (region F k).z < 65536

module _ (F : Family) (fits : Fits F) where
  read_peptides : number_at (file_of F) 4 ≡ F.peptides
  unfolding fields
  read_peptides = field_read F 0 4 refl fits.peptides

  read_leaves : number_at (file_of F) 6 ≡ leaves F
  unfolding fields
  read_leaves = field_read F 1 6 refl (omega (arith, fits.total))

  read_regions : number_at (file_of F) 8 ≡ region_count F
  unfolding fields
  read_regions = field_read F 2 8 refl (omega (arith, fits.total))

  pub read_laid_down : LaidDown 16 (file_of F)
  unfolding fields
  read_laid_down =
      let n = read_leaves in
      let k = read_regions in
      let small = fits.total in
      record {
        lengths = field_read F 3 10 refl (omega arith);
        regions = field_read F 4 12 refl (omega arith) ∙ omega arith;
        total = field_read F 5 14 refl (omega arith) ∙ omega arith;
        whole = omega (arith, file_length F);
      }

  read_length : (j : ℕ) → j < leaves F → length_at (file_of F) j ≡ get_or F.lengths j 0
  unfolding length_at
  read_length j h =
      let e = length_field F j h in
      field_read F (6 + j) (16 + 2 * j) (omega arith) (omega (arith, fits.lengths j)) ∙ e

  read_region : (k : ℕ) → k < region_count F → region_at (file_of F) k ≡ region F k
  unfolding region_at region
  read_region k h =
      let n = read_leaves in
      let f = region_fields_lem F.regions k h in
      let a = region_field F (3 * k) ∙ f.first in
      let b = region_field F (3 * k + 1) ∙ f.last in
      let z = region_field F (3 * k + 2) ∙ f.z in
      let o : ℕ = 16 + 2 * number_at (file_of F) 6 + 6 * k in
      let first : number_at (file_of F) o ≡ (region F k).first =
      field_read F (6 + (leaves F + 3 * k)) o (omega arith) (omega (arith, fits.first k h)) ∙ a in
      let last : number_at (file_of F) (o + 2) ≡ (region F k).last =
      field_read F (6 + (leaves F + (3 * k + 1))) (o + 2) (omega arith) (omega (arith, fits.last k h)) ∙ b in
      let bound : number_at (file_of F) (o + 4) ≡ (region F k).z =
      field_read F (6 + (leaves F + (3 * k + 2))) (o + 4) (omega arith) (omega (arith, fits.z k h)) ∙ z in
      λ i. record { first = first i; last = last i; z = bound i }

  listed : (k : ℕ) → k < region_count F → region_at (file_of F) k ≡ get_or F.regions k no_region
  unfolding region
  listed k h = read_region k h

  -- Such a family is read back from its file.
  pub fitting_read_back : family_of (file_of F) ≡ F
  unfolding family_of
  fitting_read_back =
      let lengths : tabulate (number_at (file_of F) 6) (length_at (file_of F)) ≡ F.lengths =
      ext_get_or 0 _ F.lengths (length_tabulate _ (length_at (file_of F)) ∙ read_leaves)
      (λ j h. let l : j < number_at (file_of F) 6 = omega (arith, length_tabulate (number_at (file_of F) 6) (length_at (file_of F))) in get_d_tabulate (number_at (file_of F) 6) (length_at (file_of F)) 0 j l ∙ read_length j (omega (arith, read_leaves))) in
      let regions : tabulate (number_at (file_of F) 8) (region_at (file_of F)) ≡ F.regions =
      ext_get_or no_region _ F.regions (length_tabulate _ (region_at (file_of F)) ∙ read_regions)
      (λ k h. let l : k < number_at (file_of F) 8 = omega (arith, length_tabulate (number_at (file_of F) 8) (region_at (file_of F))) in get_d_tabulate (number_at (file_of F) 8) (region_at (file_of F)) no_region k l ∙ listed k (omega (arith, read_regions))) in
      λ i. record { peptides = read_peptides i; lengths = lengths i; regions = regions i }

  starts_with_mark : take 4 (file_of F) ≡ mark
  unfolding file_of mark
  starts_with_mark = take-append_seam mark (bytes_of (fields F))

  -- With counts that pass, the header of its file has no cause, and the first cause of the file is the first of the family.
  module _ (h2 : cause2 F.peptides ≡ false) (h3 : cause3 F ≡ false) (h4 : cause4 F ≡ false) where
    header_fits : first_cause (header_causes (file_of F)) ≡ 0
    header_fits =
        header_none (file_of F)
        (record {
          no1 = from_marked mark (file_of F) (omega (arith, file_length F)) starts_with_mark;
          no2 = rw fitting_read_back h2;
          no3 = rw fitting_read_back h3;
          no4 = rw fitting_read_back h4;
          no5 = from_laid_down 16 (file_of F) read_laid_down;
        })

    pub judged_as_family : first_cause (file_causes (file_of F)) ≡ first_cause (family_causes F)
    judged_as_family = file_family (file_of F) header_fits ∙ ap (λ (G : Family). first_cause (family_causes G)) fitting_read_back

    pub judged_as_listing : first_cause (header_causes (file_of F) ++ listing_causes (family_of (file_of F))) ≡ first_cause (listing_causes F)
    judged_as_listing =
        join_clear (header_causes (file_of F)) (listing_causes (family_of (file_of F))) (header_numbered (file_of F)) header_fits
        ∙ ap (λ (G : Family). first_cause (listing_causes G)) fitting_read_back

module _ (F : Family) (w : WellFormed F) where
  pub well_formed_fits : Fits F
  well_formed_fits =
      record {
        peptides = omega (arith, w.peptides_most);
        total = omega (arith, w.leaves_most, w.regions_most);
        lengths = λ j. omega (arith, element_in_sum F.lengths j, w.lengths_sum, w.peptides_most);
        first = λ k h. omega (arith, w.ordered.first_last k h, w.ordered.last_leaf k h, w.leaves_most);
        last = λ k h. omega (arith, w.ordered.last_leaf k h, w.leaves_most);
        z = w.z_fits;
      }

  -- A well-formed family is read back from its file.
  pub read_back : family_of (file_of F) ≡ F
  read_back = fitting_read_back F well_formed_fits

  next_before : (k : ℕ) → k + 1 < region_count F → Before (region F k) (region F (k + 1))
  next_before k h =
      ⊎_elim
      (λ e. inr (e, w.ordered.falling k (k + 1) (omega arith) h e))
      inl
      (eq-or-lt_of_le (w.ordered.rising k (k + 1) (omega arith) h))

  -- The file of a well-formed family is accepted.
  pub file_accepted : Accepted (file_of F)
  file_accepted =
      judged_as_family F well_formed_fits
      (from_peptides_counted F.peptides w.peptides_some w.peptides_most)
      (from_leaves_counted F w.leaves_some w.leaves_most)
      (from_regions_counted F w.regions_most)
      ∙ family_none F family
    where
      family : FamilyClear F
      family =
          record {
            no6 = from_lengths_clear F w.lengths_sum;
            no7 = from_regions_placed F (λ k l. record { first_some = w.ordered.first_some k l; first_last = w.ordered.first_last k l; last_leaf = w.ordered.last_leaf k l });
            no8 = from_regions_rise F next_before;
            no9 = clear_if_nested F w.ordered w.nested;
            no10 = not_too_deep F w.shallow;
          }

-- The file of the family of an accepted file.

module _ {A : Type 0} where
  tabulate_join : (n k : ℕ) (f : ℕ → A) → tabulate (n + k) f ≡ tabulate n f ++ tabulate k (λ i. f (n + i))
  unfolding tabulate
  tabulate_join zero k f = rw zero-add (tabulate_same k f (λ i. f (0 + i)) (λ i l. ap f (sym (zero-add i))))
  tabulate_join (suc n) k f =
      rw (suc-add n k, tabulate_join n k (λ i. f (suc i)))
      (ap (λ (l : List A). f 0 ∷ (tabulate n (λ i. f (suc i)) ++ l)) (tabulate_same k (λ i. f (suc (n + i))) (λ i. f (suc n + i)) (λ i l. ap f (sym (suc-add n i)))))

region_numbers_lem :
    (K : ℕ) (g : ℕ → Region) (h : ℕ → ℕ)
    → ((k : ℕ) → (g k).first ≡ h (3 * k)) → ((k : ℕ) → (g k).last ≡ h (3 * k + 1)) → ((k : ℕ) → (g k).z ≡ h (3 * k + 2))
    → region_fields (tabulate K g) ≡ tabulate (3 * K) h
unfolding tabulate region_fields
region_numbers_lem zero g h a b c = refl
region_numbers_lem (suc K) g h a b c =
    rw (
      triple_suc K,
      a 0,
      b 0,
      c 0,
      region_numbers_lem K (λ k. g (suc k)) (λ i. h (suc (suc (suc i))))
          (λ k. a (suc k) ∙ ap h (triple_suc k))
          (λ k. b (suc k) ∙ ap h (over k 1))
          (λ k. c (suc k) ∙ ap h (over k 2)),
    )
  where
    over : (k j : ℕ) → 3 * suc k + j ≡ suc (suc (suc (3 * k + j)))
    over k j = omega arith

-- two bytes further on
number_further : (a b : ℕ) (l : List ℕ) (i : ℕ) → number_at (a ∷ b ∷ l) (2 * suc i) ≡ number_at l (2 * i)
unfolding number_at
number_further a b l i = rw (double_suc i) (ap (λ (k : ℕ). get_or l (2 * i) 0 + 256 * get_or (a ∷ b ∷ l) k 0) (regroup (2 * i)))
  where
    regroup : (j : ℕ) → suc (suc j) + 1 ≡ suc (suc (j + 1))
    regroup j = omega arith

low_byte : (a b : ℕ) (l : List ℕ) → a < 256 → number_at (a ∷ b ∷ l) (2 * 0) % 256 ≡ a
unfolding number_at
low_byte a b l h = omega arith

high_byte : (a b : ℕ) (l : List ℕ) → a < 256 → b < 256 → number_at (a ∷ b ∷ l) (2 * 0) / 256 % 256 ≡ b
unfolding number_at
high_byte a b l h k = omega arith

-- a list of bytes is the row of the numbers that stand in it
pub row_of_numbers : (n : ℕ) (l : List ℕ) → IsBytes l → length l ≡ 2 * n → bytes_of (tabulate n (λ i. number_at l (2 * i))) ≡ l
unfolding tabulate bytes_of
row_of_numbers zero [] b e = refl
row_of_numbers zero (x ∷ l) b e = absurd (omega arith)
row_of_numbers (suc n) [] b e = absurd (omega arith)
row_of_numbers (suc n) (x ∷ []) b e = absurd (omega arith)
row_of_numbers (suc n) (x ∷ y ∷ l) b e =
    rw (low_byte x y l (b 0), high_byte x y l (b 0) (b 1), tabulate_same n (λ i. number_at (x ∷ y ∷ l) (2 * suc i)) (λ i. number_at l (2 * i)) (λ i h. number_further x y l i))
    (ap (λ (t : List ℕ). x ∷ y ∷ t) (row_of_numbers n l (λ i. b (suc (suc i))) (omega arith)))

pub number_dropped : (n : ℕ) (s : List ℕ) (i : ℕ) → number_at (drop n s) i ≡ number_at s (n + i)
unfolding number_at
number_dropped n s i = omega (arith, get_or-drop n s i 0, get_or-drop n s (i + 1) 0, ap (λ (k : ℕ). get_or s k 0) (regroup n i))
  where
    regroup : (n i : ℕ) → n + i + 1 ≡ n + (i + 1)
    regroup n i = omega arith

module _ (s : List ℕ) (laid : LaidDown 16 s) where
  -- after the header the numbers in a row are the lengths and the fields of the regions
  body_numbers : (family_of s).lengths ++ region_fields (family_of s).regions ≡ tabulate (number_at s 6 + 3 * number_at s 8) (λ i. number_at s (16 + 2 * i))
  unfolding family_of length_at region_at
  body_numbers =
      let N : ℕ = number_at s 6 in
      let f : ℕ → ℕ = λ i. number_at s (16 + 2 * i) in
      sym
      (tabulate_join N (3 * number_at s 8) f
      ∙ ap (λ (l : List ℕ). tabulate N f ++ l)
      (sym
      (region_numbers_lem (number_at s 8) (region_at s) (λ i. f (N + i))
      (λ k. ap (number_at s) (omega arith))
      (λ k. ap (number_at s) (omega arith))
      (λ k. ap (number_at s) (omega arith)))))

  six_numbers :
      (n : ℕ)
      → tabulate (6 + n) (λ i. number_at s (4 + 2 * i))
      ≡ number_at s 4 ∷ number_at s 6 ∷ number_at s 8 ∷ number_at s 10 ∷ number_at s 12 ∷ number_at s 14 ∷ tabulate n (λ i. number_at s (16 + 2 * i))
  unfolding tabulate
  six_numbers n =
      rw (six n)
      (ap (λ (l : List ℕ). number_at s 4 ∷ number_at s 6 ∷ number_at s 8 ∷ number_at s 10 ∷ number_at s 12 ∷ number_at s 14 ∷ l)
      (tabulate_same n (λ i. number_at s (4 + 2 * suc (suc (suc (suc (suc (suc i))))))) (λ i. number_at s (16 + 2 * i)) (λ i h. ap (number_at s) (omega arith))))
    where
      six : (n : ℕ) → 6 + n ≡ suc (suc (suc (suc (suc (suc n)))))
      six n = omega arith

  all_numbers : fields (family_of s) ≡ tabulate (6 + (number_at s 6 + 3 * number_at s 8)) (λ i. number_at s (4 + 2 * i))
  unfolding fields
  all_numbers =
      let rows = six_numbers (number_at s 6 + 3 * number_at s 8) in
      rw (rows, peptides_read s, leaves_read s, regions_read s, laid.lengths, laid.regions, laid.total, body_numbers)

  -- A file that is laid down as it should be and has the mark is the file of its family.
  pub file_written_back : IsBytes s → take 4 s ≡ mark → file_of (family_of s) ≡ s
  unfolding file_of
  file_written_back b m =
      let n : ℕ = 6 + (number_at s 6 + 3 * number_at s 8) in
      rw all_numbers
      (ap₂ ◌++◌ (sym m)
      (ap bytes_of (tabulate_same n (λ i. number_at s (4 + 2 * i)) (λ i. number_at (drop 4 s) (2 * i)) (λ i h. sym (number_dropped 4 s (2 * i))))
      ∙ row_of_numbers n (drop 4 s) (λ i. subst (λ (x : ℕ). x < 256) (sym (get_or-drop 4 s i 0)) (b (4 + i))) (omega (arith, length-drop 4 s, laid.whole)))
      ∙ take-append-drop 4 s)

-- An accepted file is the file of its family.
pub accepted_written_back : (s : List ℕ) → IsBytes s → Accepted s → file_of (family_of s) ≡ s
accepted_written_back s b a =
    let h = accepted_header s a in file_written_back s (laid_down 16 s h.no5) b (mark_there mark s h.no1).1
