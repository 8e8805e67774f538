-- A family and its file by level: each is read back from the other.
--   level_file_length                     the length of the file
--   level_file_bytes                      it is of bytes
--   level_file_mark                       it begins with the mark PHFL
--   family_same                           files with the same counts in the header and the same numbers behind it hold the same family
--   FitsLevels                            a family and level counts whose numbers fit 2 bytes each, and so does the length of the file
--   level_laid_down                       the offsets and the length of its file are as laid down
--   level_read_back                       the family is read back from the file
--   level_headed                          its header has no cause where m, N and K have none
--   counts_read_back                      the level counts are read back too
--   level_written_back                    a file with a header without cause is the file of what is read from it
--   to_length, from_length                the file of a family by level is 128 bytes longer than the family file; the way back, 128 shorter
use Prim.Native.Nat.{ℕ, zero, suc, ◌+◌, ◌*◌, ◌-◌, ◌<◌, ◌≤◌}
use native.Mathlib.Omega.{arith}
use mathlib.Core.Bool.{false}
use mathlib.Core.List.{List, [], ◌++◌}
use mathlib.Core.Path.{◌≡◌, refl, sym, ap, ap₂, subst, ◌∙◌}
use mathlib.Core.Logic.{⊎_elim}
use lib.ListN.{length, get_or, take, drop, length-append, length-take, length-drop, take-append-drop, get_or-append}
use lib.Seq.{ext_get_or, get_or-take, get_or-drop, drop_at, drop-drop, length-take-le}
use lib.Dec.{ltb}
use borrow.Author.Tests.{ltb-true, ltb-false}
use Rattle.reader.specs.Lists.{tabulate}
use Rattle.reader.specs.Bytes.{IsBytes, number_at, bytes_of}
use Rattle.reader.specs.Family.{Family, leaves, region_count, length_at, region_at, family_of, mark, region_fields, fields, file_of}
use Rattle.reader.specs.Causes.{cause2, cause3, cause4}
use Rattle.reader.proofs.Bools.{test}
use Rattle.reader.proofs.Lists.{length_tabulate, get_d_tabulate, tabulate_same}
use Rattle.reader.proofs.Parsed.{peptides_read, leaves_read, regions_read, length_number, byte_past}
use Rattle.reader.proofs.Judged.{LaidDown}
use Rattle.reader.proofs.Files.{Fits, length_bytes, all_bytes, region_fields_length, number_dropped, file_length, file_bytes, fitting_read_back, read_laid_down, row_of_numbers, file_written_back}
use Rattle.reader.proofs.NumberRows.{bytes_join}
use Rattle.levels.specs.Levels.{level_mark, level_total, level_fields, level_file, by_level, level_counts, level_file_of, in_file_order, without_counts, listed_family, counts_in, family_file_of}
use Rattle.levels.specs.Private.Listing.{Headed}
use Rattle.levels.proofs.Theory.RoundTrips.{counted_levels}
use Rattle.levels.proofs.Files.Listed.{header_number, body_number, listed_peptides, listed_leaves, listed_regions, HeaderFacts, header_facts, header_none, listed_fits}

-- what stands behind the header
abbrev body_of : Family → List ℕ
body_of F = F.lengths ++ region_fields F.regions

module _ (counts : List ℕ) (F : Family) where
  pub level_file_length : length counts ≡ 64 → length (level_file counts F) ≡ level_total (leaves F) (region_count F)
  unfolding level_file level_fields level_mark
  level_file_length e =
      omega (
        arith,
        length_bytes (level_fields counts F),
        length-append counts (F.lengths ++ region_fields F.regions),
        length-append F.lengths (region_fields F.regions),
        region_fields_length F.regions,
      )

  pub level_file_bytes : IsBytes (level_file counts F)
  unfolding level_file level_mark
  level_file_bytes zero = omega arith
  level_file_bytes (suc zero) = omega arith
  level_file_bytes (suc (suc zero)) = omega arith
  level_file_bytes (suc (suc (suc zero))) = omega arith
  level_file_bytes (suc (suc (suc (suc i)))) = all_bytes (level_fields counts F) i

  pub level_file_mark : take 4 (level_file counts F) ≡ level_mark
  unfolding level_file level_mark
  level_file_mark = refl

  -- the level counts and what comes after them
  behind_header : drop 16 (level_file counts F) ≡ bytes_of counts ++ bytes_of (body_of F)
  unfolding level_file level_fields level_mark bytes_of
  behind_header = bytes_join counts (body_of F)

  behind_counts : length counts ≡ 64 → drop 144 (level_file counts F) ≡ bytes_of (body_of F)
  behind_counts e =
      sym (drop-drop 128 16 (level_file counts F))
      ∙ ap (drop 128) behind_header
      ∙ drop_at (bytes_of counts) (bytes_of (body_of F)) 128 (omega (arith, length_bytes counts))

  level_file_parts : level_file counts F ≡ level_mark ++ (bytes_of (take 6 (level_fields counts F)) ++ (bytes_of counts ++ bytes_of (body_of F)))
  unfolding level_file level_fields bytes_of
  level_file_parts = ap (λ (l : List ℕ). level_mark ++ (bytes_of (take 6 (level_fields counts F)) ++ l)) (bytes_join counts (body_of F))

-- in a family file it stands behind the header
behind_family_header : (F : Family) → drop 16 (file_of F) ≡ bytes_of (body_of F)
unfolding file_of fields mark bytes_of
behind_family_header F = refl

pub family_same :
    (s t : List ℕ) → number_at s 4 ≡ number_at t 4 → number_at s 6 ≡ number_at t 6 → number_at s 8 ≡ number_at t 8
    → ((j : ℕ) → number_at s (16 + j) ≡ number_at t (16 + j)) → family_of s ≡ family_of t
unfolding family_of length_at region_at
family_same s t m n k same =
    let lengths : tabulate (number_at s 6) (length_at s) ≡ tabulate (number_at t 6) (length_at t) =
    rw n (tabulate_same (number_at t 6) (length_at s) (length_at t) (λ j h. same (2 * j))) in
    let region : (i : ℕ) → region_at s i ≡ region_at t i =
    λ i.
    let at : (j a : ℕ) → a ≡ 16 + j → number_at s a ≡ number_at t a = λ j a e. rw e (same j) in
    let o : ℕ = 16 + 2 * number_at t 6 + 6 * i in
    rw (n, at (2 * number_at t 6 + 6 * i) o (omega arith), at (2 * number_at t 6 + 6 * i + 2) (o + 2) (omega arith), at (2 * number_at t 6 + 6 * i + 4) (o + 4) (omega arith)) in
    let regions : tabulate (number_at s 8) (region_at s) ≡ tabulate (number_at t 8) (region_at t) =
    rw k (tabulate_same (number_at t 8) (region_at s) (region_at t) (λ i h. region i)) in
    λ i. record { peptides = m i; lengths = lengths i; regions = regions i }

pub record FitsLevels (counts : List ℕ) (F : Family) : Type 0 where
  pub counted : length counts ≡ 64
  pub small : (h : ℕ) → get_or counts h 0 < 65536
  pub family : Fits F
  pub total : level_total (leaves F) (region_count F) < 65536

module _ (counts : List ℕ) (F : Family) (fits : FitsLevels counts F) where
  level_number_6 : number_at (level_file counts F) 6 ≡ leaves F
  unfolding level_file level_fields level_mark bytes_of number_at
  level_number_6 = omega (arith, fits.total)

  level_number_8 : number_at (level_file counts F) 8 ≡ region_count F
  unfolding level_file level_fields level_mark bytes_of number_at
  level_number_8 = omega (arith, fits.total)

  level_number_12 : number_at (level_file counts F) 12 ≡ 144 + 2 * leaves F
  unfolding level_file level_fields level_mark bytes_of number_at
  level_number_12 = omega (arith, fits.total)

  level_number_14 : number_at (level_file counts F) 14 ≡ 144 + 2 * leaves F + 6 * region_count F
  unfolding level_file level_fields level_mark bytes_of number_at
  level_number_14 = omega (arith, fits.total)

  level_number_10 : number_at (level_file counts F) 10 ≡ 144
  unfolding level_file level_fields level_mark bytes_of number_at
  level_number_10 = refl

  pub level_laid_down : LaidDown 144 (level_file counts F)
  level_laid_down =
      let n = level_number_6 in
      let k = level_number_8 in
      record {
        lengths = level_number_10;
        regions = omega (arith, level_number_12);
        total = omega (arith, level_number_14);
        whole = omega (arith, level_file_length counts F fits.counted);
      }

  same_counts :
      record {
        peptides : number_at (level_file counts F) 4 ≡ number_at (file_of F) 4;
        leaves : number_at (level_file counts F) 6 ≡ number_at (file_of F) 6;
        regions : number_at (level_file counts F) 8 ≡ number_at (file_of F) 8;
      }
  unfolding level_file level_fields level_mark file_of fields mark bytes_of number_at
  same_counts = record { peptides = refl; leaves = refl; regions = refl }

  same_body : (j : ℕ) → number_at (without_counts (level_file counts F)) (16 + j) ≡ number_at (file_of F) (16 + j)
  same_body j =
      body_number (level_file counts F) j
      ∙ sym (number_dropped 144 (level_file counts F) j)
      ∙ ap (λ (l : List ℕ). number_at l j) (behind_counts counts F fits.counted ∙ sym (behind_family_header F))
      ∙ number_dropped 16 (file_of F) j

  pub level_read_back : listed_family (level_file counts F) ≡ F
  unfolding listed_family
  level_read_back =
      let head = header_number (level_file counts F) in
      family_same (without_counts (level_file counts F)) (file_of F)
      (head 4 (omega arith) ∙ same_counts.peptides)
      (head 6 (omega arith) ∙ same_counts.leaves)
      (head 8 (omega arith) ∙ same_counts.regions)
      same_body
      ∙ fitting_read_back F fits.family

  pub level_headed : cause2 F.peptides ≡ false → cause3 F ≡ false → cause4 F ≡ false → Headed (level_file counts F)
  level_headed no2 no3 no4 =
      header_none (level_file counts F)
      (omega (arith, level_file_length counts F fits.counted))
      (level_file_mark counts F)
      (rw level_read_back no2)
      (rw level_read_back no3)
      (rw level_read_back no4)
      level_laid_down

  -- The level counts, as the leaf lengths of a family are read.

  abbrev as_lengths : Family
  as_lengths = record { peptides = 0; lengths = counts; regions = [] }

  counts_fit : Fits as_lengths
  counts_fit =
      record {
        peptides = omega arith;
        total = omega (arith, fits.counted);
        lengths = fits.small;
        first = λ k h. absurd (omega arith);
        last = λ k h. absurd (omega arith);
        z = λ k h. absurd (omega arith);
      }

  count_byte : (i : ℕ) → i < 128 → get_or (level_file counts F) (16 + i) 0 ≡ get_or (file_of as_lengths) (16 + i) 0
  unfolding region_fields
  count_byte i h =
      let long : i < length (bytes_of counts) = omega (arith, length_bytes counts, fits.counted) in
      sym (get_or-drop 16 (level_file counts F) i 0)
      ∙ ap (λ (l : List ℕ). get_or l i 0) (behind_header counts F)
      ∙ get_or-append (bytes_of counts) (bytes_of (body_of F)) 0 i long
      ∙ sym (get_or-append (bytes_of counts) (bytes_of []) 0 i long)
      ∙ ap (λ (l : List ℕ). get_or l i 0) (sym (bytes_join counts []) ∙ sym (behind_family_header as_lengths))
      ∙ get_or-drop 16 (file_of as_lengths) i 0

  count_number : (h : ℕ) → h < 64 → number_at (level_file counts F) (16 + 2 * h) ≡ get_or counts h 0
  unfolding number_at
  count_number h l =
      let read : get_or counts h 0 ≡ number_at (file_of as_lengths) (16 + 2 * h) =
      ap (λ (G : Family). get_or G.lengths h 0) (sym (fitting_read_back as_lengths counts_fit))
      ∙ length_number (file_of as_lengths) h
      (omega (arith, leaves_read (file_of as_lengths), ap (λ (G : Family). leaves G) (fitting_read_back as_lengths counts_fit), fits.counted)) in
      let next : 16 + 2 * h + 1 ≡ 16 + (2 * h + 1) = omega arith in
      omega (
        arith,
        read,
        count_byte (2 * h) (omega arith),
        count_byte (2 * h + 1) (omega arith),
        ap (λ (k : ℕ). get_or (level_file counts F) k 0) next,
        ap (λ (k : ℕ). get_or (file_of as_lengths) k 0) next,
      )

  pub counts_read_back : counts_in (level_file counts F) ≡ counts
  unfolding counts_in
  counts_read_back =
      let f : ℕ → ℕ = λ h. number_at (level_file counts F) (16 + 2 * h) in
      ext_get_or 0 (tabulate 64 f) counts (length_tabulate 64 f ∙ sym fits.counted)
      (λ h l.
      let h64 : h < 64 = omega (arith, length_tabulate 64 f) in
      get_d_tabulate 64 f 0 h h64 ∙ count_number h h64)

-- The file of what is read from a file.

dropped_bytes : (n : ℕ) (s : List ℕ) → IsBytes s → IsBytes (drop n s)
dropped_bytes n s b i = subst (λ (x : ℕ). x < 256) (sym (get_or-drop n s i 0)) (b (n + i))

taken_bytes_lem : (n : ℕ) (s : List ℕ) → IsBytes s → IsBytes (take n s)
taken_bytes_lem n s b i =
    ⊎_elim
    (λ t. subst (λ (x : ℕ). x < 256) (sym (get_or-take n s i 0 (ltb-true i n t))) (b i))
    (λ f. rw (byte_past (take n s) i (omega (arith, length-take n s, ltb-false i n f))) (omega arith))
    (test (ltb i n))

-- n numbers in a row, of the bytes that stand from a byte on
row_at : (s : List ℕ) (a n : ℕ) → IsBytes s → a + 2 * n ≤ length s → bytes_of (tabulate n (λ i. number_at s (a + 2 * i))) ≡ take (2 * n) (drop a s)
row_at s a n b h =
    ap bytes_of (tabulate_same n (λ i. number_at s (a + 2 * i)) (λ i. number_at (take (2 * n) (drop a s)) (2 * i)) (λ i l. sym (inner i l)))
    ∙ row_of_numbers n (take (2 * n) (drop a s)) (taken_bytes_lem (2 * n) (drop a s) (dropped_bytes a s b)) (length-take-le (2 * n) (drop a s) (omega (arith, length-drop a s)))
  where
    inner : (i : ℕ) → i < n → number_at (take (2 * n) (drop a s)) (2 * i) ≡ number_at s (a + 2 * i)
    inner i l =
        unfold number_at in
        ap₂ (λ (x y : ℕ). x + 256 * y) (get_or-take (2 * n) (drop a s) (2 * i) 0 (omega arith)) (get_or-take (2 * n) (drop a s) (2 * i + 1) 0 (omega arith))
        ∙ number_dropped a s (2 * i)

parts_joined : (s : List ℕ) → take 4 s ++ (take 12 (drop 4 s) ++ (take 128 (drop 16 s) ++ drop 144 s)) ≡ s
parts_joined s =
    ap (λ (l : List ℕ). take 4 s ++ (take 12 (drop 4 s) ++ l)) (ap (λ (l : List ℕ). take 128 (drop 16 s) ++ l) (sym (drop-drop 128 16 s)) ∙ take-append-drop 128 (drop 16 s))
    ∙ ap (λ (l : List ℕ). take 4 s ++ l) (ap (λ (l : List ℕ). take 12 (drop 4 s) ++ l) (sym (drop-drop 12 4 s)) ∙ take-append-drop 12 (drop 4 s))
    ∙ take-append-drop 4 s

module _ (s : List ℕ) (b : IsBytes s) (h : Headed s) where
  facts : HeaderFacts s
  facts = header_facts s h

  -- the family file with the leaf lengths and the regions as they stand in the file by level
  abbrev T : List ℕ
  T = take 16 (file_of (listed_family s)) ++ drop 144 s

  long : 16 ≤ length (file_of (listed_family s))
  long = omega (arith, file_length (listed_family s))

  front_byte : (i : ℕ) → i < 16 → get_or T i 0 ≡ get_or (file_of (listed_family s)) i 0
  front_byte i l =
      get_or-append (take 16 (file_of (listed_family s))) (drop 144 s) 0 i (omega (arith, length-take-le 16 (file_of (listed_family s)) long))
      ∙ get_or-take 16 (file_of (listed_family s)) i 0 l

  front_number : (i : ℕ) → i + 2 ≤ 16 → number_at T i ≡ number_at (file_of (listed_family s)) i
  unfolding number_at
  front_number i l = rw (front_byte i (omega arith), front_byte (i + 1) (omega arith))

  behind_front : drop 16 T ≡ drop 144 s
  behind_front = drop_at (take 16 (file_of (listed_family s))) (drop 144 s) 16 (length-take-le 16 (file_of (listed_family s)) long)

  T-numbers :
      record { peptides : number_at T 4 ≡ number_at s 4; leaves : number_at T 6 ≡ number_at s 6; regions : number_at T 8 ≡ number_at s 8 }
  T-numbers =
      let back = fitting_read_back (listed_family s) (listed_fits s b h) in
      let file : List ℕ = file_of (listed_family s) in
      record {
        peptides = front_number 4 (omega arith) ∙ sym (peptides_read file) ∙ ap (λ (F : Family). F.peptides) back ∙ listed_peptides s;
        leaves = front_number 6 (omega arith) ∙ sym (leaves_read file) ∙ ap (λ (F : Family). leaves F) back ∙ listed_leaves s;
        regions = front_number 8 (omega arith) ∙ sym (regions_read file) ∙ ap (λ (F : Family). region_count F) back ∙ listed_regions s;
      }

  T-family : family_of T ≡ listed_family s
  unfolding listed_family
  T-family =
      let head = header_number s in
      family_same T (without_counts s)
      (T-numbers.peptides ∙ sym (head 4 (omega arith)))
      (T-numbers.leaves ∙ sym (head 6 (omega arith)))
      (T-numbers.regions ∙ sym (head 8 (omega arith)))
      (λ j.
      sym (number_dropped 16 T j)
      ∙ ap (λ (l : List ℕ). number_at l j) behind_front
      ∙ number_dropped 144 s j
      ∙ sym (body_number s j))

  T-laid : LaidDown 16 T
  T-laid =
      let file : List ℕ = file_of (listed_family s) in
      let laid = read_laid_down (listed_family s) (listed_fits s b h) in
      let n = T-numbers.leaves in
      let k = T-numbers.regions in
      let n6 = front_number 6 (omega arith) in
      let n8 = front_number 8 (omega arith) in
      record {
        lengths = front_number 10 (omega arith) ∙ laid.lengths;
        regions = omega (arith, front_number 12 (omega arith), laid.regions);
        total = omega (arith, front_number 14 (omega arith), laid.total);
        whole =
            omega
            (arith, length-append (take 16 file) (drop 144 s), length-take-le 16 file long, length-drop 144 s, facts.laid.whole);
      }

  T-bytes : IsBytes T
  T-bytes i =
      ⊎_elim
      (λ t. subst (λ (x : ℕ). x < 256) (sym (front_byte i (ltb-true i 16 t))) (file_bytes (listed_family s) i))
      (λ f.
      let e : 16 + (i - 16) ≡ i = omega (arith, ltb-false i 16 f) in
      subst (λ (k : ℕ). get_or T k 0 < 256) e
      (subst (λ (x : ℕ). x < 256)
      (sym (sym (get_or-drop 16 T (i - 16) 0) ∙ ap (λ (l : List ℕ). get_or l (i - 16) 0) behind_front ∙ get_or-drop 144 s (i - 16) 0))
      (b (144 + (i - 16)))))
      (test (ltb i 16))

  T-mark : take 4 T ≡ mark
  unfolding file_of fields mark bytes_of
  T-mark = refl

  -- what stands behind the level counts
  body_back : bytes_of (body_of (listed_family s)) ≡ drop 144 s
  body_back =
      sym (behind_family_header (listed_family s))
      ∙ ap (λ (F : Family). drop 16 (file_of F)) (sym T-family)
      ∙ ap (drop 16) (file_written_back T T-laid T-bytes T-mark)
      ∙ behind_front

  counts_back : bytes_of (counts_in s) ≡ take 128 (drop 16 s)
  unfolding counts_in
  counts_back = row_at s 16 64 b (omega (arith, facts.laid.whole))

  header_back : bytes_of (take 6 (level_fields (counts_in s) (listed_family s))) ≡ take 12 (drop 4 s)
  unfolding level_fields tabulate
  header_back =
      rw (
        listed_peptides s,
        listed_leaves s,
        listed_regions s,
        ← facts.laid.total,
        ← facts.laid.regions,
        ← facts.laid.lengths,
      )
      (row_at s 4 6 b (omega (arith, facts.laid.whole)))

  pub level_written_back : level_file (counts_in s) (listed_family s) ≡ s
  level_written_back = rw (level_file_parts (counts_in s) (listed_family s), header_back, counts_back, body_back, ← facts.marked) (parts_joined s)

-- The lengths of what is written.

pub to_length : (F : Family) → region_count (by_level F) ≡ region_count F → length (level_file_of F) ≡ length (file_of F) + 128
unfolding level_file_of by_level
to_length F e = omega (arith, level_file_length (level_counts F) (by_level F) (counted_levels F), file_length F)

pub from_length : (s : List ℕ) → Headed s → region_count (in_file_order (listed_family s)) ≡ region_count (listed_family s) → length (family_file_of s) + 128 ≡ length s
unfolding family_file_of in_file_order
from_length s h e = omega (arith, file_length (in_file_order (listed_family s)), (header_facts s h).whole)
