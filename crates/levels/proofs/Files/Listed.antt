-- What a PHFL file lists, read from its bytes: the file without its level counts has the numbers of the header where they stand, and
-- what comes after the level counts 128 bytes further on. None of this asks for a header without cause.
--   header_number                                    a number of the header is the same in the file without its level counts
--   body_number                                      a number behind the level counts is there 128 bytes earlier
--   listed_peptides, listed_leaves, listed_regions   m, N and K of what is listed are the numbers at offsets 4, 6 and 8
--   listed_counts                                    and so those of `family_of`
--   listed_lengths, listed_length, listed_region     the leaf lengths, the j-th of them and the k-th region, counted from 0, where the layout has them
--   listed_held                                      a struct with the three numbers that the file has for the k-th region holds it
--   family_lengths, family_region                    the same of a family file
--   counts_length, count_at                          the 64 level counts
--   HeaderFacts, header_facts                        what a header without cause says
--   header_none                                      the way back, from what the causes say one by one
--   header_few                                       such a file has at most 8,191 regions
--   listed_fits                                      the numbers of what it lists fit 2 bytes each
use Prim.Native.Nat.{ℕ, ◌+◌, ◌*◌, ◌-◌, ◌<◌, ◌≤◌}
use native.Mathlib.Omega.{arith}
use mathlib.Core.Bool.{false}
use mathlib.Core.List.{List, ◌++◌, append-nil}
use mathlib.Core.Path.{◌≡◌, refl, sym, ap, ◌∙◌}
use mathlib.Core.Logic.{⊎_elim}
use lib.ListN.{length, get_or, take, drop, drop_of_length-le, get_or-eq_default, get_or-append}
use lib.Seq.{take_all, length-take-le, get_or-take, get_or-drop, get_or-append-add}
use lib.Dec.{ltb}
use borrow.Author.Tests.{ltb-true, ltb-false}
use Rattle.reader.specs.Bytes.{IsBytes, number_at}
use Rattle.reader.specs.Family.{leaves, region_count, region, length_at, region_at, family_of}
use Rattle.reader.specs.declared.family.Region as struct
use Rattle.reader.specs.Causes.{first_cause, cause2, cause3, cause4}
use Rattle.reader.specs.Calls.{held}
use Rattle.reader.proofs.Bools.{test}
use Rattle.reader.proofs.Lists.{length_tabulate, get_d_tabulate, tabulate_same}
use Rattle.reader.proofs.Parsed.{peptides_read, leaves_read, regions_read, length_number, region_read, byte_past, number_fits}
use Rattle.reader.proofs.First.{head_clear}
use Rattle.reader.proofs.Judged.{LaidDown, mark_there, from_marked, peptides_counted, from_peptides_counted, leaves_counted, from_leaves_counted, regions_counted, from_regions_counted, laid_down, from_laid_down}
use Rattle.reader.proofs.Files.{Fits}
use Rattle.levels.specs.Levels.{level_mark, level_total, without_counts, listed_family, counts_in}
use Rattle.levels.specs.Causes.{level_header_causes}
use Rattle.levels.specs.Private.Listing.{Headed}
use Rattle.levels.specs.Private.Writing.{numbers_from, region_from}

module _ (s : List ℕ) where
  -- a file that ends in its header is the same without its level counts
  ends_in_header : length s < 16 → without_counts s ≡ s
  unfolding without_counts
  ends_in_header h = rw (take_all 16 s (omega arith), drop_of_length-le s {i = 144} (omega arith), append-nil s)

  header_byte : (i : ℕ) → i < 16 → get_or (without_counts s) i 0 ≡ get_or s i 0
  unfolding without_counts
  header_byte i h =
      ⊎_elim
      (λ t. ap (λ (l : List ℕ). get_or l i 0) (ends_in_header (ltb-true (length s) 16 t)))
      (λ f.
      let long : 16 ≤ length s = ltb-false (length s) 16 f in
      get_or-append (take 16 s) (drop 144 s) 0 i (omega (arith, length-take-le 16 s long)) ∙ get_or-take 16 s i 0 h)
      (test (ltb (length s) 16))

  body_byte : (j : ℕ) → get_or (without_counts s) (16 + j) 0 ≡ get_or s (144 + j) 0
  unfolding without_counts
  body_byte j =
      ⊎_elim
      (λ t.
      let short : length s < 16 = ltb-true (length s) 16 t in
      ap (λ (l : List ℕ). get_or l (16 + j) 0) (ends_in_header short) ∙ byte_past s (16 + j) (omega arith) ∙ sym (byte_past s (144 + j) (omega arith)))
      (λ f.
      let long : length (take 16 s) ≡ 16 = length-take-le 16 s (ltb-false (length s) 16 f) in
      ap (λ (n : ℕ). get_or (take 16 s ++ drop 144 s) (n + j) 0) (sym long) ∙ get_or-append-add (take 16 s) (drop 144 s) j 0 ∙ get_or-drop 144 s j 0)
      (test (ltb (length s) 16))

  pub header_number : (i : ℕ) → i + 2 ≤ 16 → number_at (without_counts s) i ≡ number_at s i
  unfolding number_at
  header_number i h = rw (header_byte i (omega arith), header_byte (i + 1) (omega arith))

  pub body_number : (j : ℕ) → number_at (without_counts s) (16 + j) ≡ number_at s (144 + j)
  unfolding number_at
  body_number j =
      omega
      (arith, body_byte j, body_byte (j + 1), ap (λ (k : ℕ). get_or (without_counts s) k 0) (regroup 16 j), ap (λ (k : ℕ). get_or s k 0) (regroup 144 j))
    where
      regroup : (a j : ℕ) → a + j + 1 ≡ a + (j + 1)
      regroup a j = omega arith

  pub listed_peptides : (listed_family s).peptides ≡ number_at s 4
  unfolding listed_family
  listed_peptides = peptides_read (without_counts s) ∙ header_number 4 (omega arith)

  pub listed_leaves : leaves (listed_family s) ≡ number_at s 6
  unfolding listed_family
  listed_leaves = leaves_read (without_counts s) ∙ header_number 6 (omega arith)

  pub listed_regions : region_count (listed_family s) ≡ number_at s 8
  unfolding listed_family
  listed_regions = regions_read (without_counts s) ∙ header_number 8 (omega arith)

  pub listed_counts :
      record {
        peptides : (listed_family s).peptides ≡ (family_of s).peptides;
        leaves : leaves (listed_family s) ≡ leaves (family_of s);
        regions : region_count (listed_family s) ≡ region_count (family_of s);
      }
  listed_counts =
      record {
        peptides = listed_peptides ∙ sym (peptides_read s);
        leaves = listed_leaves ∙ sym (leaves_read s);
        regions = listed_regions ∙ sym (regions_read s);
      }

  pub listed_lengths : numbers_from s 144 (number_at s 6) ≡ (listed_family s).lengths
  unfolding listed_family family_of numbers_from length_at
  listed_lengths =
      rw (header_number 6 (omega arith))
      (tabulate_same (number_at s 6) (λ j. number_at s (144 + 2 * j)) (λ j. number_at (without_counts s) (16 + 2 * j)) (λ j h. sym (body_number (2 * j))))

  pub listed_length : (j : ℕ) → j < number_at s 6 → get_or (listed_family s).lengths j 0 ≡ number_at s (144 + 2 * j)
  unfolding listed_family
  listed_length j h = length_number (without_counts s) j (omega (arith, header_number 6 (omega arith))) ∙ body_number (2 * j)

  pub listed_region : (k : ℕ) → k < number_at s 8 → region_from s (144 + 2 * number_at s 6) k ≡ region (listed_family s) k
  unfolding listed_family region_from region_at
  listed_region k h =
      let N : ℕ = number_at s 6 in
      let n : number_at (without_counts s) 6 ≡ N = header_number 6 (omega arith) in
      let number : (j a b : ℕ) → a ≡ 144 + j → b ≡ 16 + j → number_at s a ≡ number_at (without_counts s) b = λ j a b x y. rw (x, y) (sym (body_number j)) in
      let first : number_at s (144 + 2 * N + 6 * k) ≡ number_at (without_counts s) (16 + 2 * number_at (without_counts s) 6 + 6 * k) =
      number (2 * N + 6 * k) _ _ (omega arith) (omega arith) in
      let last : number_at s (144 + 2 * N + 6 * k + 2) ≡ number_at (without_counts s) (16 + 2 * number_at (without_counts s) 6 + 6 * k + 2) =
      number (2 * N + 6 * k + 2) _ _ (omega arith) (omega arith) in
      let z : number_at s (144 + 2 * N + 6 * k + 4) ≡ number_at (without_counts s) (16 + 2 * number_at (without_counts s) 6 + 6 * k + 4) =
      number (2 * N + 6 * k + 4) _ _ (omega arith) (omega arith) in
      rw (region_read (without_counts s) k (omega (arith, header_number 8 (omega arith)))) (λ i. record { first = first i; last = last i; z = z i })

  pub listed_held :
      (k o : ℕ) (r : struct.Region) → k < number_at s 8 → o ≡ 144 + 2 * number_at s 6 + 6 * k
      → r.first.0 ≡ number_at s o → r.last.0 ≡ number_at s (o + 2) → r.z ≡ number_at s (o + 4) → held r ≡ region (listed_family s) k
  unfolding held region_from
  listed_held k o r h e a b z = rw (a, b, z, e) (listed_region k h)

  pub family_lengths : numbers_from s 16 (number_at s 6) ≡ (family_of s).lengths
  unfolding family_of numbers_from length_at
  family_lengths = refl

  pub family_region : (k : ℕ) → k < number_at s 8 → region_from s (16 + 2 * number_at s 6) k ≡ region (family_of s) k
  unfolding region_from region_at
  family_region k h = sym (region_read s k h)

  pub counts_length : length (counts_in s) ≡ 64
  unfolding counts_in
  counts_length = length_tabulate 64 (λ h. number_at s (16 + 2 * h))

  pub count_at : (h : ℕ) → h < 64 → get_or (counts_in s) h 0 ≡ number_at s (16 + 2 * h)
  unfolding counts_in
  count_at h l = get_d_tabulate 64 (λ h. number_at s (16 + 2 * h)) 0 h l

-- What a header without cause says.

pub record HeaderFacts (s : List ℕ) : Type 0 where
  pub long : 16 ≤ length s
  pub marked : take 4 s ≡ level_mark
  pub peptides_some : 1 ≤ (listed_family s).peptides
  pub peptides_most : (listed_family s).peptides ≤ 4096
  pub leaves_some : 1 ≤ leaves (listed_family s)
  pub leaves_most : leaves (listed_family s) ≤ 4096
  pub regions_most : region_count (listed_family s) ≤ 2 * leaves (listed_family s) - 1
  pub laid : LaidDown 144 s
  pub whole : length s ≡ level_total (leaves (listed_family s)) (region_count (listed_family s))
  pub no2 : cause2 (listed_family s).peptides ≡ false
  pub no3 : cause3 (listed_family s) ≡ false
  pub no4 : cause4 (listed_family s) ≡ false

module _ (s : List ℕ) where
  pub header_facts : Headed s → HeaderFacts s
  unfolding level_header_causes
  header_facts h =
      let a = head_clear _ _ (omega arith) h in
      let b = head_clear _ _ (omega arith) a.1 in
      let c = head_clear _ _ (omega arith) b.1 in
      let d = head_clear _ _ (omega arith) c.1 in
      let e = head_clear _ _ (omega arith) d.1 in
      let same = listed_counts s in
      let m = peptides_counted (family_of s).peptides b.0 in
      let n = leaves_counted (family_of s) c.0 in
      let k = regions_counted (family_of s) d.0 in
      let laid = laid_down 144 s e.0 in
      let m1 : 1 ≤ (listed_family s).peptides = omega (arith, same.peptides, m.0) in
      let m2 : (listed_family s).peptides ≤ 4096 = omega (arith, same.peptides, m.1) in
      let n1 : 1 ≤ leaves (listed_family s) = omega (arith, same.leaves, n.0) in
      let n2 : leaves (listed_family s) ≤ 4096 = omega (arith, same.leaves, n.1) in
      let most : region_count (listed_family s) ≤ 2 * leaves (listed_family s) - 1 = omega (arith, same.leaves, same.regions, k) in
      record {
        long = (mark_there level_mark s a.0).0;
        marked = (mark_there level_mark s a.0).1;
        peptides_some = m1;
        peptides_most = m2;
        leaves_some = n1;
        leaves_most = n2;
        regions_most = most;
        laid = laid;
        whole = omega (arith, laid.whole, listed_leaves s, listed_regions s);
        no2 = from_peptides_counted (listed_family s).peptides m1 m2;
        no3 = from_leaves_counted (listed_family s) n1 n2;
        no4 = from_regions_counted (listed_family s) most;
      }

  -- all that the causes say, from which the rest of the record follows
  pub header_none :
      16 ≤ length s → take 4 s ≡ level_mark → cause2 (listed_family s).peptides ≡ false → cause3 (listed_family s) ≡ false → cause4 (listed_family s) ≡ false
      → LaidDown 144 s → Headed s
  unfolding level_header_causes first_cause
  header_none long marked no2 no3 no4 laid =
      let same = listed_counts s in
      let m = peptides_counted (listed_family s).peptides no2 in
      let n = leaves_counted (listed_family s) no3 in
      let k = regions_counted (listed_family s) no4 in
      rw (
        from_marked level_mark s long marked,
        from_peptides_counted (family_of s).peptides (omega (arith, same.peptides, m.0)) (omega (arith, same.peptides, m.1)),
        from_leaves_counted (family_of s) (omega (arith, same.leaves, n.0)) (omega (arith, same.leaves, n.1)),
        from_regions_counted (family_of s) (omega (arith, same.leaves, same.regions, k)),
        from_laid_down 144 s laid,
      )

  pub header_few : Headed s → region_count (listed_family s) ≤ 8191
  header_few h = let f = header_facts h in omega (arith, f.leaves_most, f.regions_most)

  fits_length : IsBytes s → (j : ℕ) → get_or (listed_family s).lengths j 0 < 65536
  fits_length b j =
      ⊎_elim
      (λ t. rw (listed_length s j (omega (arith, listed_leaves s, ltb-true j (leaves (listed_family s)) t))) (number_fits s b _))
      (λ p. rw (get_or-eq_default (listed_family s).lengths 0 {n = j} (ltb-false j (leaves (listed_family s)) p)) (omega arith))
      (test (ltb j (leaves (listed_family s))))

  fits_region :
      IsBytes s → (k : ℕ) → k < region_count (listed_family s)
      → record { first : (region (listed_family s) k).first < 65536; last : (region (listed_family s) k).last < 65536; z : (region (listed_family s) k).z < 65536 }
  unfolding region_from
  fits_region b k l =
      rw (← listed_region s k (omega (arith, listed_regions s))) (record { first = number_fits s b _; last = number_fits s b _; z = number_fits s b _ })

  pub listed_fits : IsBytes s → Headed s → Fits (listed_family s)
  listed_fits b h =
      let f = header_facts h in
      record {
        peptides = omega (arith, f.peptides_most);
        total = omega (arith, f.leaves_most, f.regions_most);
        lengths = fits_length b;
        first = λ k l. (fits_region b k l).first;
        last = λ k l. (fits_region b k l).last;
        z = λ k l. (fits_region b k l).z;
      }
