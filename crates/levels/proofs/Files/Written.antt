-- A file is written in runs of stores: its mark and header, the level counts where it has them, the leaf lengths, the regions' numbers.
--   at_start_lem         a run from the start on that fits
--   level_written    the runs of a file by level, one after the other, leave it at the start of the output
--   family_written   those of a family file
use Prim.Native.Nat.{ℕ, ◌+◌, ◌*◌, ◌≤◌}
use native.Mathlib.Nat.{zero-add}
use native.Mathlib.Omega.{arith}
use mathlib.Core.List.{List, ◌++◌, append_assoc}
use mathlib.Core.Path.{◌≡◌, refl, sym, ap, ◌∙◌}
use lib.ListN.{length, drop, length-append}
use lib.Seq.{sets, sets-eq}
use Rattle.reader.specs.Bytes.{bytes_of, with_numbers}
use Rattle.reader.specs.Family.{Family, leaves, region_count, total_length, mark, region_fields, fields, file_of}
use Rattle.reader.specs.Calls.{at_start}
use Rattle.reader.proofs.Files.{file_length}
use Rattle.reader.proofs.NumberRows.{sets_join, numbers_join}
use Rattle.levels.specs.Levels.{level_mark, level_total, level_fields, level_file}
use Rattle.levels.specs.Private.Writing.{header_numbers}
use Rattle.levels.proofs.Files.LevelFiles.{level_file_length}

pub at_start_lem : (new out : List ℕ) → length new ≤ length out → sets out 0 new ≡ at_start new out
at_start_lem new out h = sets-eq new out 0 (omega arith) ∙ ap (λ (n : ℕ). new ++ drop n out) (zero-add (length new))

-- The mark and a header in one run, then two rows of numbers, are the mark, then all numbers in a row.
module _ (m header xs ys out one two three : List ℕ) (p q : ℕ) where
  rows_written :
      length m ≡ 4 → p ≡ 4 + 2 * length header → q ≡ p + 2 * length xs → length (m ++ bytes_of (header ++ (xs ++ ys))) ≤ length out
      → one ≡ with_numbers (sets out 0 m) 4 header
      → two ≡ with_numbers one p xs
      → three ≡ with_numbers two q ys
      → three ≡ at_start (m ++ bytes_of (header ++ (xs ++ ys))) out
  unfolding with_numbers
  rows_written e ep eq room a b c =
      let base : List ℕ = sets out 0 m in
      let all : List ℕ = header ++ (xs ++ ys) in
      let two_is : two ≡ with_numbers base 4 (header ++ xs) =
      b ∙ ap (λ (l : List ℕ). with_numbers l p xs) a ∙ numbers_join base 4 header xs p ep in
      let three-is : three ≡ with_numbers base 4 ((header ++ xs) ++ ys) =
      c ∙ ap (λ (l : List ℕ). with_numbers l q ys) two_is ∙ numbers_join base 4 (header ++ xs) ys q (omega (arith, length-append header xs)) in
      three-is
      ∙ ap (with_numbers base 4) (append_assoc header xs ys)
      ∙ sets_join out 0 m (bytes_of all) 4 (omega arith)
      ∙ at_start_lem (m ++ bytes_of all) out room

-- the mark and the header in one run are the mark, then the six numbers
header_first : (m ns out : List ℕ) → length m ≡ 4 → sets out 0 (m ++ bytes_of ns) ≡ with_numbers (sets out 0 m) 4 ns
unfolding with_numbers
header_first m ns out e = sym (sets_join out 0 m (bytes_of ns) 4 (omega arith))

module _ (counts : List ℕ) (F : Family) (out one two three four : List ℕ) where
  pub level_written :
      length counts ≡ 64 → level_total (leaves F) (region_count F) ≤ length out
      → one ≡ sets out 0 (level_mark ++ bytes_of (header_numbers F.peptides (leaves F) (region_count F) 144))
      → two ≡ with_numbers one 16 counts
      → three ≡ with_numbers two 144 F.lengths
      → four ≡ with_numbers three (144 + 2 * leaves F) (region_fields F.regions)
      → four ≡ at_start (level_file counts F) out
  unfolding level_file level_fields level_mark header_numbers
  level_written e room a b c d =
      let base : List ℕ = sets out 0 level_mark in
      let header : List ℕ = header_numbers F.peptides (leaves F) (region_count F) 144 in
      let two_is : two ≡ with_numbers base 4 (header ++ counts) =
      b ∙ ap (λ (l : List ℕ). with_numbers l 16 counts) (a ∙ header_first level_mark header out refl) ∙ numbers_join base 4 header counts 16 refl in
      rows_written level_mark (header ++ counts) F.lengths (region_fields F.regions) out two three four 144 (144 + 2 * leaves F)
      refl
      (omega (arith, length-append header counts))
      refl
      (omega (arith, level_file_length counts F e))
      two_is
      c
      d

module _ (F : Family) (out one two three : List ℕ) where
  pub family_written :
      total_length (leaves F) (region_count F) ≤ length out
      → one ≡ sets out 0 (mark ++ bytes_of (header_numbers F.peptides (leaves F) (region_count F) 16))
      → two ≡ with_numbers one 16 F.lengths
      → three ≡ with_numbers two (16 + 2 * leaves F) (region_fields F.regions)
      → three ≡ at_start (file_of F) out
  unfolding file_of fields mark header_numbers
  family_written room a b c =
      let header : List ℕ = header_numbers F.peptides (leaves F) (region_count F) 16 in
      rows_written mark header F.lengths (region_fields F.regions) out one two three 16 (16 + 2 * leaves F)
      refl
      refl
      refl
      (omega (arith, file_length F))
      (a ∙ header_first mark header out refl)
      b
      c
