-- The layout of a file: what `family_of` reads as counts, lengths and regions.
--   peptides_read, leaves_read, regions_read   m, N and K of the family are the numbers at offsets 4, 6 and 8
--   length_read                                the j-th length, counted from 0, is the one that the layout has in its place
--   length_number                              and so the number at offset 16 + 2j
--   region_read                                the k-th region, counted from 0, is the one that the layout has in its place
--   region_past                                from K on every region is zeros
--   byte_past, number_past                     a byte, and a number, from the end of the file on is 0
--   region_none                                a file that ends with the header or in it has only regions of zeros
--   length_past, length_none                   a leaf number over N, and 0, has the length 0
--   length_leaf                                the length of leaf j + 1 is the one at place j
--   length_at_lem                                  the length of leaf j, from 1 to N, is the number at offset 14 + 2j
--   region_held                                a struct with the three numbers that the file has for the k-th region holds that region
--   held_first, held_last, held_z              the fields of a struct that holds a region
--   number_fits                                a number of a file of bytes is below 65,536
use Prim.Native.Nat.{ℕ, zero, suc, ◌+◌, ◌*◌, ◌<◌, ◌≤◌}
use native.Mathlib.Omega.{arith}
use mathlib.Core.Path.{◌≡◌, refl, ◌∙◌, ap}
use mathlib.Core.List.{List, ◌∷◌}
use mathlib.Core.Logic.{⊎_elim}
use lib.ListN.{length, get_or, get_or-eq_default}
use lib.Dec.{ltb}
use borrow.Author.Tests.{ltb-true, ltb-false}
use Rattle.reader.specs.Bytes.{IsBytes, number_at}
use Rattle.reader.specs.Family.{Region, Family, leaves, region_count, no_region, region, regions_offset, leaf_length, length_at, region_at, family_of}
use Rattle.reader.specs.declared.family.Region as struct
use Rattle.reader.specs.Calls.{held}
use Rattle.reader.proofs.Bools.{test}
use Rattle.reader.proofs.Lists.{length_tabulate, get_d_tabulate}

module _ (s : List ℕ) where
  pub peptides_read : (family_of s).peptides ≡ number_at s 4
  unfolding family_of
  peptides_read = refl

  pub leaves_read : leaves (family_of s) ≡ number_at s 6
  unfolding family_of
  leaves_read = length_tabulate (number_at s 6) (length_at s)

  pub regions_read : region_count (family_of s) ≡ number_at s 8
  unfolding family_of
  regions_read = length_tabulate (number_at s 8) (region_at s)

  pub length_read : (j : ℕ) → j < number_at s 6 → get_or (family_of s).lengths j 0 ≡ length_at s j
  unfolding family_of
  length_read j h = get_d_tabulate (number_at s 6) (length_at s) 0 j h

  pub length_number : (j : ℕ) → j < number_at s 6 → get_or (family_of s).lengths j 0 ≡ number_at s (16 + 2 * j)
  unfolding length_at
  length_number j h = length_read j h

  pub region_read : (k : ℕ) → k < number_at s 8 → region (family_of s) k ≡ region_at s k
  unfolding family_of region
  region_read k h = get_d_tabulate (number_at s 8) (region_at s) _ k h

  pub region_past : (k : ℕ) → number_at s 8 ≤ k → region (family_of s) k ≡ no_region
  unfolding region
  region_past k h = get_or-eq_default (family_of s).regions _ (omega (arith, regions_read))

-- What lies past the end counts as 0.
pub byte_past : (s : List ℕ) (i : ℕ) → length s ≤ i → get_or s i 0 ≡ 0
byte_past s i l = get_or-eq_default s 0 {n = i} l

pub number_past : (s : List ℕ) (i : ℕ) → length s ≤ i → number_at s i ≡ 0
unfolding number_at
number_past s i l = omega (arith, byte_past s i l, byte_past s (i + 1) (omega arith))

past_at : (s : List ℕ) → length s ≤ 16 → (k : ℕ) → region_at s k ≡ no_region
unfolding region_at
past_at s l k =
    let o : ℕ = 16 + 2 * number_at s 6 + 6 * k in
    rw (number_past s o (omega arith), number_past s (o + 2) (omega arith), number_past s (o + 4) (omega arith))

pub region_none : (s : List ℕ) → length s ≤ 16 → (k : ℕ) → region (family_of s) k ≡ no_region
region_none s l k =
    ⊎_elim
    (λ t. region_read s k (ltb-true k (number_at s 8) t) ∙ past_at s l k)
    (λ f. region_past s k (ltb-false k (number_at s 8) f))
    (test (ltb k (number_at s 8)))

pub length_past : (F : Family) (j : ℕ) → leaves F < j → leaf_length F j ≡ 0
unfolding leaf_length
length_past F j h = get_or-eq_default (0 ∷ F.lengths) 0 {n = j} (omega arith)

pub length_none : (F : Family) (j : ℕ) → j ≡ 0 → leaf_length F j ≡ 0
unfolding leaf_length
length_none F j e = rw e

pub length_leaf : (F : Family) (j : ℕ) → leaf_length F (suc j) ≡ get_or F.lengths j 0
unfolding leaf_length
length_leaf F j = refl

pub length_at_lem : (s : List ℕ) (j : ℕ) → (j ≡ 0 → ⊥) → j ≤ number_at s 6 → leaf_length (family_of s) j ≡ number_at s (14 + 2 * j)
unfolding length_at
length_at_lem s zero h l = absurd (h refl)
length_at_lem s (suc j) h l = length_leaf (family_of s) j ∙ length_read s j l ∙ ap (number_at s) (omega arith)

pub region_held :
    (s : List ℕ) (k o : ℕ) (r : struct.Region) → o ≡ regions_offset (number_at s 6) + 6 * k
    → r.first.0 ≡ number_at s o → r.last.0 ≡ number_at s (o + 2) → r.z ≡ number_at s (o + 4) → held r ≡ region_at s k
unfolding held region_at
region_held s k o r e a b z = rw (a, b, z, e)

module _ (r : struct.Region) (q : Region) (h : held r ≡ q) where
  pub held_first : r.first.0 ≡ q.first
  unfolding held
  held_first = ap (λ (t : Region). t.first) h

  pub held_last : r.last.0 ≡ q.last
  unfolding held
  held_last = ap (λ (t : Region). t.last) h

  pub held_z : r.z ≡ q.z
  unfolding held
  held_z = ap (λ (t : Region). t.z) h

pub number_fits : (s : List ℕ) → IsBytes s → (i : ℕ) → number_at s i < 65536
unfolding number_at
number_fits s b i = omega (arith, b i, b (i + 1))
