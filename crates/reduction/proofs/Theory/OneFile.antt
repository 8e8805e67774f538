-- The reduced file is the one form of an accepted file: an accepted file with the same curves, the same for all files with these curves,
-- and no longer than any of them.
use Prim.Native.Nat.{ℕ, zero, suc, ◌≤◌}
use mathlib.Core.List.{List}
use mathlib.Core.Path.{◌≡◌, sym, ◌∙◌, ap}
use native.Mathlib.Omega.{arith}
use lib.ListN.{length}
use Rattle.reader.specs.Bytes.{IsBytes}
use Rattle.reader.specs.Family.{leaves, leaf_length, family_of, file_of}
use Rattle.reader.specs.Causes.{Accepted}
use Rattle.reader.specs.WellFormed.{WellFormed}
use Rattle.reader.proofs.Accepting.{well_formed_lem}
use Rattle.reader.proofs.Parsed.{length_leaf}
use Rattle.reader.proofs.Files.{file_length, file_bytes, read_back, file_accepted, accepted_written_back}
use Rattle.reduction.specs.Reduction.{reduced_family, reduced_file}
use Rattle.reduction.specs.Alike.{Alike}
use Rattle.reduction.proofs.Theory.WrittenFamily.{lengths_some}
use Rattle.reduction.proofs.Theory.Accepted.{reduced_wellformed}
use Rattle.reduction.proofs.Theory.OneForm.{reduced_alike, alike_equal, equal_alike, reduced_again, NoLarger, reduced_fits, reduced_smallest}

-- the length of an accepted file
accepted_length : (s : List ℕ) → IsBytes s → Accepted s → length (file_of (family_of s)) ≡ length s
accepted_length s b a = ap length (accepted_written_back s b a)

module _ (f : List ℕ) (bytes : IsBytes f) (accepted : Accepted f) where
  family : WellFormed (family_of f)
  family = well_formed_lem f bytes accepted

  reduced_family_lem : WellFormed (reduced_family (family_of f))
  reduced_family_lem = reduced_wellformed (family_of f) family

  -- The reduced file is accepted, and holds the reduced family.
  pub reduced_accepted : Accepted (reduced_file f)
  unfolding reduced_file
  reduced_accepted = file_accepted (reduced_family (family_of f)) reduced_family_lem

  pub reduced_bytes : IsBytes (reduced_file f)
  unfolding reduced_file
  reduced_bytes = file_bytes (reduced_family (family_of f))

  pub reduced_read : family_of (reduced_file f) ≡ reduced_family (family_of f)
  unfolding reduced_file
  reduced_read = read_back (reduced_family (family_of f)) reduced_family_lem

  -- It has the same curves, and is its own reduced file.
  pub reduced_file_alike : Alike (family_of f) (family_of (reduced_file f))
  reduced_file_alike = rw reduced_read (reduced_alike (family_of f) family)

  pub reduced_file_again : reduced_file (reduced_file f) ≡ reduced_file f
  reduced_file_again = unfold reduced_file in ap file_of (ap reduced_family reduced_read ∙ reduced_again (family_of f) family)

  -- None of its leaves is empty.
  pub reduced_file_measured : (j : ℕ) → 1 ≤ j → j ≤ leaves (family_of (reduced_file f)) → 1 ≤ leaf_length (family_of (reduced_file f)) j
  unfolding reduced_family
  reduced_file_measured = rw reduced_read all
    where
      all : (j : ℕ) → 1 ≤ j → j ≤ leaves (reduced_family (family_of f)) → 1 ≤ leaf_length (reduced_family (family_of f)) j
      all zero some h = absurd (omega arith)
      all (suc j) some h = rw (length_leaf (reduced_family (family_of f)) j) (lengths_some _ _ j (omega arith))

  -- It is no longer than the file, so an output as long as the file suffices.
  pub reduced_file_fits : length (reduced_file f) ≤ length f
  unfolding reduced_file
  reduced_file_fits =
      let F = family_of f in
      omega (arith, (reduced_fits F family).bytes, file_length (reduced_family F), file_length F, accepted_length f bytes accepted)

module _ (f g : List ℕ) (f-bytes : IsBytes f) (g-bytes : IsBytes g) (f-accepted : Accepted f) (g-accepted : Accepted g) where
  F-formed : WellFormed (family_of f)
  F-formed = well_formed_lem f f-bytes f-accepted

  G-formed : WellFormed (family_of g)
  G-formed = well_formed_lem g g-bytes g-accepted

  -- Files with the same curves have the same reduced file,
  pub alike_same_file : Alike (family_of f) (family_of g) → reduced_file f ≡ reduced_file g
  unfolding reduced_file
  alike_same_file a = ap file_of (alike_equal (family_of f) (family_of g) F-formed G-formed a)

  -- files with the same reduced file have the same curves,
  pub same_file_alike : reduced_file f ≡ reduced_file g → Alike (family_of f) (family_of g)
  same_file_alike e =
      equal_alike (family_of f) (family_of g) F-formed G-formed
      (sym (reduced_read f f-bytes f-accepted) ∙ ap family_of e ∙ reduced_read g g-bytes g-accepted)

  -- and no file with the same curves is smaller.
  pub smallest_file : Alike (family_of f) (family_of g) → NoLarger (family_of (reduced_file f)) (family_of g) × (length (reduced_file f) ≤ length g)
  unfolding reduced_file
  smallest_file a =
      let s = reduced_smallest (family_of f) (family_of g) F-formed G-formed a in (
        rw (reduced_read f f-bytes f-accepted) s,
        omega (arith, s.bytes, file_length (reduced_family (family_of f)), file_length (family_of g), accepted_length g g-bytes g-accepted),
      )
