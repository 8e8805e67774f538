-- Demand 3: the reduced file is the one form of a family. Every sentence of it, over all accepted files.
-- `Alike F G` says that F and G have the same number m of peptides and, for every path, the same curve; `SameBounds F G` that they have the
-- same m and, for every selection, the same bound.
use Prim.Native.Nat.{ℕ, ◌≤◌}
use mathlib.Core.Bool.{Bool, true, false}
use mathlib.Core.List.{List, [], ◌∷◌}
use mathlib.Core.Path.{◌≡◌, refl, sym, ap, ◌∙◌}
use native.Mathlib.Omega.{arith}
use lib.ListN.{length, get_or, take, drop}
use lib.Seq.{take_at, drop_at}
use Rattle.std.specs.Prelude.{Result, Ok, Err}
use Rattle.reader.specs.Lists.{same_list}
use Rattle.reader.specs.Bytes.{IsBytes, number_at}
use Rattle.reader.specs.Family.{Family, leaves, region_count, leaf_length, family_of}
use Rattle.reader.specs.Causes.{first_cause, Accepted, AcceptedFile}
use Rattle.reader.specs.declared.refusal.Refusal.{Refusal}
use Rattle.reader.specs.Refusals.{Report}
use Rattle.reader.proofs.Lists.{same_equal, same_is, not_same}
use Rattle.reader.proofs.First.{answers, writes}
use Rattle.reader.proofs.Refusals.{some_holds, learns_ok, learns_err}
use Rattle.reader.proofs.Parsed.{regions_read}
use Rattle.reader.proofs.Judged.{laid_down}
use Rattle.reader.proofs.Accepting.{accepted_header}
use Rattle.bounds.proofs.Basics.Members.{bit}
use Rattle.bounds.specs.Curves.{curve_values}
use Rattle.bounds.specs.AcceptedCalls.{CurveCall}
use Rattle.bounds.proofs.Theory.Family.{accepted_laminar}
use Rattle.bounds.proofs.DemandTwo.{value_left}
use Rattle.reduction.specs.Reduction.{reduced_file}
use Rattle.reduction.specs.Alike.{Alike, SameBounds}
use Rattle.reduction.specs.declared.Size.{Size}
use Rattle.reduction.specs.declared.PairRefusal.{PairRefusal}
use Rattle.reduction.specs.Calls.{size_values, reduce_causes, reduced_counts, report_compared, compare_causes, comparison, ReduceAnswers, ReduceWrites, SameAnswers}
use Rattle.reduction.proofs.Theory.Curves.{bounds_alike, alike_bounds}
use Rattle.reduction.proofs.Theory.OneForm.{NoLarger}
use Rattle.reduction.proofs.Theory.OneFile.{reduced_accepted, reduced_bytes, reduced_file_alike, reduced_file_measured, reduced_file_again, reduced_file_fits, alike_same_file, same_file_alike, smallest_file}
use Rattle.reduction.proofs.Calls.ReduceCalls.{output_suffices, both_accepted, pair_some}

-- the answer has the length and the K of the reduced file, which is as many of the first bytes of the output; the rest is unchanged
pub record WrittenAt (file out : List ℕ) (r : Result Size Refusal) (new : List ℕ) : Type 0 where
  pub bytes : ℕ
  pub regions : ℕ
  pub counted : r ≡ Ok (record { length = bytes; regions = regions })
  pub whole : bytes ≡ length (reduced_file file)
  -- as they stand in it at offsets 14 and 8
  pub said_bytes : bytes ≡ number_at (reduced_file file) 14
  pub said : regions ≡ number_at (reduced_file file) 8
  pub start : take bytes new ≡ reduced_file file
  pub rest : drop bytes new ≡ drop bytes out

pub record DemandThree : Type 0 where
  -- The reduced file is bytes, and an accepted file,
  pub is_bytes : (f : AcceptedFile) → IsBytes (reduced_file f.file)
  pub is_accepted : (f : AcceptedFile) → Accepted (reduced_file f.file)
  -- with the m of the family and, for every path, its curve.
  pub keeps_curves : (f : AcceptedFile) → Alike (family_of f.file) (family_of (reduced_file f.file))
  -- No leaf of it is empty.
  pub no_empty_leaf : (f : AcceptedFile) (j : ℕ) → 1 ≤ j → j ≤ leaves (family_of (reduced_file f.file)) → 1 ≤ leaf_length (family_of (reduced_file f.file)) j
  -- It reduces to itself.
  pub again : (f : AcceptedFile) → reduced_file (reduced_file f.file) ≡ reduced_file f.file
  -- Two files have equal reduced files exactly when they have the same m and, for every path, the same curve,
  pub equal_if_alike : (f g : AcceptedFile) → Alike (family_of f.file) (family_of g.file) → reduced_file f.file ≡ reduced_file g.file
  pub alike_if_equal : (f g : AcceptedFile) → reduced_file f.file ≡ reduced_file g.file → Alike (family_of f.file) (family_of g.file)
  -- and exactly when they have the same m and, for every selection, the same bound.
  pub equal_if_same_bounds : (f g : AcceptedFile) → SameBounds (family_of f.file) (family_of g.file) → reduced_file f.file ≡ reduced_file g.file
  pub same_bounds_if_equal : (f g : AcceptedFile) → reduced_file f.file ≡ reduced_file g.file → SameBounds (family_of f.file) (family_of g.file)
  -- So `curve` leaves the same values for both, at every t of every path.
  pub equal_values : (f g : AcceptedFile) (c : CurveCall f) (d : CurveCall g) → reduced_file f.file ≡ reduced_file g.file → c.path ≡ d.path
      → (t : ℕ) → t ≤ length c.path → get_or c.values t 0 ≡ get_or d.values t 0
  -- Every file with this m and these curves has at least as many regions, and is at least as long.
  pub fewest_regions : (f g : AcceptedFile) → Alike (family_of f.file) (family_of g.file)
      → region_count (family_of (reduced_file f.file)) ≤ region_count (family_of g.file)
  pub shortest : (f g : AcceptedFile) → Alike (family_of f.file) (family_of g.file) → length (reduced_file f.file) ≤ length g.file
  -- It is no longer than the file, so an output as long as the file suffices.
  pub fits : (f : AcceptedFile) → length (reduced_file f.file) ≤ length f.file
  -- By its two promises `reduce` writes this file,
  pub reduces : (f : AcceptedFile) (out new : List ℕ) (r : Result Size Refusal) → length f.file ≤ length out → ReduceAnswers f.file out r → ReduceWrites f.file out new → WrittenAt f.file out r new
  -- and the K and the length that it answers are at most those of any file with this m and these curves.
  pub fewest_answered : (f g : AcceptedFile) (out : List ℕ) (size : Size) → ReduceAnswers f.file out (Ok size)
      → Alike (family_of f.file) (family_of g.file) → size.regions ≤ region_count (family_of g.file)
  pub shortest_answered : (f g : AcceptedFile) (out : List ℕ) (size : Size) → ReduceAnswers f.file out (Ok size)
      → Alike (family_of f.file) (family_of g.file) → size.length ≤ length g.file
  -- By its promise `same` says yes exactly when the two families are alike,
  pub alike_if_same : (f g : AcceptedFile) (r : Result Bool PairRefusal) → SameAnswers f.file g.file r → r ≡ Ok true → Alike (family_of f.file) (family_of g.file)
  pub same_if_alike : (f g : AcceptedFile) (r : Result Bool PairRefusal) → SameAnswers f.file g.file r → Alike (family_of f.file) (family_of g.file) → r ≡ Ok true
  -- and no, not a refusal, when they are not; so for different m it is a plain no,
  pub no_if_unlike : (f g : AcceptedFile) (r : Result Bool PairRefusal) → SameAnswers f.file g.file r → (Alike (family_of f.file) (family_of g.file) → ⊥) → r ≡ Ok false
  pub no_if_other_m : (f g : AcceptedFile) (r : Result Bool PairRefusal) → SameAnswers f.file g.file r → ((family_of f.file).peptides ≡ (family_of g.file).peptides → ⊥) → r ≡ Ok false
  -- and yes exactly when they have the same bounds.
  pub same_bounds_if_same : (f g : AcceptedFile) (r : Result Bool PairRefusal) → SameAnswers f.file g.file r → r ≡ Ok true → SameBounds (family_of f.file) (family_of g.file)
  pub same_if_same_bounds : (f g : AcceptedFile) (r : Result Bool PairRefusal) → SameAnswers f.file g.file r → SameBounds (family_of f.file) (family_of g.file) → r ≡ Ok true

-- The promises.

-- the length stands in the reduced file at offset 14
length_said : (f : AcceptedFile) → number_at (reduced_file f.file) 14 ≡ length (reduced_file f.file)
length_said f =
    let s = reduced_file f.file in
    let l = laid_down 16 s (accepted_header s (reduced_accepted f.file f.bytes f.accepted)).no5 in
    omega arith

module _ (f : AcceptedFile) (out : List ℕ) (room : length f.file ≤ length out) where
  no_cause : first_cause (reduce_causes f.file out) ≡ 0
  no_cause = output_suffices f.file out f.accepted room

  reduces_to : (r : Result Size Refusal) (new : List ℕ) → ReduceAnswers f.file out r → ReduceWrites f.file out new → WrittenAt f.file out r new
  unfolding reduced_counts
  reduces_to (Ok size) new p w =
      let s = reduced_file f.file in
      let e = (learns_ok size_values (reduce_causes f.file out) (reduced_counts f.file) size p).1 in
      let there : size.length ≡ length s = cc (e, length_said f) in
      let left = w ∙ writes (reduce_causes f.file out) no_cause s out in
      record {
        bytes = size.length;
        regions = size.regions;
        counted = refl;
        whole = there;
        said_bytes = there ∙ sym (length_said f);
        said = cc e;
        start = ap (take size.length) left ∙ take_at s (drop (length s) out) size.length (sym there);
        rest = ap (drop size.length) left ∙ drop_at s (drop (length s) out) size.length (sym there) ∙ ap (λ (n : ℕ). drop n out) (sym there);
      }
  reduces_to (Err e) new p w = absurd (some_holds e (reduce_causes f.file out) (learns_err size_values (reduce_causes f.file out) (reduced_counts f.file) e p).0 no_cause)

-- an answer that has a length and a K has those of the reduced file
counts_said : (f : AcceptedFile) (out : List ℕ) (size : Size) → ReduceAnswers f.file out (Ok size)
    → (size.length ≡ length (reduced_file f.file)) × (size.regions ≡ region_count (family_of (reduced_file f.file)))
unfolding reduced_counts
counts_said f out size p =
    let s = reduced_file f.file in
    let e = (learns_ok size_values (reduce_causes f.file out) (reduced_counts f.file) size p).1 in
    (cc (e, length_said f), cc (e, regions_read s))

module _ (f g : AcceptedFile) where
  abbrev equal : Bool
  equal = same_list (reduced_file f.file) (reduced_file g.file)

  -- the answer is yes or no, and right
  says : (r : Result Bool PairRefusal) → SameAnswers f.file g.file r → r ≡ Ok equal
  unfolding comparison
  says r p = told r (p ∙ answers (compare_causes f.file g.file) (both_accepted f.file g.file f.accepted g.accepted) (comparison f.file g.file))
    where
      bits : (a b : Bool) → ◌≡◌ {A = List ℕ} (bit a ∷ []) (bit b ∷ []) → a ≡ b
      bits true true e = refl
      bits false false e = refl
      bits true false e = let z : ◌≡◌ {A = ℕ} 1 0 = cc e in absurd (omega arith)
      bits false true e = let z : ◌≡◌ {A = ℕ} 0 1 = cc e in absurd (omega arith)

      told : (r : Result Bool PairRefusal) → report_compared r ≡ record { number = 0; values = bit equal ∷ [] } → r ≡ Ok equal
      told (Ok same) e = ap Ok (bits same equal (ap (λ (r : Report). r.values) e))
      told (Err e) h = absurd (pair_some e (ap (λ (r : Report). r.number) h))

  abbrev same_in : Result Bool PairRefusal → Bool
  same_in (Ok same) = same
  same_in (Err e) = false

  says_equal : (r : Result Bool PairRefusal) → SameAnswers f.file g.file r → r ≡ Ok true → reduced_file f.file ≡ reduced_file g.file
  says_equal r p e = same_equal (reduced_file f.file) (reduced_file g.file) (ap same_in (sym (says r p) ∙ e))

  equal_says : (r : Result Bool PairRefusal) → SameAnswers f.file g.file r → reduced_file f.file ≡ reduced_file g.file → r ≡ Ok true
  equal_says r p e = says r p ∙ ap Ok (same_is (reduced_file f.file) (reduced_file g.file) e)

-- Two accepted files.
module _ (f g : AcceptedFile) where
  abbrev F : Family
  F = family_of f.file

  abbrev G : Family
  G = family_of g.file

  alike_equal : Alike F G → reduced_file f.file ≡ reduced_file g.file
  alike_equal = alike_same_file f.file g.file f.bytes g.bytes f.accepted g.accepted

  equal_alike : reduced_file f.file ≡ reduced_file g.file → Alike F G
  equal_alike = same_file_alike f.file g.file f.bytes g.bytes f.accepted g.accepted

  alike_from_bounds : SameBounds F G → Alike F G
  alike_from_bounds = bounds_alike F G (accepted_laminar f.file f.bytes f.accepted) (accepted_laminar g.file g.bytes g.accepted)

  bounds_from_alike : Alike F G → SameBounds F G
  bounds_from_alike = alike_bounds F G (accepted_laminar f.file f.bytes f.accepted) (accepted_laminar g.file g.bytes g.accepted)

  smallest : Alike F G → NoLarger (family_of (reduced_file f.file)) G × (length (reduced_file f.file) ≤ length g.file)
  smallest = smallest_file f.file g.file f.bytes g.bytes f.accepted g.accepted

-- no, and not a refusal
says_no : (f g : AcceptedFile) (r : Result Bool PairRefusal) → SameAnswers f.file g.file r → (Alike (family_of f.file) (family_of g.file) → ⊥) → r ≡ Ok false
says_no f g r p unlike = says f g r p ∙ ap Ok (not_same (reduced_file f.file) (reduced_file g.file) (λ e. unlike (equal_alike f g e)))

pub demand_three : DemandThree
demand_three =
    record {
      is_bytes = λ f. reduced_bytes f.file f.bytes f.accepted;
      is_accepted = λ f. reduced_accepted f.file f.bytes f.accepted;
      keeps_curves = λ f. reduced_file_alike f.file f.bytes f.accepted;
      no_empty_leaf = λ f. reduced_file_measured f.file f.bytes f.accepted;
      again = λ f. reduced_file_again f.file f.bytes f.accepted;
      equal_if_alike = alike_equal;
      alike_if_equal = equal_alike;
      equal_if_same_bounds = λ f g s. alike_equal f g (alike_from_bounds f g s);
      same_bounds_if_equal = λ f g e. bounds_from_alike f g (equal_alike f g e);
      equal_values =
          λ f g c d e same t h.
          value_left f c t h ∙ ap (λ (l : List ℕ). get_or l t 0) ((equal_alike f g e).curves c.path c.is_path ∙ ap (curve_values (family_of g.file)) same)
          ∙ sym (value_left g d t (rw same at h));
      fewest_regions = λ f g a. (smallest f g a).0.regions;
      shortest = λ f g a. (smallest f g a).1;
      fits = λ f. reduced_file_fits f.file f.bytes f.accepted;
      reduces = λ f out new r room. reduces_to f out room r new;
      fewest_answered = λ f g out size p a. omega (arith, (counts_said f out size p).1, (smallest f g a).0.regions);
      shortest_answered = λ f g out size p a. omega (arith, (counts_said f out size p).0, (smallest f g a).1);
      alike_if_same = λ f g r p e. equal_alike f g (says_equal f g r p e);
      same_if_alike = λ f g r p a. equal_says f g r p (alike_equal f g a);
      no_if_unlike = says_no;
      no_if_other_m = λ f g r p other. says_no f g r p (λ a. other a.peptides);
      same_bounds_if_same = λ f g r p e. bounds_from_alike f g (equal_alike f g (says_equal f g r p e));
      same_if_same_bounds = λ f g r p s. equal_says f g r p (alike_equal f g (alike_from_bounds f g s));
    }
