-- What the calls of `reduction` answer and write, from what they find.
use Prim.Native.Nat.{ℕ, ◌+◌, ◌≤◌, ◌<◌}
use mathlib.Core.Bool.{Bool, cond}
use mathlib.Core.List.{List, [], ◌∷◌, map}
use mathlib.Core.Path.{◌≡◌, refl, sym, ap, ap₂, ◌∙◌}
use mathlib.Core.Logic.{⊎_elim}
use native.Mathlib.Omega.{arith}
use lib.ListN.{length, take, drop}
use lib.Seq.{take_at}
use lib.Dec.{ltb}
use borrow.Author.Tests.{lt-ltb, le-ltb}
use Rattle.std.specs.Prelude.{Result, Ok, Err, MatchResult, IsErrAnd, is_ok}
use Rattle.reader.specs.Lists.{same_list}
use Rattle.reader.specs.Family.{family_of, region_count}
use Rattle.reader.specs.Causes.{Cause, first_cause, file_causes, Accepted}
use Rattle.reader.specs.declared.Sizes.{Sizes}
use Rattle.reader.specs.declared.refusal.Refusal.{Refusal}
use Rattle.reader.specs.declared.refusal.Refusal.TheVariants.{Room}
use Rattle.reader.specs.Refusals.{number_of, beside}
use Rattle.reader.specs.Calls.{short, ParentsAnswers, ParentsWrites}
use Rattle.reader.proofs.Bools.{test}
use Rattle.bounds.proofs.Basics.Members.{clash}
use Rattle.reader.proofs.First.{Numbered, first_holds, first_fails, head_clear, join_clear, answers, declines, writes}
use Rattle.reader.proofs.Judged.{peptides_counted, leaves_counted, regions_counted}
use Rattle.reader.proofs.Accepting.{accepted_header, whole_length, file_numbered, file_lacks, learns_accepted, learns_refused}
use Rattle.reader.proofs.ParentLaws.{parents_start, enough_first, enough_checked}
use Rattle.reader.proofs.Refusals.{number_some, nothing_beside, Lacks, lacking, lacks_joined, some_holds, first_of, unwritten, says_ok, says_err}
use Rattle.reduction.specs.Reduction.{reduced_file}
use Rattle.reduction.specs.Private.Steps.{Parented}
use Rattle.reduction.specs.declared.Size.{Size}
use Rattle.reduction.specs.declared.PairRefusal.{PairRefusal}
use Rattle.reduction.specs.declared.PairRefusal.TheVariants.{First, Second}
use Rattle.reduction.specs.Calls.{pair_number, pair_beside, size_values, reduce_causes, reduced_counts, compare_causes, comparison, ReduceAnswers, ReduceWrites, SameAnswers}
use Rattle.reduction.specs.Private.Writing.{Wrote}

-- The check of a file.

module _ (s old : List ℕ) (room : 8191 ≤ length old) where
  pub file_accepted : (n : Sizes) → ParentsAnswers s old (Ok n) → Accepted s
  file_accepted n h = (learns_accepted s n (h ∙ enough_checked s old room)).accepted

  pub file_refused : (e : Refusal) → ParentsAnswers s old (Err e) → number_of e ≡ first_cause (file_causes s)
  file_refused e h = learns_refused s e (h ∙ enough_checked s old room)

  -- the parents stand at the start of a list with room for them
  pub parents_there : (P : List ℕ) → Accepted s → ParentsWrites s old P → Parented s P
  parents_there P a e = record { accepted = a; parented = (drop (region_count (family_of s)) old, e ∙ parents_start s old (enough_first s old room ∙ a)) }

-- nothing is returned beside a cause of a file
file_beside : (s : List ℕ) (e : Refusal) → number_of e ≡ first_cause (file_causes s) → beside e ≡ []
file_beside s e h = nothing_beside e (λ n. lacking 13 (file_causes s) (file_lacks s) (omega arith) (sym h ∙ n))

-- An accepted file is not long, and its counts are not large.
module _ (s : List ℕ) (a : Accepted s) where
  pub few_peptides : (family_of s).peptides ≤ 4096
  few_peptides = (peptides_counted (family_of s).peptides (accepted_header s a).no2).1

  pub accepted_most : length s ≤ 57354
  accepted_most =
      let h = accepted_header s a in
      let F = family_of s in
      omega (arith, whole_length s h, few_peptides, leaves_counted F h.no3, regions_counted F h.no4)

-- The reduced file in the output.
module _ {s old new : List ℕ} {l k : ℕ} (w : Wrote s old new l k) where
  -- the part from 0 up to its end is the reduced file
  pub wrote_part : take l new ≡ reduced_file s
  wrote_part = ap (take l) w.start ∙ take_at (reduced_file s) (drop (length (reduced_file s)) old) l (omega (arith, w.whole))

-- The reduction.
module _ (s out : List ℕ) where
  short_output : Accepted s → first_cause (reduce_causes s out) ≡ cond (ltb (length out) (length s)) 16 0
  unfolding reduce_causes short first_cause
  short_output a = join_clear (file_causes s) _ (file_numbered s) a

  pub output_suffices : Accepted s → length s ≤ length out → first_cause (reduce_causes s out) ≡ 0
  output_suffices a h = short_output a ∙ ap (λ (b : Bool). cond b 16 0) (le-ltb (length out) (length s) h)

  -- the answer r, with the list new left in the output
  abbrev Reduces : Result Size Refusal → List ℕ → Type 0
  Reduces r new = ReduceAnswers s out r × ReduceWrites s out new

  lacks_place : Lacks 13 (reduce_causes s out)
  unfolding reduce_causes
  lacks_place = lacks_joined 13 (file_causes s) _ (file_lacks s) (omega arith)

  declined : (e : Refusal) → number_of e ≡ first_cause (reduce_causes s out) → Reduces (Err e) out
  declined e h = (says_err size_values (reduce_causes s out) (reduced_counts s) e lacks_place h, unwritten e (reduce_causes s out) h (reduced_file s) out)

  pub reduce_refused : (e : Refusal) → number_of e ≡ first_cause (file_causes s) → Reduces (Err e) out
  unfolding reduce_causes
  reduce_refused e h = declined e (first_of e (file_causes s) h _)

  pub reduce_short : Accepted s → length out < length s → Reduces (Err Room) out
  reduce_short a h = declined Room (sym (short_output a ∙ ap (λ (b : Bool). cond b 16 0) (lt-ltb (length out) (length s) h)))

  pub reduce_written : Accepted s → length s ≤ length out → (new : List ℕ) (size : Size) → Wrote s out new size.length size.regions → Reduces (Ok size) new
  unfolding reduced_counts
  reduce_written a h new size w =
      let none = output_suffices a h in
      (says_ok size_values (reduce_causes s out) (reduced_counts s) size none (rw (w.total, w.counted) refl), w.start ∙ sym (writes (reduce_causes s out) none (reduced_file s) out))

-- The comparison.

-- no refusal has the number 0
pub pair_some : (e : PairRefusal) → pair_number e ≡ 0 → ⊥
pair_some (First e) h = number_some e h
pair_some (Second e) h = omega arith

-- the causes of the second family
further : Cause → Cause
further c = record { number = c.number + 100; holds = c.holds }

further_clear : (cs : List Cause) → Numbered cs → first_cause cs ≡ 0 → first_cause (map further cs) ≡ 0
unfolding first_cause further
further_clear [] n h = refl
further_clear (c ∷ cs) n h =
    let a = head_clear c cs n.0 h in
    first_fails (further c) (map further cs) a.0 ∙ further_clear cs n.1 a.1

further_holds : (cs : List Cause) → (first_cause cs ≡ 0 → ⊥) → first_cause (map further cs) ≡ first_cause cs + 100
unfolding further
further_holds [] h = absurd (h (unfold first_cause in refl))
further_holds (c ∷ cs) h =
    ⊎_elim
    (λ t. first_holds (further c) (map further cs) t ∙ ap (λ (n : ℕ). n + 100) (sym (first_holds c cs t)))
    (λ f.
    first_fails (further c) (map further cs) f
    ∙ further_holds cs (λ z. h (first_fails c cs f ∙ z))
    ∙ ap (λ (n : ℕ). n + 100) (sym (first_fails c cs f)))
    (test c.holds)

-- what the answer of a check was, from what `map_err` makes of it
abbrev Mapped : (Refusal → PairRefusal) → Result Sizes Refusal → Result Sizes PairRefusal → Type 0
Mapped make r m = MatchResult r (λ n. m ≡ Ok n) (λ e. IsErrAnd m (λ p. p ≡ make e))

pub mapped_err :
    (make : Refusal → PairRefusal) (r : Result Sizes Refusal) (m : Result Sizes PairRefusal) (p : PairRefusal) → Mapped make r m → m ≡ Err p
    → record { refusal : Refusal; was : r ≡ Err refusal; made : p ≡ make refusal }
mapped_err make (Ok n) m p h e = absurd (clash refl (ap is_ok (sym h ∙ e)))
mapped_err make (Err x) (Ok n) p h e = absurd (clash refl (ap is_ok e))
mapped_err make (Err x) (Err q) p h e = record { refusal = x; was = refl; made = cc (h, e) }

pub mapped_ok : (make : Refusal → PairRefusal) (r : Result Sizes Refusal) (m : Result Sizes PairRefusal) (n : Sizes) → Mapped make r m → m ≡ Ok n → r ≡ Ok n
mapped_ok make (Ok k) m n h e = cc (h, e)
mapped_ok make (Err x) (Ok k) n h e = absurd h
mapped_ok make (Err x) (Err q) n h e = absurd (clash refl (ap is_ok (sym e)))

module _ (first second : List ℕ) where
  second_family : Accepted first → first_cause (compare_causes first second) ≡ first_cause (map further (file_causes second))
  unfolding compare_causes further
  second_family a = join_clear (file_causes first) _ (file_numbered first) a

  not_compared : (e : PairRefusal) → pair_number e ≡ first_cause (compare_causes first second) → pair_beside e ≡ [] → SameAnswers first second (Err e)
  not_compared e h b =
      ap₂ (λ (n : ℕ) (l : List ℕ). record { number = n; values = l }) h b ∙ sym (declines (compare_causes first second) (λ z. pair_some e (h ∙ z)) (comparison first second))

  pub first_refused : (e : Refusal) → number_of e ≡ first_cause (file_causes first) → SameAnswers first second (Err (First e))
  unfolding compare_causes
  first_refused e h = not_compared (First e) (first_of e (file_causes first) h _) (file_beside first e h)

  pub second_refused : Accepted first → (e : Refusal) → number_of e ≡ first_cause (file_causes second) → SameAnswers first second (Err (Second e))
  second_refused a e h =
      not_compared (Second e)
      (ap (λ (k : ℕ). k + 100) h ∙ sym (second_family a ∙ further_holds (file_causes second) (some_holds e (file_causes second) h)))
      (file_beside second e h)

  pub both_accepted : Accepted first → Accepted second → first_cause (compare_causes first second) ≡ 0
  both_accepted a b = second_family a ∙ further_clear (file_causes second) (file_numbered second) b

  pub compared : Accepted first → Accepted second → (same : Bool) → same ≡ same_list (reduced_file first) (reduced_file second) → SameAnswers first second (Ok same)
  unfolding comparison
  compared a b same e = rw e (sym (answers (compare_causes first second) (both_accepted a b) (comparison first second)))
