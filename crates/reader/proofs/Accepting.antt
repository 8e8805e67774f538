-- An accepted file holds a well-formed family, and what the check answers says so.
--   ordered_if_clear                    where causes 7 and 8 do not hold, the regions lie on the leaves, in file order
--   header_numbered, file_numbered      no cause of the header, or of the file, has the number 0, which stands for none
--   file_lacks                          nor 13, with which a place comes
--   HeaderClear                         none of the causes 1 to 5 holds
--   header_clear                        so it is where the first cause of the header is 0
--   header_whole                        and then the file has all the lengths and regions that its header counts
--   FamilyClear                         none of the causes 6 to 10 holds
--   family_clear                        so it is where the first cause of the family is 0
--   header_none, family_none            the way back: where none of them holds, the first cause is 0
--   file_header                         where a cause of the header holds, the first of them is the first of the file
--   file_family                         where none does, the first of the family is the first of the file
--   listed_header, listed_7             where none of the causes 1 to 7 holds, none of the header holds, nor 7
--   file_listing                        where one of them holds, the first of them is the first of the file
--   file_arrangement                    where none does, the first of the causes 8 to 10 is the first of the file
--   accepted_header, accepted_family    of an accepted file none of the causes 1 to 5, and none of 6 to 10 holds
--   well_formed_lem                         an accepted file holds a well-formed family
--   reports_refused, reports_accepted   the first cause that holds, or m, N and K where none does, is what the check has to answer
--   learns_refused, learns_accepted     what a caller learns from each answer: the first cause, or that none holds and what m, N and K are
--   few_regions                         where none of the causes 1 to 5 holds, K is at most 8,191
--   whole_length                        and the file is as long as its counts say
--   part_accepted, part_refused         the part with the regions: of an accepted file from their offset on, of any other nothing
--   start_accepted, start_refused       where that part begins: at the regions' offset, or at the file's first byte
--   part_given                          a slice at that place with these bytes is what `regions` has to hand back
use Prim.Native.Nat.{ℕ, zero, suc, ◌+◌, ◌<◌, ◌≤◌}
use native.Mathlib.Omega.{arith}
use native.Mathlib.Numerals.{add-one}
use mathlib.Core.Bool.{Bool, true, false, cond}
use mathlib.Core.List.{List, [], ◌++◌}
use mathlib.Core.Path.{◌≡◌, refl, sym, ap, ◌∙◌}
use mathlib.Core.Logic.{inl, inr, ⊎_elim}
use lib.ListN.{length, take, drop}
use lib.Seq.{take-length}
use lib.Dec.{eqb}
use borrow.Author.Tests.{ne_eqb}
use Rattle.reader.specs.Bytes.{IsBytes}
use Rattle.reader.specs.Family as family
use Rattle.reader.specs.Family.{Family, leaves, region_count, region, region_at, family_of, mark, lengths_offset, regions_offset, total_length}
use Rattle.reader.specs.Causes.{cause1, cause2, cause3, cause4, cause5, cause6, cause7, cause8, cause9, cause10, first_cause, header_causes, listing_causes, arrangement_causes, family_causes, file_causes, Accepted}
use Rattle.reader.specs.WellFormed.{Ordered, WellFormed}
use Rattle.reader.specs.Private.InPlace.{Whole}
use Rattle.reader.specs.Private.Climb.{Listed}
use Rattle.std.specs.Prelude.{Ok, Err}
use Rattle.reader.specs.declared.refusal.Refusal.{Refusal}
use Rattle.reader.specs.declared.Sizes.{Sizes}
use Rattle.reader.specs.Refusals.{number_of}
use Rattle.reader.specs.Calls.{sizes, counts, checked, CheckAnswers, region_part, part_start, RegionsGiven}
use Rattle.reader.proofs.Below.{below_suc}
use Rattle.reader.proofs.Parsed.{leaves_read, regions_read, region_read, number_fits}
use Rattle.reader.proofs.First.{Numbered, head_clear, join_clear, join_holds, clear_left, clear_right}
use Rattle.reader.proofs.Refusals.{Lacks, says_ok, says_err, learns_ok, learns_err}
use Rattle.reader.proofs.Judged.{Before, peptides_counted, leaves_counted, regions_counted, laid_down, lengths_clear, regions_placed, regions_rise}
use Rattle.reader.proofs.Climbing.{nested_if_clear, shallow_if_clear}

-- The order of neighbours carries over to all.

before_trans : (r q t : family.Region) → Before r q → Before q t → Before r t
before_trans r q t a b =
    ⊎_elim
    (λ x. ⊎_elim (λ y. inl (omega arith)) (λ y. inl (omega arith)) b)
    (λ x. ⊎_elim (λ y. inl (omega arith)) (λ y. inr (omega arith, omega arith)) b)
    a

module _ (F : Family) (rise : (k : ℕ) → k + 1 < region_count F → Before (region F k) (region F (k + 1))) where
  rises : (i j : ℕ) → i < j → j < region_count F → Before (region F i) (region F j)
  rises i zero l lj = absurd (omega arith)
  rises i (suc j) l lj =
      let next : Before (region F j) (region F (suc j)) = rw add-one at (rise j (omega arith)) in
      ⊎_elim (λ e. rw e next) (λ d. before_trans (region F i) (region F j) (region F (suc j)) (rises i j d (omega arith)) next) (below_suc l)

pub ordered_if_clear : (F : Family) → cause7 F ≡ false → cause8 F ≡ false → Ordered F
ordered_if_clear F h7 h8 =
    let placed = regions_placed F h7 in
    let rise = rises F (regions_rise F h8) in
    record {
      first_some = λ k l. (placed k l).first_some;
      first_last = λ k l. (placed k l).first_last;
      last_leaf = λ k l. (placed k l).last_leaf;
      rising = λ i j l lj. ⊎_elim (λ a. omega arith) (λ b. omega arith) (rise i j l lj);
      falling = λ i j l lj e. ⊎_elim (λ a. absurd (omega arith)) (λ b. b.1) (rise i j l lj);
    }

-- The causes of a file, one by one.

pub header_numbered : (s : List ℕ) → Numbered (header_causes s)
unfolding header_causes
header_numbered s = (omega arith, (omega arith, (omega arith, (omega arith, (omega arith, tt)))))

pub file_numbered : (s : List ℕ) → Numbered (file_causes s)
unfolding header_causes family_causes file_causes
file_numbered s = omega arith

-- nor 13, with which a place comes
pub file_lacks : (s : List ℕ) → Lacks 13 (file_causes s)
unfolding header_causes family_causes file_causes
file_lacks s = omega arith

pub record HeaderClear (s : List ℕ) : Type 0 where
  pub no1 : cause1 mark s ≡ false
  pub no2 : cause2 (family_of s).peptides ≡ false
  pub no3 : cause3 (family_of s) ≡ false
  pub no4 : cause4 (family_of s) ≡ false
  pub no5 : cause5 lengths_offset s ≡ false

pub header_clear : (s : List ℕ) → first_cause (header_causes s) ≡ 0 → HeaderClear s
unfolding header_causes
header_clear s h =
    let a = head_clear _ _ (omega arith) h in
    let b = head_clear _ _ (omega arith) a.1 in
    let c = head_clear _ _ (omega arith) b.1 in
    let d = head_clear _ _ (omega arith) c.1 in
    let e = head_clear _ _ (omega arith) d.1 in
    record { no1 = a.0; no2 = b.0; no3 = c.0; no4 = d.0; no5 = e.0 }

pub header_whole : (s : List ℕ) → first_cause (header_causes s) ≡ 0 → Whole s
header_whole s h = omega (arith, (laid_down 16 s (header_clear s h).no5).whole, leaves_read s, regions_read s)

pub record FamilyClear (F : Family) : Type 0 where
  pub no6 : cause6 F ≡ false
  pub no7 : cause7 F ≡ false
  pub no8 : cause8 F ≡ false
  pub no9 : cause9 F ≡ false
  pub no10 : cause10 F ≡ false

pub family_clear : (F : Family) → first_cause (family_causes F) ≡ 0 → FamilyClear F
unfolding family_causes
family_clear F h =
    let a = head_clear _ _ (omega arith) h in
    let b = head_clear _ _ (omega arith) a.1 in
    let c = head_clear _ _ (omega arith) b.1 in
    let d = head_clear _ _ (omega arith) c.1 in
    let e = head_clear _ _ (omega arith) d.1 in
    record { no6 = a.0; no7 = b.0; no8 = c.0; no9 = d.0; no10 = e.0 }

pub header_none : (s : List ℕ) → HeaderClear s → first_cause (header_causes s) ≡ 0
unfolding header_causes first_cause
header_none s h = rw (h.no1, h.no2, h.no3, h.no4, h.no5)

pub family_none : (F : Family) → FamilyClear F → first_cause (family_causes F) ≡ 0
unfolding family_causes first_cause
family_none F h = rw (h.no6, h.no7, h.no8, h.no9, h.no10)

module _ (s : List ℕ) where
  pub listed_header : Listed s → first_cause (header_causes s) ≡ 0
  listed_header h = clear_left (header_causes s) (listing_causes (family_of s)) (header_numbered s) h

  listed_listing : Listed s → first_cause (listing_causes (family_of s)) ≡ 0
  listed_listing h = clear_right (header_causes s) (listing_causes (family_of s)) (header_numbered s) h

  pub listed_7 : Listed s → cause7 (family_of s) ≡ false
  listed_7 h =
      let a = head_clear _ _ (omega arith) (listed_listing h) in
      (head_clear _ _ (omega arith) a.1).0

  listing_numbered : Numbered (header_causes s ++ listing_causes (family_of s))
  unfolding header_causes
  listing_numbered = omega arith

  file_parts : file_causes s ≡ (header_causes s ++ listing_causes (family_of s)) ++ arrangement_causes (family_of s)
  unfolding header_causes family_causes file_causes
  file_parts = refl

  pub file_header : (first_cause (header_causes s) ≡ 0 → ⊥) → first_cause (file_causes s) ≡ first_cause (header_causes s)
  unfolding file_causes
  file_header h = join_holds (header_causes s) (family_causes (family_of s)) h

  pub file_family : first_cause (header_causes s) ≡ 0 → first_cause (file_causes s) ≡ first_cause (family_causes (family_of s))
  unfolding file_causes
  file_family h = join_clear (header_causes s) (family_causes (family_of s)) (header_numbered s) h

  pub file_listing :
      (first_cause (header_causes s ++ listing_causes (family_of s)) ≡ 0 → ⊥)
      → first_cause (file_causes s) ≡ first_cause (header_causes s ++ listing_causes (family_of s))
  file_listing h = ap first_cause file_parts ∙ join_holds (header_causes s ++ listing_causes (family_of s)) (arrangement_causes (family_of s)) h

  pub file_arrangement : Listed s → first_cause (file_causes s) ≡ first_cause (arrangement_causes (family_of s))
  file_arrangement h = ap first_cause file_parts ∙ join_clear (header_causes s ++ listing_causes (family_of s)) (arrangement_causes (family_of s)) listing_numbered h

  pub accepted_header : Accepted s → HeaderClear s
  unfolding file_causes
  accepted_header h = header_clear s (clear_left (header_causes s) (family_causes (family_of s)) (header_numbered s) h)

  pub accepted_family : Accepted s → FamilyClear (family_of s)
  unfolding file_causes
  accepted_family h = family_clear (family_of s) (clear_right (header_causes s) (family_causes (family_of s)) (header_numbered s) h)

  z_read : IsBytes s → (k : ℕ) → k < region_count (family_of s) → (region (family_of s) k).z < 65536
  unfolding region_at
  z_read bytes k l = rw (region_read s k (omega (arith, regions_read s))) (number_fits s bytes _)

  pub well_formed_lem : IsBytes s → Accepted s → WellFormed (family_of s)
  well_formed_lem bytes h =
      let F : Family = family_of s in
      let head = accepted_header h in
      let fam = accepted_family h in
      let ordered = ordered_if_clear F fam.no7 fam.no8 in
      record {
        peptides_some = (peptides_counted F.peptides head.no2).0;
        peptides_most = (peptides_counted F.peptides head.no2).1;
        leaves_some = (leaves_counted F head.no3).0;
        leaves_most = (leaves_counted F head.no3).1;
        regions_most = regions_counted F head.no4;
        lengths_sum = lengths_clear F fam.no6;
        ordered = ordered;
        nested = nested_if_clear F ordered fam.no9;
        shallow = shallow_if_clear F fam.no10;
        z_fits = z_read bytes;
      }

-- What the check answers.

module _ (s : List ℕ) where
  pub reports_refused : (e : Refusal) → number_of e ≡ first_cause (file_causes s) → CheckAnswers s (Err e)
  unfolding checked
  reports_refused e h = says_err sizes (file_causes s) _ e (file_lacks s) h

  pub reports_accepted : (n : Sizes) → Accepted s → sizes n ≡ counts (family_of s) → CheckAnswers s (Ok n)
  unfolding checked
  reports_accepted n h e = says_ok sizes (file_causes s) _ n h e

  pub learns_refused : (e : Refusal) → CheckAnswers s (Err e) → number_of e ≡ first_cause (file_causes s)
  unfolding checked
  learns_refused e h = (learns_err sizes (file_causes s) _ e h).0

  pub learns_accepted :
      (n : Sizes) → CheckAnswers s (Ok n)
      → record { accepted : Accepted s; peptides : n.peptides ≡ (family_of s).peptides; leaves : n.leaves ≡ family.leaves (family_of s); regions : n.regions ≡ region_count (family_of s) }
  unfolding checked
  learns_accepted n h =
      let v = learns_ok sizes (file_causes s) _ n h in
      let e = v.1 in
      record { accepted = v.0; peptides = cc; leaves = cc; regions = cc }

  pub few_regions : HeaderClear s → region_count (family_of s) ≤ 8191
  few_regions h =
      let F : Family = family_of s in
      omega (arith, leaves_counted F h.no3, regions_counted F h.no4)

  pub whole_length : HeaderClear s → length s ≡ total_length (leaves (family_of s)) (region_count (family_of s))
  whole_length h = omega (arith, (laid_down 16 s h.no5).whole, leaves_read s, regions_read s)

  -- the part of the file with the regions
  pub part_accepted : Accepted s → region_part s ≡ drop (regions_offset (leaves (family_of s))) s
  unfolding region_part
  part_accepted h = rw h

  pub part_refused : (first_cause (file_causes s) ≡ 0 → ⊥) → region_part s ≡ []
  unfolding region_part
  part_refused h = rw (ne_eqb (first_cause (file_causes s)) 0 h)

  -- where it begins
  pub start_accepted : Accepted s → part_start s ≡ regions_offset (leaves (family_of s))
  unfolding part_start
  start_accepted h = rw h

  pub start_refused : (first_cause (file_causes s) ≡ 0 → ⊥) → part_start s ≡ 0
  unfolding part_start
  start_refused h = rw (ne_eqb (first_cause (file_causes s)) 0 h)

  part_from : region_part s ≡ take (length (region_part s)) (drop (part_start s) s)
  unfolding region_part part_start
  part_from = go (eqb (first_cause (file_causes s)) 0) (regions_offset (leaves (family_of s)))
    where
      go : (b : Bool) (n : ℕ) → cond b (drop n s) [] ≡ take (length (cond b (drop n s) [])) (drop (cond b n 0) s)
      go true n = sym (take-length (drop n s))
      go false n = refl

  pub part_given : {q p : ℕ × ℕ} {r : List ℕ} → q.0 ≡ p.0 → q.1 ≡ p.1 + part_start s → r ≡ region_part s → RegionsGiven q r p s
  part_given b o e =
      record { part = record { block = b; place = o; bytes = e ∙ part_from ∙ ap (λ (l : List ℕ). take (length l) (drop (part_start s) s)) (sym e) }; bytes = e }
