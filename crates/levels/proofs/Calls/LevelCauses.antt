-- The causes of a PHFL file, one by one.
--   header_numbered, listing_numbered, form_numbered   no cause has the number 0, which stands for none
--   to_lacks, from_lacks        nor 13, with which a place comes
--   LevelsClear                 the header has no cause, and none of the causes 6, 7, 9, 10, 26 and 27 holds
--   listing_clear, place_clear  where the first of 6 and 7, or of 26 and 27, is 0, neither holds
--   levels_clear, levels_none   so it is of an accepted file by level; and the way back
--   to_none, from_none          a call with an accepted file and room has nothing to decline
--   levels_refused              a file with the mark PHFL is not a family file: the first cause is 1
--   family_refused              nor is one with the mark PHFB a file by level
use Prim.Native.Nat.{ℕ, ◌+◌, ◌-◌, ◌≤◌}
use native.Mathlib.Omega.{arith}
use mathlib.Core.Bool.{true, false, not}
use mathlib.Core.List.{List, ◌++◌}
use mathlib.Core.Path.{◌≡◌, ◌∙◌}
use lib.ListN.{length, take}
use lib.Dec.{ltb}
use borrow.Author.Tests.{le-ltb}
use Rattle.reader.specs.Lists.{same_list}
use Rattle.reader.specs.Family.{Family, region_count, mark}
use Rattle.reader.specs.Causes.{cause1, cause6, cause7, cause9, cause10, first_cause, file_causes, Accepted, listing_causes}
use Rattle.reader.specs.Calls.{short}
use Rattle.reader.proofs.Bools.{or_r, not_passes}
use Rattle.reader.proofs.First.{Numbered, head_clear, first_holds, join_clear, clear_left, clear_right}
use Rattle.reader.proofs.Judged.{header_1}
use Rattle.reader.proofs.Accepting.{file_numbered, file_lacks, file_header}
use Rattle.reader.proofs.Refusals.{Lacks, lacks_joined}
use Rattle.levels.specs.Levels.{level_mark, listed_family, counts_in, distinct}
use Rattle.levels.specs.Causes.{cause26, cause27, level_header_causes, nesting_causes, place_causes, form_causes, level_file_causes, AcceptedLevels}
use Rattle.levels.specs.Calls.{to_levels_causes, from_levels_causes}
use Rattle.levels.specs.Private.Listing.{Headed}

pub header_numbered : (s : List ℕ) → Numbered (level_header_causes s)
unfolding level_header_causes
header_numbered s = omega arith

pub listing_numbered : (F : Family) → Numbered (listing_causes F)
listing_numbered F = omega arith

pub form_numbered : (s : List ℕ) → Numbered (form_causes s)
unfolding form_causes level_header_causes nesting_causes
form_numbered s = omega arith

pub to_lacks : (s : List ℕ) (room : ℕ) → Lacks 13 (to_levels_causes s room)
unfolding to_levels_causes
to_lacks s room = lacks_joined 13 (file_causes s) _ (file_lacks s) (omega arith)

pub from_lacks : (s : List ℕ) (room : ℕ) → Lacks 13 (from_levels_causes s room)
unfolding from_levels_causes form_causes level_header_causes nesting_causes place_causes
from_lacks s room = omega arith

pub record LevelsClear (s : List ℕ) : Type 0 where
  pub headed : Headed s
  pub no6 : cause6 (listed_family s) ≡ false
  pub no7 : cause7 (listed_family s) ≡ false
  pub no9 : cause9 (distinct (listed_family s)) ≡ false
  pub no10 : cause10 (distinct (listed_family s)) ≡ false
  pub no26 : cause26 (counts_in s) (region_count (listed_family s)) ≡ false
  pub no27 : cause27 (counts_in s) (listed_family s) ≡ false

module _ (s : List ℕ) where
  pub listing_clear : first_cause (listing_causes (listed_family s)) ≡ 0 → (cause6 (listed_family s) ≡ false) × (cause7 (listed_family s) ≡ false)
  listing_clear h =
      let a = head_clear _ _ (omega arith) h in
      let b = head_clear _ _ (omega arith) a.1 in
      (a.0, b.0)

  nesting_clear : first_cause (nesting_causes (listed_family s)) ≡ 0 → (cause9 (distinct (listed_family s)) ≡ false) × (cause10 (distinct (listed_family s)) ≡ false)
  unfolding nesting_causes
  nesting_clear h =
      let a = head_clear _ _ (omega arith) h in
      let b = head_clear _ _ (omega arith) a.1 in
      (a.0, b.0)

  pub place_clear : first_cause (place_causes s) ≡ 0 → (cause26 (counts_in s) (region_count (listed_family s)) ≡ false) × (cause27 (counts_in s) (listed_family s) ≡ false)
  unfolding place_causes
  place_clear h =
      let a = head_clear _ _ (omega arith) h in
      let b = head_clear _ _ (omega arith) a.1 in
      (a.0, b.0)

  form_clear : AcceptedLevels s → first_cause (form_causes s) ≡ 0
  unfolding level_file_causes
  form_clear h = clear_left (form_causes s) (place_causes s) (form_numbered s) h

  pub levels_clear : AcceptedLevels s → LevelsClear s
  unfolding level_file_causes form_causes
  levels_clear h =
      let F : Family = listed_family s in
      let form = form_clear h in
      let rest = clear_right (level_header_causes s) (listing_causes F ++ nesting_causes F) (header_numbered s) form in
      let listing = listing_clear (clear_left (listing_causes F) (nesting_causes F) (listing_numbered F) rest) in
      let nesting = nesting_clear (clear_right (listing_causes F) (nesting_causes F) (listing_numbered F) rest) in
      let place = place_clear (clear_right (form_causes s) (place_causes s) (form_numbered s) h) in
      record {
        headed = clear_left (level_header_causes s) (listing_causes F ++ nesting_causes F) (header_numbered s) form;
        no6 = listing.0;
        no7 = listing.1;
        no9 = nesting.0;
        no10 = nesting.1;
        no26 = place.0;
        no27 = place.1;
      }

  form_none : LevelsClear s → first_cause (form_causes s) ≡ 0
  unfolding form_causes nesting_causes first_cause
  form_none h =
      join_clear (level_header_causes s) (listing_causes (listed_family s) ++ nesting_causes (listed_family s)) (header_numbered s) h.headed
      ∙ rw (h.no6, h.no7, h.no9, h.no10)

  place_none : LevelsClear s → first_cause (place_causes s) ≡ 0
  unfolding place_causes first_cause
  place_none h = rw (h.no26, h.no27)

  pub levels_none : LevelsClear s → AcceptedLevels s
  unfolding level_file_causes
  levels_none h = join_clear (form_causes s) (place_causes s) (form_numbered s) (form_none h) ∙ place_none h

  -- Calls.

  pub to_none : (room : ℕ) → Accepted s → length s + 128 ≤ room → first_cause (to_levels_causes s room) ≡ 0
  unfolding to_levels_causes short first_cause
  to_none room h l = join_clear (file_causes s) _ (file_numbered s) h ∙ rw (le-ltb room (length s + 128) l)

  pub from_none : (room : ℕ) → AcceptedLevels s → length s - 128 ≤ room → first_cause (from_levels_causes s room) ≡ 0
  unfolding from_levels_causes short first_cause
  from_none room h l =
      join_clear (form_causes s) _ (form_numbered s) (form_clear h) ∙ rw (le-ltb room (length s - 128) l) (place_none (levels_clear h))

  -- Marks.

  other_mark : (wanted : List ℕ) → same_list (take 4 s) wanted ≡ false → cause1 wanted s ≡ true
  unfolding cause1
  other_mark wanted h = or_r (ltb (length s) 16) (not (same_list (take 4 s) wanted)) (not_passes (same_list (take 4 s) wanted) h)

  not_family_mark : take 4 s ≡ level_mark → same_list (take 4 s) mark ≡ false
  unfolding same_list level_mark mark
  not_family_mark e = rw e

  not_level_mark : take 4 s ≡ mark → same_list (take 4 s) level_mark ≡ false
  unfolding same_list level_mark mark
  not_level_mark e = rw e

  pub levels_refused : take 4 s ≡ level_mark → first_cause (file_causes s) ≡ 1
  levels_refused e =
      let one = header_1 s (other_mark mark (not_family_mark e)) in
      file_header s (λ z. absurd (omega arith)) ∙ one

  pub family_refused : take 4 s ≡ mark → (room : ℕ) → first_cause (from_levels_causes s room) ≡ 1
  unfolding from_levels_causes form_causes level_header_causes
  family_refused e room = first_holds _ _ (other_mark level_mark (not_level_mark e))
