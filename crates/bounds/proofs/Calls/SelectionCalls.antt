-- What the calls with a selection answer and write, from what their causes say.
use Prim.Native.Nat.{ℕ, ◌≤◌}
use mathlib.Core.Bool.{true, false, cond}
use mathlib.Core.List.{List, [], ◌∷◌, ◌++◌}
use mathlib.Core.Path.{◌≡◌, sym, ap, ◌∙◌}
use native.Mathlib.Omega.{arith}
use lib.Dec.{ltb}
use lib.ListN.{length, drop}
use borrow.Author.Tests.{ltb-false, le-ltb}
use Rattle.std.specs.Prelude.{Ok, Err}
use Rattle.reader.specs.declared.refusal.Refusal.{Refusal}
use Rattle.reader.specs.Refusals.{number_of, report}
use Rattle.reader.specs.Bytes.{IsBytes}
use Rattle.reader.specs.Family.{family_of, region_count}
use Rattle.reader.specs.Causes.{first_cause, file_causes, Accepted}
use Rattle.reader.specs.Calls.{answer, written, short}
use Rattle.reader.proofs.First.{head_clear, join_clear, clear_left, clear_right, writes}
use Rattle.reader.proofs.Accepting.{well_formed_lem, file_numbered, file_lacks}
use Rattle.reader.proofs.Refusals.{Lacks, lacks_joined, says_ok, says_err}
use Rattle.bounds.specs.Selections.{cause14, bound_of}
use Rattle.bounds.specs.Private.Rows.{Ready}
use Rattle.bounds.specs.Calls.{the_number, causes_with_room, selection_causes}
use Rattle.bounds.proofs.Calls.Selecting.{right_length}

module _ (file selection : List ℕ) (room : ℕ) where
  -- The first cause, in the order in which they are tried.

  pub cause_14 : Accepted file → cause14 (family_of file).peptides selection ≡ true → first_cause (causes_with_room file selection room) ≡ 14
  unfolding causes_with_room first_cause
  cause_14 a h = join_clear (file_causes file) _ (file_numbered file) a ∙ rw h

  pub cause_16 : Accepted file → cause14 (family_of file).peptides selection ≡ false
      → first_cause (causes_with_room file selection room) ≡ cond (ltb room (region_count (family_of file))) 16 0
  unfolding causes_with_room short first_cause
  cause_16 a h = join_clear (file_causes file) _ (file_numbered file) a ∙ rw h

  pub selection_clear : Accepted file → cause14 (family_of file).peptides selection ≡ false → region_count (family_of file) ≤ room
      → first_cause (causes_with_room file selection room) ≡ 0
  selection_clear a h l = cause_16 a h ∙ rw (le-ltb room (region_count (family_of file)) l)

  -- Where none holds, the file is accepted, the selection has m bytes, and there is room.
  pub none_holds : first_cause (causes_with_room file selection room) ≡ 0
      → record { accepted : Accepted file; whole : length selection ≡ (family_of file).peptides; room : region_count (family_of file) ≤ room }
  unfolding causes_with_room short
  none_holds h =
      let rest = clear_right (file_causes file) _ (file_numbered file) h in
      let a = head_clear _ _ (omega arith) rest in
      let b = head_clear _ _ (omega arith) a.1 in
      record {
        accepted = clear_left (file_causes file) _ (file_numbered file) h;
        whole = right_length (family_of file).peptides selection a.0;
        room = ltb-false room (region_count (family_of file)) b.0;
      }

  pub none_ready : IsBytes file → first_cause (causes_with_room file selection room) ≡ 0 → Ready (family_of file) selection
  none_ready bytes h = let n = none_holds h in record { formed = well_formed_lem file bytes n.accepted; whole = n.whole }

  -- The answers.

  lacks_place : Lacks 13 (causes_with_room file selection room)
  unfolding causes_with_room
  lacks_place = lacks_joined 13 (file_causes file) _ (file_lacks file) (omega arith)

  pub refuses : (e : Refusal) (v : ℕ) → number_of e ≡ first_cause (causes_with_room file selection room)
      → report the_number (Err e) ≡ answer (causes_with_room file selection room) (v ∷ [])
  refuses e v h = says_err the_number (causes_with_room file selection room) _ e lacks_place h

  pub gives_bound : (v : ℕ) → first_cause (causes_with_room file selection room) ≡ 0 → v ≡ bound_of (family_of file) selection
      → report the_number (Ok v) ≡ answer (causes_with_room file selection room) (bound_of (family_of file) selection ∷ [])
  gives_bound v h e = says_ok the_number (causes_with_room file selection room) _ v h (ap the_number e)

module _ (file selection out : List ℕ) where
  -- The outputs.

  pub writes_all : (new after : List ℕ) → first_cause (selection_causes file selection out) ≡ 0 → length new ≡ region_count (family_of file)
      → after ≡ new ++ drop (region_count (family_of file)) out → after ≡ written (selection_causes file selection out) new out
  writes_all new after h e w =
      w ∙ sym (writes (selection_causes file selection out) h new out ∙ ap (λ (n : ℕ). new ++ drop n out) e)
