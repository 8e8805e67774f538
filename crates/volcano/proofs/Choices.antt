-- What `choose` has chosen, and which rules choose the same.
use Prim.Native.Nat.{ℕ, suc, ◌<◌, ◌≤◌}
use native.Mathlib.Omega.{arith}
use mathlib.Core.Bool.{Bool, true, false, ◌&&◌, ◌||◌}
use mathlib.Core.List.{List, ◌++◌}
use mathlib.Core.Path.{◌≡◌, refl, sym, ap, ◌∙◌}
use mathlib.Core.Logic.{⊎_elim, ◌↔◌}
use lib.ListN.{length, get_or, take, drop, get_or-append}
use lib.Seq.{take-append_seam, drop-append_seam}
use lib.Ieee.{Float, lt, le, is_nan}
use borrow.Author.Tests.{le-ltb}
use Rattle.reader.specs.Family.{family_of, region_count}
use Rattle.reader.specs.Causes.{Cause, first_cause, Accepted}
use Rattle.reader.specs.Calls.{written}
use Rattle.reader.proofs.Bools.{clash, or_neither}
use Rattle.reader.proofs.Below.{none_below}
use Rattle.reader.proofs.Lists.{length_tabulate, get_d_tabulate, tabulate_same}
use Rattle.reader.proofs.First.{writes, leaves_unchanged, none_or_some}
use Rattle.bounds.specs.Selections.{selected, cause14}
use Rattle.bounds.specs.Calls.{selection_causes}
use Rattle.bounds.proofs.Calls.Selecting.{over_one, right_selection}
use Rattle.bounds.proofs.Calls.SelectionCalls.{selection_clear}
use Rattle.bounds.proofs.Basics.Members.{bit, bit_few, eqb_bit}
use Rattle.volcano.specs.Rules.{passes, row_at, chosen, off_scale, not_finite, cause19}
use Rattle.volcano.specs.Calls.{choose_causes, ChooseWrites}
use Rattle.volcano.specs.declared.Row.{Row}
use Rattle.volcano.specs.declared.Rule.{Rule}
use Rattle.volcano.specs.declared.Rule.TheVariants.{AtMost, Between, Volcano}
use Rattle.volcano.proofs.Floats.{zero_of, none_between, zero_number, zero_not_under, zero_first, zero_side, numbers_if_under}
use Rattle.volcano.proofs.Judging.{byte_at, Clear, none_holds, p_at, fold_at}

-- New bytes whose first m are the selection of the rows that pass a rule, and the rest those of out.
pub record Selects (m : ℕ) (ps folds : List Float) (rule : Rule) (out new : List ℕ) : Type 0 where
  -- byte i is 1 exactly if row i passes
  pub one_if_passes : (i : ℕ) → i < m → (get_or new i 0 ≡ 1) ↔ (passes rule (row_at ps folds i) ≡ true)
  -- they are a selection of m peptides, so that every other byte is 0
  pub selection : cause14 m (take m new) ≡ false
  -- `bound` takes for selected the peptides whose row passes; peptide i + 1 has row i
  pub peptides : (i : ℕ) → i < m → selected (take m new) (suc i) ≡ passes rule (row_at ps folds i)
  pub rest : drop m new ≡ drop m out

-- Two rules that the same rows pass, of those that are accepted, and that every call answers alike, with the same number and the same
-- bytes.
pub record Alike (a b : Rule) : Type 0 where
  pub rows : (row : Row) → off_scale row.p ≡ false → not_finite row.fold ≡ false → passes a row ≡ passes b row
  pub number : (m : ℕ) (ps folds : List Float) (room : ℕ) → first_cause (choose_causes m ps folds a room) ≡ first_cause (choose_causes m ps folds b room)
  pub bytes : (m : ℕ) (ps folds : List Float) (out : List ℕ)
      → written (choose_causes m ps folds a (length out)) (chosen a ps folds) out ≡ written (choose_causes m ps folds b (length out)) (chosen b ps folds) out

pub record ChoiceLaws : Type 0 where
  -- A call for which no cause holds, after its promise.
  pub selects : (m : ℕ) (ps folds : List Float) (rule : Rule) (out new : List ℕ) → first_cause (choose_causes m ps folds rule (length out)) ≡ 0 → ChooseWrites m ps folds rule out new
      → Selects m ps folds rule out new
  -- `bound` accepts its first m bytes with every accepted family of m peptides and room for the taken bytes.
  pub bound_accepts : (m : ℕ) (ps folds : List Float) (rule : Rule) (out new : List ℕ) → first_cause (choose_causes m ps folds rule (length out)) ≡ 0 → ChooseWrites m ps folds rule out new
      → (file taken : List ℕ) → Accepted file → (family_of file).peptides ≡ m → region_count (family_of file) ≤ length taken
      → first_cause (selection_causes file (take m new) taken) ≡ 0
  -- At or under a cut is from 0 to the cut, and is outside the empty band.
  pub at_most_between : (s : Bool) (cut : Float) → Alike (AtMost cut) (Between (zero_of s) cut)
  pub at_most_volcano : (s : Bool) (cut : Float) → Alike (AtMost cut) (Volcano cut (zero_of s))
  -- From one cut to a smaller one there is nothing, and that is no refusal.
  pub nothing_between : (low high : Float) → lt high low ≡ true → (cause19 (Between low high) ≡ false) × ((row : Row) → passes (Between low high) row ≡ false)

-- The bytes.

module _ (rule : Rule) (ps folds : List Float) where
  chosen_length : length (chosen rule ps folds) ≡ length ps
  unfolding chosen
  chosen_length = length_tabulate (length ps) (byte_at rule ps folds)

  chosen_at : (i : ℕ) → i < length ps → get_or (chosen rule ps folds) i 0 ≡ byte_at rule ps folds i
  unfolding chosen
  chosen_at i l = get_d_tabulate (length ps) (byte_at rule ps folds) 0 i l

-- the output with a byte for each row is the one that is promised
pub writes_chosen : (m : ℕ) (ps folds : List Float) (rule : Rule) (out new : List ℕ) → first_cause (choose_causes m ps folds rule (length out)) ≡ 0
    → new ≡ chosen rule ps folds ++ drop (length ps) out → ChooseWrites m ps folds rule out new
writes_chosen m ps folds rule out new clear w =
    w ∙ sym (writes (choose_causes m ps folds rule (length out)) clear (chosen rule ps folds) out ∙ ap (λ (n : ℕ). chosen rule ps folds ++ drop n out) (chosen_length rule ps folds))

bit_one : (b : Bool) → (bit b ≡ 1) ↔ (b ≡ true)
bit_one true = (λ e. refl, λ e. refl)
bit_one false = (λ e. absurd (omega (arith, e)), λ e. absurd (clash e refl))

module _ (m : ℕ) (ps folds : List Float) (rule : Rule) (out new : List ℕ) (clear : first_cause (choose_causes m ps folds rule (length out)) ≡ 0) (w : ChooseWrites m ps folds rule out new) where
  known : Clear m ps folds (length out)
  known = none_holds m ps folds rule (length out) clear

  chosen_rows : length (chosen rule ps folds) ≡ m
  chosen_rows = chosen_length rule ps folds ∙ known.p_rows

  new_is : new ≡ chosen rule ps folds ++ drop m out
  new_is = w ∙ writes (choose_causes m ps folds rule (length out)) clear (chosen rule ps folds) out ∙ ap (λ (n : ℕ). chosen rule ps folds ++ drop n out) chosen_rows

  front_is : take m new ≡ chosen rule ps folds
  front_is = rw (new_is, ← chosen_rows) (take-append_seam (chosen rule ps folds) (drop (length (chosen rule ps folds)) out))

  front_at : (i : ℕ) → i < m → get_or (chosen rule ps folds) i 0 ≡ byte_at rule ps folds i
  front_at i l = chosen_at rule ps folds i (omega (arith, known.p_rows))

  byte_at_lem : (i : ℕ) → i < m → get_or new i 0 ≡ byte_at rule ps folds i
  byte_at_lem i l = ap (λ (s : List ℕ). get_or s i 0) new_is ∙ get_or-append (chosen rule ps folds) (drop m out) 0 i (omega (arith, chosen_rows)) ∙ front_at i l

  is_selection : cause14 m (take m new) ≡ false
  is_selection =
      rw front_is
      (right_selection m (chosen rule ps folds) chosen_rows
      (none_below (over_one (chosen rule ps folds)) (length (chosen rule ps folds))
      (λ i l. rw (front_at i (omega (arith, chosen_rows))) (le-ltb 1 _ (bit_few (passes rule (row_at ps folds i)))))))

  selected_at : (i : ℕ) → i < m → selected (take m new) (suc i) ≡ passes rule (row_at ps folds i)
  unfolding selected
  selected_at i l = rw (front_is, front_at i l) (eqb_bit (passes rule (row_at ps folds i)))

  made_selection : Selects m ps folds rule out new
  made_selection =
      record {
        one_if_passes = λ i l. rw (byte_at_lem i l) (bit_one (passes rule (row_at ps folds i)));
        selection = is_selection;
        peptides = selected_at;
        rest = rw (new_is, ← chosen_rows) (drop-append_seam (chosen rule ps folds) (drop (length (chosen rule ps folds)) out));
      }

-- Rules that choose the same.

module _ (a b : Rule) (same-cause : cause19 a ≡ cause19 b) (same_rows : (row : Row) → off_scale row.p ≡ false → not_finite row.fold ≡ false → passes a row ≡ passes b row) where
  same_number : (m : ℕ) (ps folds : List Float) (room : ℕ) → first_cause (choose_causes m ps folds a room) ≡ first_cause (choose_causes m ps folds b room)
  unfolding choose_causes
  same_number m ps folds room = rw same-cause

  same_chosen : (m : ℕ) (ps folds : List Float) (room : ℕ) → first_cause (choose_causes m ps folds a room) ≡ 0 → chosen a ps folds ≡ chosen b ps folds
  unfolding chosen
  same_chosen m ps folds room h =
      let known = none_holds m ps folds a room h in
      tabulate_same (length ps) (byte_at a ps folds) (byte_at b ps folds)
      (λ i l. ap bit (same_rows (row_at ps folds i) (p_at ps folds known.rows_clear i l) (fold_at ps folds known.rows_clear i (omega (arith, known.p_rows, known.fold_rows)))))

  same_bytes : (m : ℕ) (ps folds : List Float) (out : List ℕ)
      → written (choose_causes m ps folds a (length out)) (chosen a ps folds) out ≡ written (choose_causes m ps folds b (length out)) (chosen b ps folds) out
  same_bytes m ps folds out =
      let e = same_number m ps folds (length out) in
      let A : List Cause = choose_causes m ps folds a (length out) in
      let B : List Cause = choose_causes m ps folds b (length out) in
      ⊎_elim
      (λ (h : first_cause A ≡ 0). rw (same_chosen m ps folds (length out) h) (writes A h (chosen b ps folds) out ∙ sym (writes B (sym e ∙ h) (chosen b ps folds) out)))
      (λ (h : first_cause A ≡ 0 → ⊥). leaves_unchanged A h (chosen a ps folds) out ∙ sym (leaves_unchanged B (λ z. h (e ∙ z)) (chosen b ps folds) out))
      (none_or_some A)

  alike : Alike a b
  alike = record { rows = same_rows; number = same_number; bytes = same_bytes }

or_nothing : (b : Bool) → b || false ≡ b
or_nothing true = refl
or_nothing false = refl

and_all : (b : Bool) → b && true ≡ b
and_all true = refl
and_all false = refl

module _ (s : Bool) (cut : Float) where
  from_zero : Alike (AtMost cut) (Between (zero_of s) cut)
  unfolding passes cause19 off_scale
  from_zero =
      alike (AtMost cut) (Between (zero_of s) cut) (rw (zero_number s))
      (λ row p fold. rw (zero_first s row.p p))

  outside_nothing : Alike (AtMost cut) (Volcano cut (zero_of s))
  unfolding passes cause19
  outside_nothing =
      alike (AtMost cut) (Volcano cut (zero_of s)) (rw (zero_number s, zero_not_under s) (sym (or_nothing (is_nan cut))))
      (λ row p fold. rw (zero_side s row.fold fold) (sym (and_all (le row.p cut))))

nothing_passes : (low high : Float) → lt high low ≡ true → (cause19 (Between low high) ≡ false) × ((row : Row) → passes (Between low high) row ≡ false)
unfolding passes cause19
nothing_passes low high h = (or_neither (is_nan low) (is_nan high) (numbers_if_under high low h).1 (numbers_if_under high low h).0, λ row. none_between low row.p high h)

pub choice_laws : ChoiceLaws
choice_laws =
    record {
      selects = made_selection;
      bound_accepts = λ m ps folds rule out new h w file taken a e room. selection_clear file (take m new) (length taken) a (rw e (is_selection m ps folds rule out new h w)) room;
      at_most_between = from_zero;
      at_most_volcano = outside_nothing;
      nothing_between = nothing_passes;
    }
