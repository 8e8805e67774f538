-- Causes 16 and 20 to 22: the first that holds, and what is known where none does; 16, 20 and 21 with any cause after them.
use Prim.Native.Nat.{ℕ, ◌+◌, ◌<◌, ◌≤◌}
use native.Mathlib.Numerals.{add-one}
use native.Mathlib.Omega.{arith}
use mathlib.Core.Bool.{Bool, true, false, cond, ◌||◌}
use mathlib.Core.List.{List, [], ◌∷◌, ◌++◌}
use mathlib.Core.Logic.{⊎_elim}
use mathlib.Core.Path.{◌≡◌, refl, sym, ◌∙◌}
use lib.ListN.{length, get_or}
use lib.Dec.{ltb}
use borrow.Author.Tests.{eqb-true, ltb-false, not-false, le-ltb, ne_eqb, eq-eqb}
use Rattle.reader.specs.Lists.{some_below}
use Rattle.reader.specs.Bytes.{IsBytes}
use Rattle.reader.specs.Family.{family_of}
use Rattle.reader.specs.Causes.{Cause, first_cause, file_causes, Accepted}
use Rattle.reader.specs.Refusals.{number_of}
use Rattle.reader.specs.Calls.{short, ParentsWrites}
use Rattle.reader.specs.declared.refusal.Refusal.{Refusal}
use Rattle.reader.proofs.Below.{none_at}
use Rattle.reader.proofs.First.{Numbered, head_clear, join_clear}
use Rattle.reader.proofs.Refusals.{number_some, first_of}
use Rattle.reader.proofs.Parsed.{byte_past}
use Rattle.reader.proofs.Accepting.{well_formed_lem, accepted_header, few_regions, file_numbered}
use Rattle.reader.proofs.ParentLaws.{enough_room, enough_first, parents_given}
use Rattle.bounds.proofs.Basics.Members.{le_or_lt}
use Rattle.pvalues.specs.FromP.{million, cause20, cause21, cause22}
use Rattle.pvalues.specs.Calls.{room_and_p_values, from_p_inputs, from_p_causes}
use Rattle.pvalues.specs.Private.Lowering.{PValues}
use Rattle.pvalues.specs.Private.Judging.{FromPJudged}

-- The p-values, one by one.

-- the p-value at a place is over 1,000,000
abbrev pub over_one : List ℕ → ℕ → Bool
over_one ps i = ltb million (get_or ps i 0)

pub values_none : (ps : List ℕ) → false ≡ some_below 0 (over_one ps)
unfolding some_below
values_none ps = refl

pub values_more : (ps : List ℕ) (i : ℕ) (before here : Bool) → before ≡ some_below i (over_one ps) → here ≡ over_one ps i → before || here ≡ some_below (i + 1) (over_one ps)
unfolding some_below
values_more ps i before here e h = rw (e, h, add-one i)

pub values_all : (ps : List ℕ) (i : ℕ) → i ≡ length ps → some_below i (over_one ps) ≡ cause21 ps
unfolding cause21
values_all ps i e = rw e

values_most : (ps : List ℕ) → cause21 ps ≡ false → (i : ℕ) → get_or ps i 0 ≤ million
unfolding cause21
values_most ps h i =
    ⊎_elim (λ (l : length ps ≤ i). omega (arith, byte_past ps i l)) (λ (l : i < length ps). ltb-false million (get_or ps i 0) (none_at (over_one ps) (length ps) i h l)) (le_or_lt (length ps) i)

-- The room and the p-values.

module _ (tooShort : Bool) (m : ℕ) (ps : List ℕ) where
  pub room_16 : tooShort ≡ true → 16 ≡ first_cause (room_and_p_values tooShort m ps)
  unfolding first_cause room_and_p_values
  room_16 s = rw s

  pub counted_20 : tooShort ≡ false → (length ps ≡ m → ⊥) → 20 ≡ first_cause (room_and_p_values tooShort m ps)
  unfolding first_cause room_and_p_values cause20
  counted_20 s k = rw (s, ne_eqb (length ps) m k)

  pub judged_21 : tooShort ≡ false → length ps ≡ m → cond (cause21 ps) 21 0 ≡ first_cause (room_and_p_values tooShort m ps)
  unfolding first_cause room_and_p_values cause20
  judged_21 s k = rw (s, eq-eqb (length ps) m k)

  inputs_numbered : Numbered (room_and_p_values tooShort m ps)
  unfolding room_and_p_values
  inputs_numbered = (omega arith, (omega arith, (omega arith, tt)))

  -- with one cause more
  module _ (c : Cause) where
    abbrev inputs : List Cause
    inputs = room_and_p_values tooShort m ps ++ (c ∷ [])

    pub last_judged : first_cause (room_and_p_values tooShort m ps) ≡ 0 → cond c.holds c.number 0 ≡ first_cause inputs
    unfolding first_cause
    last_judged none = sym (join_clear (room_and_p_values tooShort m ps) (c ∷ []) inputs_numbered none)

    -- where none holds
    pub inputs_none : tooShort ≡ false → cause20 m ps ≡ false → cause21 ps ≡ false → c.holds ≡ false → first_cause inputs ≡ 0
    unfolding first_cause room_and_p_values
    inputs_none s k l h = rw (s, k, l, h)

    pub inputs_known : 1 ≤ c.number → first_cause inputs ≡ 0
        → (tooShort ≡ false) × ((length ps ≡ m) × (((i : ℕ) → get_or ps i 0 ≤ million) × (c.holds ≡ false)))
    unfolding room_and_p_values cause20
    inputs_known some h =
        let a = head_clear _ _ (omega arith) h in
        let b = head_clear _ _ (omega arith) a.1 in
        let d = head_clear _ _ (omega arith) b.1 in
        let e = head_clear _ _ some d.1 in
        (a.0, (eqb-true (length ps) m (not-false _ b.0), (values_most ps d.0, e.0)))

-- Bounds from p-values: the causes in the order in which they are tried.

module _ (file ps : List ℕ) (deviationSquared room : ℕ) where
  pub first_input : Accepted file → first_cause (from_p_causes file ps deviationSquared room) ≡ first_cause (from_p_inputs file ps deviationSquared room)
  unfolding from_p_causes
  first_input h = join_clear (file_causes file) (from_p_inputs file ps deviationSquared room) (file_numbered file) h

  -- no cause holds
  pub none_holds : Accepted file → length file ≤ room → cause20 (family_of file).peptides ps ≡ false → cause21 ps ≡ false → cause22 deviationSquared ≡ false
      → first_cause (from_p_causes file ps deviationSquared room) ≡ 0
  unfolding from_p_inputs short
  none_holds accepted h k l m = first_input accepted ∙ inputs_none _ _ ps _ (le-ltb room (length file) h) k l m

  known : first_cause (from_p_inputs file ps deviationSquared room) ≡ 0 → PValues (family_of file) ps deviationSquared × (length file ≤ room)
  unfolding from_p_inputs short cause22
  known h =
      let k = inputs_known _ _ ps _ (omega arith) h in
      (record { values = k.1.0; most = k.1.1.0; constant = ltb-false 100000000 deviationSquared k.1.1.1 }, ltb-false room (length file) k.0)

  pub judged_refused : (P : List ℕ) (e : Refusal) → number_of e ≡ first_cause (file_causes file) → FromPJudged file ps deviationSquared room P (number_of e)
  unfolding from_p_causes
  judged_refused P e h = record { first = first_of e (file_causes file) h (from_p_inputs file ps deviationSquared room); ready = λ z. absurd (number_some e z) }

  -- an accepted file, whose parents stand in the list that `parents` leaves
  pub judged_accepted : IsBytes file → Accepted file → (out P : List ℕ) → 8191 ≤ length out → length P ≡ length out → ParentsWrites file out P
      → (n : ℕ) → n ≡ first_cause (from_p_inputs file ps deviationSquared room) → FromPJudged file ps deviationSquared room P n
  judged_accepted bytes accepted out P enough same writes n e =
      record {
        first = e ∙ sym (first_input accepted);
        ready =
            λ z.
            let w = well_formed_lem file bytes accepted in
            let k = known (sym e ∙ z) in
            record {
              accepted = accepted;
              parented =
                  record {
                    well = w;
                    nested =
                        record {
                          ordered = w.ordered;
                          nested = w.nested;
                          known = parents_given file out (enough_first file out enough ∙ accepted) P writes;
                          few = few_regions file (accepted_header file accepted);
                          room = omega (arith, enough_room file out enough accepted, same);
                        };
                  };
              known = k.0;
              fits = k.1;
            };
      }
