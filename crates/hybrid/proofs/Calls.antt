-- What `hybrid` answers and writes, by the first cause that holds.
use Prim.Native.Nat.{ℕ, ◌+◌, ◌<◌, ◌≤◌}
use native.Mathlib.Omega.{arith}
use mathlib.Core.Bool.{Bool, true, false, not, cond}
use mathlib.Core.List.{List, [], ◌++◌}
use mathlib.Core.Path.{◌≡◌, sym, ap, ◌∙◌}
use lib.ListN.{length, get_or, drop, get_or-append}
use lib.Dec.{eqb, ltb}
use borrow.Author.Tests.{eqb-false, ltb-false, le-ltb, ne_eqb, eq-eqb}
use Rattle.reader.specs.Lists.{tabulate}
use Rattle.reader.specs.Family.{Family, family_of}
use Rattle.reader.specs.Causes.{Cause, first_cause, Accepted}
use Rattle.reader.specs.Refusals.{number_of, beside, Report}
use Rattle.reader.specs.Calls.{short}
use Rattle.reader.specs.declared.refusal.Refusal.{Refusal}
use Rattle.reader.proofs.Refusals.{number_some, nothing_beside}
use Rattle.reader.proofs.First.{join_clear, join_holds, writes, leaves_unchanged}
use Rattle.reader.proofs.Bools.{or_fails_l, clash, not_passes, not_fails}
use Rattle.reader.proofs.Lists.{length_tabulate, tabulate_same}
use Rattle.reader.proofs.Judged.{peptides_counted}
use Rattle.reader.proofs.Accepting.{accepted_header}
use Rattle.bounds.specs.Curves.{entry, curve_values}
use Rattle.bounds.specs.Calls.{IsPath, input_causes, curve_causes, path_answer, CurveValuesWrites}
use Rattle.bounds.proofs.Calls.PathLaws.{input_path, input_numbered, input_accepted}
use Rattle.bounds.proofs.Calls.Answering.{path_answers, late_refused, curve_judges, curve_refuses_so}
use Rattle.bounds.proofs.Theory.CurveTheorem.{value_at_lem}
use Rattle.pvalues.specs.FromP.{million, cause20, cause21}
use Rattle.pvalues.specs.Calls.{room_and_p_values}
use Rattle.pvalues.proofs.Judging.{inputs_none, inputs_known}
use Rattle.hybrid.specs.Hybrid.{hybrid_entry, hybrid_values, cause23}
use Rattle.hybrid.specs.Calls.{hybrid_inputs, hybrid_causes, HybridWrites}
use Rattle.hybrid.specs.Private.Simes.{SimesInputs, smaller_at}

-- The causes in the order in which they are tried.

module _ (file path ps : List ℕ) (level room : ℕ) where
  hybrid_first : first_cause (input_causes file path) ≡ 0 → first_cause (hybrid_causes file path ps level room) ≡ first_cause (hybrid_inputs file path ps level room)
  unfolding hybrid_causes
  hybrid_first h = join_clear (input_causes file path) (hybrid_inputs file path ps level room) (input_numbered file path) h

  -- no cause holds
  pub hybrid_clear : Accepted file → IsPath (family_of file).peptides path → length path + 1 ≤ room → cause20 (family_of file).peptides ps ≡ false → cause21 ps ≡ false → cause23 level ≡ false
      → first_cause (hybrid_causes file path ps level room) ≡ 0
  unfolding hybrid_inputs short
  hybrid_clear accepted is h k l m = hybrid_first (input_path file path accepted ∙ is) ∙ inputs_none _ _ ps _ (le-ltb room (length path + 1) h) k l m

  -- what is known where none holds
  pub hybrid_known : first_cause (input_causes file path) ≡ 0 → first_cause (hybrid_inputs file path ps level room) ≡ 0
      → SimesInputs (family_of file).peptides path ps level × (length path < room)
  unfolding hybrid_inputs short cause23
  hybrid_known clear h =
      let a = input_accepted file path clear in
      let m = peptides_counted (family_of file).peptides (accepted_header file a.0).no2 in
      let k = inputs_known _ _ ps _ (omega arith) h in (
        record {
          some = m.0;
          few = m.1;
          is_path = a.1;
          values = k.1.0;
          most = k.1.1.0;
          level_some = some_level (eqb-false level 0 (or_fails_l (eqb level 0) (ltb million level) k.1.1.1));
        },
        omega (arith, ltb-false room (length path + 1) k.0),
      )
    where
      some_level : (level ≡ 0 → ⊥) → 0 < level
      some_level h = omega arith

  -- no number of these is 13, with which a place would come
  hybrid_not_13 : first_cause (hybrid_inputs file path ps level room) ≡ 13 → ⊥
  unfolding hybrid_inputs room_and_p_values first_cause
  hybrid_not_13 = go (short (length path + 1) room) (cause20 (family_of file).peptides ps) (cause21 ps) (cause23 level)
    where
      go : (a b c d : Bool) → ◌≡◌ {A = ℕ} (cond a 16 (cond b 20 (cond c 21 (cond d 23 0)))) 13 → ⊥
      go true b c d e = omega arith
      go false true c d e = omega arith
      go false false true d e = omega arith
      go false false false true e = omega arith
      go false false false false e = omega arith

-- The answer, what stands in the lent list afterwards, and whether the answer is a refusal.

module _ (file path ps : List ℕ) (level : ℕ) (values : List ℕ) where
  abbrev causes : List Cause
  causes = hybrid_causes file path ps level (length values)

  abbrev pub HybridDone : Report → List ℕ → Bool → Type 0
  HybridDone r new declined =
      (r ≡ path_answer causes path [])
      × (HybridWrites file path ps level values new
      × (declined ≡ not (eqb (first_cause causes) 0)))

  hybrid_stops : (r : Report) → r ≡ path_answer causes path [] → (first_cause causes ≡ 0 → ⊥) → HybridDone r values true
  hybrid_stops r a some = (a, (sym (leaves_unchanged causes some _ values), sym (not_passes (eqb (first_cause causes) 0) (ne_eqb (first_cause causes) 0 some))))

  -- a refusal of `curve` with room for the largest path
  pub hybrid_refuses : (region marks : List ℕ) → 4097 ≤ length region → 4096 ≤ length marks → (r : Report) → r ≡ path_answer (curve_causes file path region marks) path []
      → true ≡ not (eqb (first_cause (curve_causes file path region marks)) 0) → HybridDone r values true
  unfolding hybrid_causes
  hybrid_refuses region marks more room r e declined =
      let same = curve_judges file path region marks more room in
      let some : first_cause (input_causes file path) ≡ 0 → ⊥ = λ z. clash (sym declined) (not_fails _ (eq-eqb _ 0 (same ∙ z))) in
      hybrid_stops r (curve_refuses_so file path region marks more room r e some _ [])
      (λ z. some (sym (join_holds (input_causes file path) (hybrid_inputs file path ps level (length values)) some) ∙ z))

  -- what is tried after the family and the path holds
  pub hybrid_declines : (e : Refusal) → first_cause (input_causes file path) ≡ 0 → number_of e ≡ first_cause (hybrid_inputs file path ps level (length values))
      → HybridDone (record { number = number_of e; values = beside e }) values true
  unfolding hybrid_causes
  hybrid_declines e clear h =
      let other : number_of e ≡ 13 → ⊥ = λ z. hybrid_not_13 file path ps level (length values) (sym h ∙ z) in
      hybrid_stops _
      (ap (λ (l : List ℕ). record { number = number_of e; values = l }) (nothing_beside e other) ∙ late_refused file path _ [] (number_of e) clear h (number_some e) other)
      (λ z. number_some e (h ∙ sym (hybrid_first file path ps level (length values) clear) ∙ z))

  -- no cause holds, and the smaller of a list and of the Simes bound is written, where the list has the region curve
  pub hybrid_writes : (m : ℕ) (curve new : List ℕ) → first_cause (input_causes file path) ≡ 0 → first_cause (hybrid_inputs file path ps level (length values)) ≡ 0
      → m ≡ (family_of file).peptides → ((t : ℕ) → t ≤ length path → get_or curve t 0 ≡ entry (family_of file) path t)
      → new ≡ tabulate (length path + 1) (smaller_at m ps level path curve) ++ drop (length path + 1) values → HybridDone (record { number = 0; values = [] }) new false
  unfolding hybrid_values hybrid_entry
  hybrid_writes m curve new clear none e region written =
      let F : Family = family_of file in
      let first = hybrid_first file path ps level (length values) clear ∙ none in
      let same = tabulate_same (length path + 1) (smaller_at m ps level path curve) (hybrid_entry F ps level path) (λ t l. rw (e, region t (omega arith))) in (
        sym (path_answers causes path [] first),
        (
          written ∙ rw (same, writes causes first (hybrid_values F ps level path) values, length_tabulate (length path + 1) (hybrid_entry F ps level path)),
          sym (not_fails _ (eq-eqb _ 0 first)),
        ),
      )

-- the region curve that `curve` has left
pub region_curve : (file path region marks new : List ℕ) → first_cause (curve_causes file path region marks) ≡ 0 → CurveValuesWrites file path region marks new
    → (t : ℕ) → t ≤ length path → get_or new t 0 ≡ entry (family_of file) path t
unfolding curve_values
region_curve file path region marks new clear e t h =
    let F : Family = family_of file in
    ap (λ (l : List ℕ). get_or l t 0) (e ∙ writes _ clear (curve_values F path) region)
    ∙ get_or-append (curve_values F path) _ 0 t (omega (arith, length_tabulate (length path + 1) (entry F path)))
    ∙ value_at_lem F path t h
