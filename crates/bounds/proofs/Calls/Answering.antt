-- What the calls with a path answer and write, by the first cause that holds.
use Prim.Native.Nat.{ℕ, ◌+◌, ◌≤◌}
use mathlib.Core.Bool.{Bool, true, false, not, ◌||◌}
use mathlib.Core.List.{List, [], ◌∷◌, ◌++◌}
use mathlib.Core.Logic.{⊎_elim}
use mathlib.Core.Path.{◌≡◌, sym, ap, ◌∙◌}
use native.Mathlib.Omega.{arith}
use lib.ListN.{length, drop}
use lib.Dec.{eqb}
use borrow.Author.Tests.{eq-eqb, ne_eqb, le-ltb}
use Rattle.reader.specs.Family.{Family, family_of}
use Rattle.reader.specs.Causes.{Cause, first_cause, Accepted}
use Rattle.reader.specs.Calls.{Report, short}
use Rattle.reader.proofs.Bools.{not_passes, not_fails}
use Rattle.reader.proofs.Lists.{length_tabulate}
use Rattle.reader.proofs.First.{first_holds, first_fails, join_clear, join_holds, writes, leaves_unchanged, none_or_some}
use Rattle.bounds.specs.Curves.{curve_values, curve_marks, cut_of, entry, mark_at, cause15}
use Rattle.bounds.specs.Calls.{IsPath, input_causes, curve_causes, cut_causes, path_refusal, path_answer, CurveValuesWrites, CurveMarksWrites}
use Rattle.bounds.specs.Private.Walks.{InputRefused}
use Rattle.bounds.proofs.Calls.PathLaws.{input_path, input_numbered, input_few}

-- The answer of a call with a path.

module _ (cs : List Cause) (path result : List ℕ) where
  pub path_answers : first_cause cs ≡ 0 → path_answer cs path result ≡ record { number = 0; values = result }
  unfolding path_answer
  path_answers h = rw h

  pub path_refuses : (first_cause cs ≡ 0 → ⊥) → path_answer cs path result ≡ path_refusal path (first_cause cs)
  unfolding path_answer
  path_refuses h = rw (ne_eqb (first_cause cs) 0 h)

  pub path_number : (path_answer cs path result).number ≡ first_cause cs
  unfolding path_refusal
  path_number =
      let number : Report → ℕ = λ r. r.number in
      ⊎_elim (λ none. ap number (path_answers none) ∙ sym none) (λ some. ap number (path_refuses some)) (none_or_some cs)

-- The causes of a family and a path, and more causes.

module _ (file path : List ℕ) where
  -- a family or a path that is refused is refused so by every call with them, whatever else it tries and gives
  refused_so : (more : List Cause) (result : List ℕ) (r : Report) → InputRefused file path r → r ≡ path_answer (input_causes file path ++ more) path result
  refused_so more result r h =
      let same = join_holds (input_causes file path) more h.some in
      h.told ∙ ap (path_refusal path) (sym same) ∙ sym (path_refuses _ path result (λ z. h.some (sym same ∙ z)))

  -- where these do not hold, the first of what is tried after them is told
  pub late_refused : (more : List Cause) (result : List ℕ) (n : ℕ) → first_cause (input_causes file path) ≡ 0
      → n ≡ first_cause more → (n ≡ 0 → ⊥) → (n ≡ 13 → ⊥) → record { number = n; values = [] } ≡ path_answer (input_causes file path ++ more) path result
  unfolding path_refusal
  late_refused more result n clear e some other =
      let first : first_cause (input_causes file path ++ more) ≡ n = join_clear (input_causes file path) more (input_numbered file path) clear ∙ sym e in
      sym (path_refuses _ path result (λ z. some (sym first ∙ z)) ∙ ap (path_refusal path) first ∙ rw (ne_eqb n 13 other))

  refused_some : (more : List Cause) (r : Report) → InputRefused file path r → first_cause (input_causes file path ++ more) ≡ 0 → ⊥
  refused_some more r h z = h.some (sym (join_holds (input_causes file path) more h.some) ∙ z)

module _ (file path : List ℕ) (c : Cause) (clear : first_cause (input_causes file path) ≡ 0) where
  last_holds : c.holds ≡ true → first_cause (input_causes file path ++ (c ∷ [])) ≡ c.number
  last_holds t = join_clear (input_causes file path) (c ∷ []) (input_numbered file path) clear ∙ first_holds c [] t

  none_holds : c.holds ≡ false → first_cause (input_causes file path ++ (c ∷ [])) ≡ 0
  unfolding first_cause
  none_holds f = join_clear (input_causes file path) (c ∷ []) (input_numbered file path) clear ∙ first_fails c [] f

-- The curve.

module _ (file path values marks : List ℕ) where
  -- with a path, and room for the values and the marks, no cause holds
  pub curve_clear : Accepted file → IsPath (family_of file).peptides path → length path + 1 ≤ length values → length path ≤ length marks
      → first_cause (curve_causes file path values marks) ≡ 0
  unfolding curve_causes short
  curve_clear a is more room =
      none_holds file path _ (input_path file path a ∙ is)
      (rw (le-ltb (length values) (length path + 1) more, le-ltb (length marks) (length path) room))

  -- the answer, what stands in the lent lists afterwards, and whether the answer is a refusal
  abbrev pub CurveDone : Report → List ℕ → List ℕ → Bool → Type 0
  CurveDone r v w declined =
      record {
        curve_answers : r ≡ path_answer (curve_causes file path values marks) path [];
        curve_values_writes : CurveValuesWrites file path values marks v;
        curve_marks_writes : CurveMarksWrites file path values marks w;
        curve_declines : declined ≡ not (eqb (first_cause (curve_causes file path values marks)) 0);
      }

  curve_stops : (r : Report) → r ≡ path_answer (curve_causes file path values marks) path [] → (first_cause (curve_causes file path values marks) ≡ 0 → ⊥)
      → CurveDone r values marks true
  curve_stops r a some =
      let cs : List Cause = curve_causes file path values marks in
      record {
        curve_answers = a;
        curve_values_writes = sym (leaves_unchanged cs some _ values);
        curve_marks_writes = sym (leaves_unchanged cs some _ marks);
        curve_declines = sym (not_passes (eqb (first_cause cs) 0) (ne_eqb (first_cause cs) 0 some));
      }

  pub curve_refuses : (r : Report) → InputRefused file path r → CurveDone r values marks true
  unfolding curve_causes
  curve_refuses r h = curve_stops r (refused_so file path _ [] r h) (refused_some file path _ r h)

  -- values under T + 1, or marks under T
  pub curve_short : first_cause (input_causes file path) ≡ 0 → (short (length path + 1) (length values) || short (length path) (length marks)) ≡ true
      → CurveDone (record { number = 16; values = [] }) values marks true
  unfolding curve_causes
  curve_short e s =
      let first : first_cause (curve_causes file path values marks) ≡ 16 = last_holds file path _ e s in
      curve_stops _ (late_refused file path _ [] 16 e (sym (first_holds _ [] s)) (λ z. omega arith) (λ z. omega arith)) (λ z. omega (arith, first))

  pub curve_writes : (v w : List ℕ) → first_cause (input_causes file path) ≡ 0 → (short (length path + 1) (length values) || short (length path) (length marks)) ≡ false
      → v ≡ curve_values (family_of file) path ++ drop (length path + 1) values → w ≡ curve_marks (family_of file) path ++ drop (length path) marks
      → CurveDone (record { number = 0; values = [] }) v w false
  unfolding curve_causes curve_values curve_marks
  curve_writes v w e s ev ew =
      let F : Family = family_of file in
      let first = none_holds file path _ e s in
      record {
        curve_answers = sym (path_answers _ path [] first);
        curve_values_writes = ev ∙ rw (writes _ first (curve_values F path) values, length_tabulate (length path + 1) (entry F path));
        curve_marks_writes = ew ∙ rw (writes _ first (curve_marks F path) marks, length_tabulate (length path) (λ i. mark_at F path (i + 1)));
        curve_declines = sym (not_fails _ (eq-eqb _ 0 first));
      }

  -- With room for the largest path, a call is declined by the causes of the family and the path alone: the refusal is then that of every
  -- call that tries these first.
  module _ (more : 4097 ≤ length values) (room : 4096 ≤ length marks) where
    pub curve_judges : first_cause (curve_causes file path values marks) ≡ first_cause (input_causes file path)
    unfolding curve_causes short
    curve_judges =
        ⊎_elim
        (λ none.
        let few = input_few file path none in
        none_holds file path _ none (rw (le-ltb (length values) (length path + 1) (omega arith), le-ltb (length marks) (length path) (omega arith))) ∙ sym none)
        (λ some. join_holds (input_causes file path) _ some)
        (none_or_some (input_causes file path))

    pub curve_refuses_so : (r : Report) → r ≡ path_answer (curve_causes file path values marks) path [] → (first_cause (input_causes file path) ≡ 0 → ⊥)
        → (others : List Cause) (result : List ℕ) → r ≡ path_answer (input_causes file path ++ others) path result
    curve_refuses_so r e some others result =
        refused_so file path others result r
        (record { some = some; told = e ∙ path_refuses _ path [] (λ z. some (sym curve_judges ∙ z)) ∙ ap (path_refusal path) curve_judges })

-- The cut.

module _ (file path : List ℕ) (a b : ℕ) where
  -- with a path and a fraction no cause holds
  pub cut_clear : Accepted file → IsPath (family_of file).peptides path → cause15 a b ≡ false → first_cause (cut_causes file path a b) ≡ 0
  unfolding cut_causes
  cut_clear accepted is fraction = none_holds file path _ (input_path file path accepted ∙ is) fraction

  abbrev pub CutDone : Report → Type 0
  CutDone r = r ≡ path_answer (cut_causes file path a b) path (cut_of (family_of file) path a b ∷ [])

  pub cut_refuses : (r : Report) → InputRefused file path r → CutDone r
  unfolding cut_causes
  cut_refuses r h = refused_so file path _ _ r h

  pub cut_no_fraction : first_cause (input_causes file path) ≡ 0 → cause15 a b ≡ true → CutDone (record { number = 15; values = [] })
  unfolding cut_causes
  cut_no_fraction e h = late_refused file path _ _ 15 e (sym (first_holds _ [] h)) (λ z. omega arith) (λ z. omega arith)

  pub cut_answers : (t : ℕ) → first_cause (input_causes file path) ≡ 0 → cause15 a b ≡ false → t ≡ cut_of (family_of file) path a b
      → CutDone (record { number = 0; values = t ∷ [] })
  unfolding cut_causes
  cut_answers t e h q = rw q (sym (path_answers _ path _ (none_holds file path _ e h)))
