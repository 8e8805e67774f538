-- Demand 2: the curve and the bound are formula (3). Every sentence of it, over all accepted files, of what the calls leave by their promises.
-- `IsLargest m R S v` says that v is the largest count of S in any admissible set, where the ranges R are those of the regions.
use Prim.Native.Nat.{ℕ, zero, suc, ◌+◌, ◌≤◌, ◌<◌}
use mathlib.Core.Bool.{◌&&◌}
use mathlib.Core.List.{List, [], ◌∷◌}
use mathlib.Core.Path.{◌≡◌, refl, sym, ap, ◌∙◌, fun_ext}
use native.Mathlib.Omega.{arith}
use lib.ListN.{length, get_or, take, get_or-append}
use borrow.Author.Tests.{eq-eqb}
use Rattle.reader.specs.Lists.{some_below}
use Rattle.reader.specs.Family.{Family, family_of}
use Rattle.reader.specs.Causes.{first_cause, AcceptedFile}
use Rattle.std.specs.Prelude.{Result, Ok, Err}
use Rattle.reader.specs.declared.refusal.Refusal.{Refusal}
use Rattle.reader.specs.Refusals.{Report}
use Rattle.reader.proofs.Bools.{not_fails, clash}
use Rattle.reader.proofs.Lists.{length_tabulate}
use Rattle.reader.proofs.First.{writes}
use Rattle.reader.proofs.Refusals.{number_some, some_holds, learns_ok, learns_err}
use Rattle.bounds.specs.Ranges.{Range, Peptides, card, ranges_of, those}
use Rattle.bounds.specs.Bound.{Admissible, IsLargest, is_taken, taken_bytes, taken_by, taken_sum}
use Rattle.bounds.specs.Selections.{selected, bound_of, taken_of}
use Rattle.bounds.specs.Curves.{among, entry, curve_values, mark_at, curve_marks, cut_of, IsCut}
use Rattle.bounds.specs.Paths.{marked}
use Rattle.bounds.specs.Calls.{the_number, selection_causes, curve_causes, cut_causes, BoundAnswers, CurveDeclines, CutAnswers}
use Rattle.bounds.specs.AcceptedCalls.{CurveCall, CutCall, BoundCall}
use Rattle.bounds.proofs.Theory.Greedy.{respects_facts}
use Rattle.bounds.proofs.Theory.Formula.{bound_same}
use Rattle.bounds.proofs.Theory.Taken.{taken_by_those, taken_by_most}
use Rattle.bounds.proofs.Theory.Family.{accepted_laminar}
use Rattle.bounds.proofs.Calls.SelectionCalls.{selection_clear}
use Rattle.bounds.proofs.Calls.Answering.{path_answers, curve_clear, cut_clear}
use Rattle.reader.proofs.Accepting.{well_formed_lem}
use Rattle.bounds.proofs.Calls.PathLaws.{accepted_path}
use Rattle.bounds.proofs.Theory.Marks.{entry_start}
use Rattle.bounds.proofs.Theory.CutTheorem.{cut_theorem}
use Rattle.bounds.proofs.Theory.Theorems.{bound_is_largest, taken_add_up}
use Rattle.bounds.proofs.Theory.CurveTheorem.{CurveAt, value_at_lem, curve_theorem}

-- m of an accepted file, and the ranges of its regions
abbrev pub peptides_in : AcceptedFile → ℕ
peptides_in f = (family_of f.file).peptides

abbrev pub ranges_in : AcceptedFile → List Range
ranges_in f = ranges_of (family_of f.file)

-- the same of the peptides 1 to m are in both sets
abbrev pub Agree : AcceptedFile → Peptides → Peptides → Type 0
Agree f S X = (p : ℕ) → 1 ≤ p → p ≤ peptides_in f → S p ≡ X p

pub record DemandTwo : Type 0 where
  -- For an accepted family, a path and lists with room, `curve` declines nothing.
  pub curve_answers : (f : AcceptedFile) (c : CurveCall f) → c.answer ≡ Ok (tt {0})
  -- Value t, as written, is the largest count of the first t peptides in any admissible set, for every t from 0 to T.
  pub value_largest : (f : AcceptedFile) (c : CurveCall f) (t : ℕ) → t ≤ length c.path
      → IsLargest (peptides_in f) (ranges_in f) (among (take t c.path)) (get_or c.values t 0)
  -- A written mark is 0 or 1, and the next value is larger by it.
  pub mark_bit : (f : AcceptedFile) (c : CurveCall f) (t : ℕ) → t < length c.path → get_or c.marks t 0 ≤ 1
  pub next_value : (f : AcceptedFile) (c : CurveCall f) (t : ℕ) → t < length c.path
      → get_or c.values (t + 1) 0 ≡ get_or c.values t 0 + get_or c.marks t 0
  -- For every t the peptides whose written mark is 1 among the first t are an admissible set
  pub marked_admissible : (f : AcceptedFile) (c : CurveCall f) (t : ℕ) → t ≤ length c.path
      → Admissible (peptides_in f) (ranges_in f) (marked c.path c.marks t)
  -- of as many peptides as value t says.
  pub marked_many : (f : AcceptedFile) (c : CurveCall f) (t : ℕ) → t ≤ length c.path
      → card (peptides_in f) (marked c.path c.marks t) ≡ get_or c.values t 0
  -- Value 0 is 0, so an empty path has the one value 0.
  pub starts_at_zero : (f : AcceptedFile) (c : CurveCall f) → get_or c.values 0 0 ≡ 0
  -- `cut` answers the largest t from 0 to T at which entry t times b is at most a times t.
  pub cut_largest : (f : AcceptedFile) (c : CutCall f) → (t : ℕ) × (c.answer ≡ Ok t) × IsCut (family_of f.file) c.path c.a c.b t
  -- For an accepted family, a selection and a list with room, `bound` answers a bound,
  pub bound_answers : (f : AcceptedFile) (b : BoundCall f) → (v : ℕ) × (b.answer ≡ Ok v)
  -- which is the largest count of the selection in any admissible set.
  pub bound_largest : (f : AcceptedFile) (b : BoundCall f) (v : ℕ) → b.answer ≡ Ok v
      → IsLargest (peptides_in f) (ranges_in f) (selected b.selection) v
  -- Value t of a curve is the bound of the first t peptides: where these are the selected ones, `bound` answers it.
  pub value_is_bound : (f : AcceptedFile) (c : CurveCall f) (b : BoundCall f) (t : ℕ) → t ≤ length c.path
      → Agree f (selected b.selection) (among (take t c.path)) → b.answer ≡ Ok (get_or c.values t 0)
  -- The z of the regions whose written byte is 1, plus the selected peptides in none of them, add up to the bound.
  pub taken_sum_lem : (f : AcceptedFile) (b : BoundCall f) (v : ℕ) → b.answer ≡ Ok v
      → taken_sum (peptides_in f) (ranges_in f) (selected b.selection) b.taken ≡ v
  -- So no admissible set has more of the selection than this sum.
  pub sum_most : (f : AcceptedFile) (b : BoundCall f) (A : Peptides) → Admissible (peptides_in f) (ranges_in f) A
      → card (peptides_in f) (λ p. A p && selected b.selection p) ≤ taken_sum (peptides_in f) (ranges_in f) (selected b.selection) b.taken
  -- This is so of any bytes, whoever wrote them: it is enough to add up the sum.
  pub certificate : (f : AcceptedFile) (selection bytes : List ℕ) (A : Peptides) → Admissible (peptides_in f) (ranges_in f) A
      → card (peptides_in f) (λ p. A p && selected selection p) ≤ taken_sum (peptides_in f) (ranges_in f) (selected selection) bytes

-- A call of `curve`.

-- marks that agree up to place t mark the same peptides
marked_same : (path M N : List ℕ) (t : ℕ) → ((i : ℕ) → i < t → get_or M i 0 ≡ get_or N i 0) → (p : ℕ) → marked path M t p ≡ marked path N t p
unfolding marked some_below
marked_same path M N zero h p = refl
marked_same path M N (suc t) h p = rw (marked_same path M N t (λ i l. h i (omega arith)) p, h t (omega arith))

module _ (f : AcceptedFile) (c : CurveCall f) where
  abbrev F : Family
  F = family_of f.file

  abbrev path : List ℕ
  path = c.path

  clear : first_cause (curve_causes f.file path c.old_values c.old_marks) ≡ 0
  clear = curve_clear f.file path c.old_values c.old_marks f.accepted c.is_path c.values_room c.marks_room

  answers_written : c.answer ≡ Ok (tt {0})
  answers_written = go c.answer c.declines
    where
      go : (r : Result (Unit {0}) Refusal) → CurveDeclines f.file path c.old_values c.old_marks r → r ≡ Ok (tt {0})
      go (Ok done) d = refl
      go (Err e) d = absurd (clash (sym d) (not_fails _ (eq-eqb _ 0 clear)))

  -- what it leaves, by places
  pub value_left : (t : ℕ) → t ≤ length path → get_or c.values t 0 ≡ get_or (curve_values F path) t 0
  unfolding curve_values
  value_left t h =
      ap (λ (l : List ℕ). get_or l t 0) (c.writes_values ∙ writes _ clear (curve_values F path) c.old_values)
      ∙ get_or-append (curve_values F path) _ 0 t (omega (arith, length_tabulate (length path + 1) (entry F path)))

  mark_left : (t : ℕ) → t < length path → get_or c.marks t 0 ≡ get_or (curve_marks F path) t 0
  unfolding curve_marks
  mark_left t h =
      ap (λ (l : List ℕ). get_or l t 0) (c.writes_marks ∙ writes _ clear (curve_marks F path) c.old_marks)
      ∙ get_or-append (curve_marks F path) _ 0 t (omega (arith, length_tabulate (length path) (λ i. mark_at F path (i + 1))))

  marked_left : (t : ℕ) → t ≤ length path → marked path c.marks t ≡ marked path (curve_marks F path) t
  marked_left t h = fun_ext (marked_same path c.marks (curve_marks F path) t (λ i l. mark_left i (omega arith)))

  curve_at : (t : ℕ) → t ≤ length path → CurveAt F path t
  curve_at = curve_theorem f.file f.bytes f.accepted path c.is_path

-- A call of `cut`.

module _ (f : AcceptedFile) (c : CutCall f) where
  abbrev the_cut : ℕ
  the_cut = cut_of (family_of f.file) c.path c.a c.b

  no_cause : first_cause (cut_causes f.file c.path c.a c.b) ≡ 0
  no_cause = cut_clear f.file c.path c.a c.b f.accepted c.is_path c.is_fraction

  answers_cut : c.answer ≡ Ok the_cut
  answers_cut = go c.answer c.answers
    where
      go : (r : Result ℕ Refusal) → CutAnswers f.file c.path c.a c.b r → r ≡ Ok the_cut
      go (Ok t) p = cc (ap (λ (r : Report). r.values) (p ∙ path_answers _ c.path (the_cut ∷ []) no_cause))
      go (Err e) p = absurd (number_some e (ap (λ (r : Report). r.number) (p ∙ path_answers _ c.path (the_cut ∷ []) no_cause)))

-- A call of `bound`.

module _ (f : AcceptedFile) (b : BoundCall f) where
  abbrev the_bound : ℕ
  the_bound = bound_of (family_of f.file) b.selection

  none : first_cause (selection_causes f.file b.selection b.old_taken) ≡ 0
  none = selection_clear f.file b.selection (length b.old_taken) f.accepted b.is_selection b.taken_room

  pub answers_bound : b.answer ≡ Ok the_bound
  answers_bound = go b.answer b.answers
    where
      go : (r : Result ℕ Refusal) → BoundAnswers f.file b.selection b.old_taken r → r ≡ Ok the_bound
      go (Ok n) p = cc (learns_ok the_number _ _ n p).1
      go (Err e) p = absurd (some_holds e _ (learns_err the_number _ _ e p).0 none)

  answered : (n : ℕ) → b.answer ≡ Ok n → n ≡ the_bound
  answered n e = cc answers_bound

  -- the regions whose byte is 1 are those taken
  taken_by_taken : taken_by b.taken (ranges_in f) ≡ those (is_taken (peptides_in f) (ranges_in f) (selected b.selection)) (ranges_in f)
  unfolding taken_of taken_bytes
  taken_by_taken =
      ap (λ (l : List ℕ). taken_by l (ranges_in f)) (b.writes_taken ∙ writes _ none (taken_of (family_of f.file) b.selection) b.old_taken)
      ∙ taken_by_those (is_taken (peptides_in f) (ranges_in f) (selected b.selection)) (ranges_in f) _

  sum_is : taken_sum (peptides_in f) (ranges_in f) (selected b.selection) b.taken ≡ the_bound
  unfolding taken_sum
  sum_is = rw taken_by_taken (sym (taken_add_up f.file f.bytes f.accepted b.selection))

  -- the bound of the first t peptides of a path
  first_bound : (c : CurveCall f) (t : ℕ) → t ≤ length c.path → Agree f (selected b.selection) (among (take t c.path))
      → the_bound ≡ get_or c.values t 0
  unfolding bound_of entry
  first_bound c t h same =
      bound_same (accepted_laminar f.file f.bytes f.accepted) (selected b.selection) (among (take t c.path)) same
      ∙ sym (value_left f c t h ∙ value_at_lem (family_of f.file) c.path t h)

no_more : (f : AcceptedFile) (selection bytes : List ℕ) (A : Peptides) → Admissible (peptides_in f) (ranges_in f) A
    → card (peptides_in f) (λ p. A p && selected selection p) ≤ taken_sum (peptides_in f) (ranges_in f) (selected selection) bytes
no_more f selection bytes A a = taken_by_most (peptides_in f) (ranges_in f) (selected selection) A bytes (respects_facts (peptides_in f) (ranges_in f) A a)

pub demand_two : DemandTwo
demand_two =
    record {
      curve_answers = answers_written;
      value_largest = λ f c t h. rw (value_left f c t h) (curve_at f c t h).largest;
      mark_bit = λ f c t h. rw (mark_left f c t h) ((curve_at f c t (omega arith)).mark h);
      next_value =
          λ f c t h.
          omega (arith, value_left f c t (omega arith), value_left f c (t + 1) (omega arith), mark_left f c t h, (curve_at f c t (omega arith)).next h);
      marked_admissible = λ f c t h. rw (marked_left f c t h) (curve_at f c t h).admissible;
      marked_many = λ f c t h. rw (marked_left f c t h, value_left f c t h) (curve_at f c t h).many;
      starts_at_zero =
          λ f c.
          value_left f c 0 (omega arith) ∙ value_at_lem (family_of f.file) c.path 0 (omega arith)
          ∙ entry_start (well_formed_lem f.file f.bytes f.accepted) (accepted_path (family_of f.file).peptides c.path c.is_path);
      cut_largest = λ f c. (the_cut f c, answers_cut f c, cut_theorem f.file f.bytes f.accepted c.path c.is_path c.a c.b);
      bound_answers = λ f b. (the_bound f b, answers_bound f b);
      bound_largest = λ f b n e. rw (answered f b n e) (bound_is_largest f.file f.bytes f.accepted b.selection);
      value_is_bound = λ f c b t h same. answers_bound f b ∙ ap Ok (first_bound f b c t h same);
      taken_sum_lem = λ f b n e. sum_is f b ∙ sym (answered f b n e);
      sum_most = λ f b. no_more f b.selection b.taken;
      certificate = no_more;
    }
