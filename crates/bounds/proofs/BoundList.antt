-- The theorem on lists of selections: what `bound_list` answers and writes. Each value is the bound that its selection gets when it
-- is sent to `bound` alone, and so formula (3); the charge is K for the whole list; after any call the tally has grown by its charge.
use Prim.Native.Nat.{ℕ, ◌+◌, ◌*◌, ◌≤◌, ◌<◌}
use mathlib.Core.Bool.{true, false}
use mathlib.Core.List.{List, [], ◌++◌, flatten}
use mathlib.Core.Logic.{⊎_elim}
use mathlib.Core.Path.{◌≡◌, sym, ap, ◌∙◌}
use native.Mathlib.Omega.{arith}
use lib.ListN.{length, get_or, drop, length-append, length-drop, get_or-append}
use lib.Seq.{drop_at}
use Rattle.std.specs.Prelude.{Ok}
use Rattle.reader.specs.Family.{Family, family_of, region_count}
use Rattle.reader.specs.Causes.{Cause, first_cause, AcceptedFile}
use Rattle.reader.proofs.Lists.{get_d_tabulate, length_tabulate}
use Rattle.reader.proofs.First.{writes, leaves_unchanged, none_or_some}
use Rattle.bounds.specs.Bound.{IsLargest}
use Rattle.bounds.specs.Selections.{selected, bound_of, cause14}
use Rattle.bounds.specs.SelectionLists.{selection_at, list_bounds, list_cause14, EachOf}
use Rattle.bounds.specs.Tally.{charge_of, added, cause25}
use Rattle.bounds.specs.Calls.{ListReport, report_list, list_causes, charged, listed}
use Rattle.bounds.specs.AcceptedCalls.{BoundCall, ListCall, AnyListCall}
use Rattle.bounds.proofs.Theory.Theorems.{bound_is_largest}
use Rattle.bounds.proofs.Calls.Selecting.{right_length}
use Rattle.bounds.proofs.Calls.ListLaws.{each_selection, one_declines, wrong_buffer, front_selection, back_selection, joined_at, joined_list, charge_none, charge_some, charge_free, nothing_added}
use Rattle.bounds.proofs.Calls.ListCalls.{charged_all, charged_nothing, list_clear, list_declines, no_list_cause}
use Rattle.bounds.proofs.DemandTwo.{peptides_in, ranges_in, answers_bound}

-- selection i of a call, counted from 0
abbrev pub selection_of : (f : AcceptedFile) → ListCall f → ℕ → List ℕ
selection_of f c i = selection_at (peptides_in f) c.selections i

pub record BoundList : Type 0 where
  -- For an accepted family, at most 32 selections for which cause 14 does not hold, room for as many values and for the charge on the
  -- tally, `bound_list` declines nothing.
  pub answered : (f : AcceptedFile) (c : ListCall f) → (report_list c.answer).number ≡ 0
  -- Then cause 14 holds for none of the selections alone,
  pub alone_accepted : (f : AcceptedFile) (c : ListCall f) (i : ℕ) → i < c.count → cause14 (peptides_in f) (selection_of f c i) ≡ false
  -- and value i is the bound that `bound` answers of selection i alone:
  pub value_alone : (f : AcceptedFile) (c : ListCall f) (i : ℕ) → i < c.count → (b : BoundCall f) → b.selection ≡ selection_of f c i
      → b.answer ≡ Ok (get_or c.values i 0)
  -- the largest count of selection i in any admissible set, formula (3).
  pub value_largest : (f : AcceptedFile) (c : ListCall f) (i : ℕ) → i < c.count
      → IsLargest (peptides_in f) (ranges_in f) (selected (selection_of f c i)) (get_or c.values i 0)
  -- So neither the other selections nor its place matter: the same selection has the same value in any list.
  pub same_value : (f : AcceptedFile) (c d : ListCall f) (i j : ℕ) → i < c.count → j < d.count → selection_of f c i ≡ selection_of f d j
      → get_or c.values i 0 ≡ get_or d.values j 0
  -- Sent as two lists, selections have the values that they have as one.
  pub first_values : (f : AcceptedFile) (c d e : ListCall f) → c.selections ≡ d.selections ++ e.selections → c.count ≡ d.count + e.count
      → (i : ℕ) → i < d.count → get_or d.values i 0 ≡ get_or c.values i 0
  pub later_values : (f : AcceptedFile) (c d e : ListCall f) → c.selections ≡ d.selections ++ e.selections → c.count ≡ d.count + e.count
      → (j : ℕ) → j < e.count → get_or e.values j 0 ≡ get_or c.values (d.count + j) 0
  -- Selections of m bytes are sent as the buffer that they are joined to: value i is the bound of the i-th.
  pub value_joined : (f : AcceptedFile) (c : ListCall f) (L : List (List ℕ)) → EachOf (peptides_in f) L → c.selections ≡ flatten L
      → c.count ≡ length L → (i : ℕ) → i < length L → get_or c.values i 0 ≡ bound_of (family_of f.file) (get_or L i [])
  -- If cause 14 holds for none of them alone, it does not hold for the list;
  pub joined_accepted : (f : AcceptedFile) (L : List (List ℕ)) → ((i : ℕ) → i < length L → cause14 (peptides_in f) (get_or L i []) ≡ false)
      → list_cause14 (peptides_in f) (flatten L) (length L) ≡ false
  -- if it holds for one selection of a list, the whole list is declined with it.
  pub one_declines : (f : AcceptedFile) (c : AnyListCall) → c.file ≡ f.file → (i : ℕ) → i < c.count
      → cause14 (peptides_in f) (selection_at (peptides_in f) c.selections i) ≡ true → (report_list c.answer).number ≡ 14
  -- So is one whose buffer has not count times m bytes: a list of no selection with any byte, too.
  pub wrong_length : (f : AcceptedFile) (c : AnyListCall) → c.file ≡ f.file → (length c.selections ≡ c.count * peptides_in f → ⊥)
      → (report_list c.answer).number ≡ 14
  -- What the lent list holds from place count on stays as it was, and so does its length.
  pub rest : (f : AcceptedFile) (c : ListCall f) → drop c.count c.values ≡ drop c.count c.old_values
  pub same_length : (f : AcceptedFile) (c : ListCall f) → length c.values ≡ length c.old_values
  -- The charge is K, however many selections the list has; an empty one is free.
  pub charge_some : (f : AcceptedFile) (c : ListCall f) → 1 ≤ c.count → (report_list c.answer).charge ≡ region_count (family_of f.file)
  pub charge_none : (f : AcceptedFile) (c : ListCall f) → c.count ≡ 0 → (report_list c.answer).charge ≡ 0
  -- Where K is 0 or the list is empty, cause 25 does not hold even of a full tally.
  pub no_region_fits : (count tally : ℕ) → tally ≤ 4294967295 → cause25 tally (charge_of 0 count) ≡ false
  pub no_selection_fits : (K tally : ℕ) → tally ≤ 4294967295 → cause25 tally (charge_of K 0) ≡ false
  -- After any call the tally is the one before it and the charge,
  pub tally_grows : (c : AnyListCall) → c.answer.tally ≡ c.tally + (report_list c.answer).charge
  -- and it is at most 4,294,967,295 if that one is, as every number of 32 bits is.
  pub tally_fits : (c : AnyListCall) → c.tally ≤ 4294967295 → c.answer.tally ≤ 4294967295
  -- A declined call charges nothing, and leaves the tally and the lent list as they were.
  pub declined_free : (c : AnyListCall) → ((report_list c.answer).number ≡ 0 → ⊥)
      → ((report_list c.answer).charge ≡ 0) × (c.answer.tally ≡ c.tally) × (c.values ≡ c.old_values)

-- Any call.

module _ (c : AnyListCall) where
  abbrev causes : List Cause
  causes = list_causes c.file c.selections c.count c.tally (length c.old_values)

  abbrev the_charge : ℕ
  the_charge = charge_of (region_count (family_of c.file)) c.count

  -- the fields of the answer
  number_is : (report_list c.answer).number ≡ first_cause causes
  unfolding listed
  number_is = ap (λ (r : ListReport). r.number) c.answers

  charge_is : (report_list c.answer).charge ≡ charged causes the_charge
  unfolding listed
  charge_is = ap (λ (r : ListReport). r.charge) c.answers

  fourteen : (f : AcceptedFile) → c.file ≡ f.file → list_cause14 (peptides_in f) c.selections c.count ≡ true → (report_list c.answer).number ≡ 14
  fourteen f e h =
      number_is
      ∙ ap (λ (s : List ℕ). first_cause (list_causes s c.selections c.count c.tally (length c.old_values))) e
      ∙ list_declines f.file c.selections c.count c.tally _ f.accepted h

  grows : c.answer.tally ≡ c.tally + (report_list c.answer).charge
  unfolding listed added
  grows = ap (λ (r : ListReport). r.tally) c.answers ∙ ap (λ (n : ℕ). c.tally + n) (sym charge_is)

  fits : c.tally ≤ 4294967295 → c.answer.tally ≤ 4294967295
  unfolding added
  fits h =
      ⊎_elim
      (λ none. omega (arith, grows, charge_is, charged_all causes the_charge c.tally none, (no_list_cause c.file c.selections c.count c.tally _ none).fits))
      (λ some. omega (arith, grows, charge_is, charged_nothing causes the_charge c.tally some))
      (none_or_some causes)

  free : ((report_list c.answer).number ≡ 0 → ⊥) → ((report_list c.answer).charge ≡ 0) × (c.answer.tally ≡ c.tally) × (c.values ≡ c.old_values)
  free h =
      let some : first_cause causes ≡ 0 → ⊥ = λ z. h (number_is ∙ z) in
      let nothing : (report_list c.answer).charge ≡ 0 = charge_is ∙ charged_nothing causes the_charge c.tally some in
      (nothing, omega (arith, grows), c.writes ∙ leaves_unchanged causes some _ c.old_values)

-- A call with nothing to decline.

module _ (f : AcceptedFile) (c : ListCall f) where
  abbrev F : Family
  F = family_of f.file

  abbrev any : AnyListCall
  any =
      record {
        file = f.file;
        selections = c.selections;
        count = c.count;
        tally = c.tally;
        old_values = c.old_values;
        answer = c.answer;
        values = c.values;
        answers = c.answers;
        writes = c.writes;
      }

  clear : first_cause (causes any) ≡ 0
  unfolding added
  clear = list_clear f.file c.selections c.count c.tally _ f.accepted c.is_list c.values_room c.few c.tally_room

  abbrev the_bounds : List ℕ
  the_bounds = list_bounds F c.selections c.count

  many : length the_bounds ≡ c.count
  unfolding list_bounds
  many = length_tabulate c.count (λ i. bound_of F (selection_of f c i))

  written_so : c.values ≡ the_bounds ++ drop (length the_bounds) c.old_values
  written_so = c.writes ∙ writes _ clear the_bounds c.old_values

  value_is : (i : ℕ) → i < c.count → get_or c.values i 0 ≡ bound_of F (selection_of f c i)
  unfolding list_bounds
  value_is i l =
      ap (λ (v : List ℕ). get_or v i 0) written_so
      ∙ get_or-append the_bounds _ 0 i (omega (arith, many))
      ∙ get_d_tabulate c.count (λ i. bound_of F (selection_of f c i)) 0 i l

  rest_kept : drop c.count c.values ≡ drop c.count c.old_values
  rest_kept =
      ap (drop c.count) written_so
      ∙ drop_at the_bounds (drop (length the_bounds) c.old_values) c.count many
      ∙ ap (λ (n : ℕ). drop n c.old_values) many

  length_kept : length c.values ≡ length c.old_values
  length_kept =
      ap length written_so
      ∙ omega (arith, many, length-append the_bounds (drop (length the_bounds) c.old_values), length-drop (length the_bounds) c.old_values)

  charge_all : (report_list c.answer).charge ≡ charge_of (region_count F) c.count
  charge_all = charge_is any ∙ charged_all (causes any) (the_charge any) c.tally clear

-- Two lists sent as one.

module _ (f : AcceptedFile) (c d e : ListCall f) (both : c.selections ≡ d.selections ++ e.selections) where
  abbrev joint : ℕ → List ℕ
  joint i = selection_at (peptides_in f) (d.selections ++ e.selections) i

  value_both : (i : ℕ) → i < c.count → bound_of (family_of f.file) (joint i) ≡ get_or c.values i 0
  value_both i l = ap (λ (s : List ℕ). bound_of (family_of f.file) (selection_at (peptides_in f) s i)) (sym both) ∙ sym (value_is f c i l)

  whole : length d.selections ≡ d.count * peptides_in f
  whole = right_length (d.count * peptides_in f) d.selections d.is_list

  value_first : (i : ℕ) → i < c.count → i < d.count → get_or d.values i 0 ≡ get_or c.values i 0
  value_first i l h =
      value_is f d i h
      ∙ ap (bound_of (family_of f.file)) (sym (front_selection (peptides_in f) d.count d.selections e.selections whole i h))
      ∙ value_both i l

  value_later : (j : ℕ) → d.count + j < c.count → j < e.count → get_or e.values j 0 ≡ get_or c.values (d.count + j) 0
  value_later j l h =
      value_is f e j h
      ∙ ap (bound_of (family_of f.file)) (sym (back_selection (peptides_in f) d.count d.selections e.selections whole j))
      ∙ value_both (d.count + j) l

pub bound_list : BoundList
bound_list =
    record {
      answered = λ f c. number_is (any f c) ∙ clear f c;
      alone_accepted = λ f c i l. each_selection (peptides_in f) c.selections i c.count c.is_list l;
      value_alone = λ f c i l b e. answers_bound f b ∙ ap Ok (ap (bound_of (family_of f.file)) e ∙ sym (value_is f c i l));
      value_largest = λ f c i l. rw (value_is f c i l) (bound_is_largest f.file f.bytes f.accepted (selection_of f c i));
      same_value = λ f c d i j l k e. value_is f c i l ∙ ap (bound_of (family_of f.file)) e ∙ sym (value_is f d j k);
      first_values = λ f c d e both n i h. value_first f c d e both i (omega (arith, n)) h;
      later_values = λ f c d e both n j h. value_later f c d e both j (omega (arith, n)) h;
      value_joined =
          λ f c L all e n i l.
          value_is f c i (omega (arith, n))
          ∙ ap (λ (s : List ℕ). bound_of (family_of f.file) (selection_at (peptides_in f) s i)) e
          ∙ ap (bound_of (family_of f.file)) (joined_at (peptides_in f) L all i l);
      joined_accepted = λ f. joined_list (peptides_in f);
      one_declines = λ f c e i l t. fourteen c f e (one_declines (peptides_in f) c.selections i c.count l t);
      wrong_length = λ f c e h. fourteen c f e (wrong_buffer (peptides_in f) c.selections c.count h);
      rest = rest_kept;
      same_length = length_kept;
      charge_some = λ f c h. charge_all f c ∙ charge_some (region_count (family_of f.file)) c.count h;
      charge_none =
          λ f c e.
          charge_all f c
          ∙ ap (charge_of (region_count (family_of f.file))) e
          ∙ charge_none (region_count (family_of f.file));
      no_region_fits = λ count tally h. ap (cause25 tally) (charge_free count) ∙ nothing_added tally h;
      no_selection_fits = λ K tally h. ap (cause25 tally) (charge_none K) ∙ nothing_added tally h;
      tally_grows = grows;
      tally_fits = fits;
      declined_free = free;
    }
