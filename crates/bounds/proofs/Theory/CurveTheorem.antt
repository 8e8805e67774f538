-- The theorem on the curve: for every accepted family, every path and every t, the peptides marked among the first t
-- are an admissible set of entry t peptides, and entry t is the largest count of the first t in any admissible set.
use Prim.Native.Nat.{ℕ, zero, suc, ◌+◌, ◌<◌, ◌≤◌}
use mathlib.Core.Bool.{Bool, true, false, not, ◌&&◌, ◌||◌}
use mathlib.Core.List.{List}
use mathlib.Core.Logic.{⊎_elim}
use mathlib.Core.Path.{◌≡◌, refl, sym, ap, ap₂, ◌∙◌}
use native.Mathlib.Numerals.{add-one}
use native.Mathlib.Omega.{arith}
use lib.ListN.{length, get_or, take}
use lib.Dec.{eqb}
use borrow.Author.Tests.{eqb-true, eqb-false, eq-eqb, ne_eqb}
use Rattle.reader.specs.Lists.{some_below}
use Rattle.reader.specs.Bytes.{IsBytes}
use Rattle.reader.specs.Family.{Family, family_of}
use Rattle.reader.specs.Causes.{Accepted}
use Rattle.reader.specs.WellFormed.{WellFormed}
use Rattle.reader.proofs.Lists.{get_d_tabulate}
use Rattle.reader.proofs.Accepting.{well_formed_lem}
use Rattle.bounds.specs.Ranges.{Range, Peptides, ranges_of, card}
use Rattle.bounds.specs.Bound.{Admissible, IsLargest}
use Rattle.bounds.specs.Curves.{among, entry, curve_values, mark_at, curve_marks}
use Rattle.bounds.specs.Private.Walks.{Distinct}
use Rattle.bounds.specs.Paths.{marked}
use Rattle.bounds.specs.Calls.{IsPath}
use Rattle.bounds.proofs.Basics.Members.{test, bit, bit_few}
use Rattle.bounds.proofs.Basics.Counting.{card_same, adding, count_same}
use Rattle.bounds.proofs.Theory.Greedy.{respects_facts, respects_holds, greedy}
use Rattle.bounds.proofs.Theory.Formula.{formula3}
use Rattle.bounds.proofs.Theory.Paths.{path_admissible, path_bound}
use Rattle.bounds.proofs.Theory.Family.{family_laminar}
use Rattle.bounds.proofs.Calls.PathLaws.{or_false, accepted_path}
use Rattle.bounds.proofs.Theory.Marks.{marked_set, stops, marked_stays, marked_grows, entry_next, mark_is}

-- What the theorem says of the first t peptides of a path.
pub record CurveAt (F : Family) (path : List ℕ) (t : ℕ) : Type 0 where
  -- the peptides marked among the first t are an admissible set
  pub admissible : Admissible F.peptides (ranges_of F) (marked path (curve_marks F path) t)
  -- of entry t peptides,
  pub many : card F.peptides (marked path (curve_marks F path) t) ≡ get_or (curve_values F path) t 0
  -- and entry t is the largest count of the first t peptides in any admissible set
  pub largest : IsLargest F.peptides (ranges_of F) (among (take t path)) (get_or (curve_values F path) t 0)
  -- a mark is 0 or 1, and the next entry is larger by it
  pub mark : t < length path → get_or (curve_marks F path) t 0 ≤ 1
  pub next : t < length path → get_or (curve_values F path) (t + 1) 0 ≡ get_or (curve_values F path) t 0 + get_or (curve_marks F path) t 0

-- The curve and the marks by their places.

pub value_at_lem : (F : Family) (path : List ℕ) (t : ℕ) → t ≤ length path → get_or (curve_values F path) t 0 ≡ entry F path t
unfolding curve_values
value_at_lem F path t h = get_d_tabulate (length path + 1) (entry F path) 0 t (omega arith)

mark_at_lem : (F : Family) (path : List ℕ) (t : ℕ) → t < length path → get_or (curve_marks F path) t 0 ≡ mark_at F path (t + 1)
unfolding curve_marks
mark_at_lem F path t h = get_d_tabulate (length path) (λ i. mark_at F path (i + 1)) 0 t h

module _ {F : Family} {path : List ℕ} (well : WellFormed F) (is : Distinct F.peptides path) where
  mark_bit : (t : ℕ) → t < length path → get_or (curve_marks F path) t 0 ≡ bit (not (stops well is t))
  mark_bit t h = mark_at_lem F path t h ∙ mark_is well is t h

  -- the peptides marked along the path are those that the greedy walk marks
  marked_same : (t : ℕ) → t ≤ length path → (p : ℕ) → marked path (curve_marks F path) t p ≡ marked_set well is t p
  unfolding marked some_below greedy adding
  marked_same zero h p = refl
  marked_same (suc t) h p =
      let before = marked_same t (omega arith) p in
      ⊎_elim
      (λ e. ap₂ ◌||◌ before (unmarked e) ∙ or_false (marked_set well is t p) ∙ sym (ap (λ (G : Peptides). G p) (marked_stays well is t h e)))
      (λ e. ap₂ ◌||◌ before (taken e) ∙ or_swap (marked_set well is t p) (eqb p q) ∙ sym (ap (λ (G : Peptides). G p) (marked_grows well is t h e)))
      (test (stops well is t))
    where
      q : ℕ
      q = get_or path t 0

      unmarked : stops well is t ≡ true → (eqb q p && eqb (get_or (curve_marks F path) t 0) 1) ≡ false
      unmarked e = rw (mark_bit t h, e) (and_none (eqb q p))
        where
          and_none : (b : Bool) → (b && false) ≡ false
          and_none true = refl
          and_none false = refl

      taken : stops well is t ≡ false → (eqb q p && eqb (get_or (curve_marks F path) t 0) 1) ≡ eqb p q
      taken e = rw (mark_bit t h, e) (and_true (eqb q p) ∙ turned)
        where
          and_true : (b : Bool) → (b && true) ≡ b
          and_true true = refl
          and_true false = refl

          turned : eqb q p ≡ eqb p q
          turned = ⊎_elim (λ t. t ∙ sym (eq-eqb p q (sym (eqb-true q p t)))) (λ f. f ∙ sym (ne_eqb p q (λ e. eqb-false q p f (sym e)))) (test (eqb q p))

      or_swap : (a b : Bool) → (a || b) ≡ (b || a)
      or_swap true true = refl
      or_swap true false = refl
      or_swap false true = refl
      or_swap false false = refl

  pub curve_at : (t : ℕ) → t ≤ length path → CurveAt F path t
  unfolding entry
  curve_at t h =
      let m : ℕ = F.peptides in
      let R : List Range = ranges_of F in
      let lam = family_laminar well in
      let here = value_at_lem F path t h in
      let set : Peptides = marked path (curve_marks F path) t in
      let walked : Peptides = marked_set well is t in
      let respects = respects_facts m R walked (path_admissible m R (take t path)) in
      record {
        admissible = respects_holds m R set (λ r i. omega (arith, count_same m set walked r (λ p l u k. marked_same t h p), respects r i));
        many = card_same m set walked (λ p l u. marked_same t h p) ∙ path_bound lam (take t path) ∙ sym here;
        largest = rw here (formula3 lam (among (take t path)));
        mark = λ l. rw (mark_bit t l) (bit_few (not (stops well is t)));
        next = λ l. omega (arith, here, value_at_lem F path (t + 1) (omega arith), mark_bit t l, ap (entry F path) (add-one t), entry_next well is t l);
      }

-- The theorem.
pub curve_theorem : (s : List ℕ) → IsBytes s → Accepted s → (path : List ℕ) → IsPath (family_of s).peptides path
    → (t : ℕ) → t ≤ length path → CurveAt (family_of s) path t
curve_theorem s bytes accepted path is t h = curve_at (well_formed_lem s bytes accepted) (accepted_path (family_of s).peptides path is) t h
