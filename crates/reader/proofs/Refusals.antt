-- What a call says that declines, and what a caller learns from it.
--   number_some        no refusal has the number 0, which stands for none
--   nothing_beside     only number 13 has a value beside it
--   Lacks, lacking     a number that none of the causes has is not that of the first that holds
--   lacks_joined       two lists of causes joined
--   handed_on          what a call answers at the exit of a `?`: the refusal of the call before it
--   hands_on           and its number
--   some_holds         where a refusal has the number of the first cause that holds, one does
--   first_of           it is the first with more causes after them too
--   unwritten          and the lent list is as it was
--   says_ok, says_err       the answer of a call with these causes, where none holds, and where the refusal is that of the first
--   learns_ok, learns_err   what a caller learns from each answer
use Prim.Native.Nat.{ℕ}
use native.Mathlib.Omega.{arith}
use mathlib.Core.List.{List, [], ◌∷◌, ◌++◌}
use mathlib.Core.Path.{◌≡◌, refl, sym, ap, ap₂, ◌∙◌}
use mathlib.Core.Logic.{⊎_elim}
use Rattle.std.specs.Prelude.{Result, Ok, Err, IsErrAnd}
use Rattle.std.proofs.lemmas.Result.{err_from_is_err_and}
use Rattle.reader.specs.declared.refusal.Refusal.{Refusal}
use Rattle.reader.specs.declared.refusal.Refusal.TheVariants.{Mark, PeptideCount, LeafCount, RegionCount, Layout, LeafLengths, Misplaced, Misordered, Crossing, TooDeep, PathLength, OffTheLine, Repeated, Selection, Fraction, Room, RowCount, Row, Rule, PValueCount, PValue, Deviation, Level, ListLength, Tally, LevelCounts, Levels}
use Rattle.reader.specs.Refusals.{number_of, beside, verdict, Report, report}
use Rattle.reader.specs.Causes.{Cause, first_cause}
use Rattle.reader.specs.Calls.{answer, written}
use Rattle.reader.proofs.Bools.{test}
use Rattle.reader.proofs.First.{first_holds, first_fails, join_holds, answers, declines, leaves_unchanged, none_or_some}

pub number_some : (e : Refusal) → number_of e ≡ 0 → ⊥
number_some Mark h = omega arith
number_some PeptideCount h = omega arith
number_some LeafCount h = omega arith
number_some RegionCount h = omega arith
number_some Layout h = omega arith
number_some LeafLengths h = omega arith
number_some Misplaced h = omega arith
number_some Misordered h = omega arith
number_some Crossing h = omega arith
number_some TooDeep h = omega arith
number_some PathLength h = omega arith
number_some OffTheLine h = omega arith
number_some (Repeated place) h = omega arith
number_some Selection h = omega arith
number_some Fraction h = omega arith
number_some Room h = omega arith
number_some RowCount h = omega arith
number_some Row h = omega arith
number_some Rule h = omega arith
number_some PValueCount h = omega arith
number_some PValue h = omega arith
number_some Deviation h = omega arith
number_some Level h = omega arith
number_some ListLength h = omega arith
number_some Tally h = omega arith
number_some LevelCounts h = omega arith
number_some Levels h = omega arith

pub nothing_beside : (e : Refusal) → (number_of e ≡ 13 → ⊥) → beside e ≡ []
nothing_beside (Repeated place) h = absurd (h refl)
nothing_beside _ h = refl

abbrev pub Lacks : ℕ → List Cause → Type 0
Lacks n [] = Unit {0}
Lacks n (c ∷ cs) = (c.number ≡ n → ⊥) × Lacks n cs

pub lacking : (n : ℕ) (cs : List Cause) → Lacks n cs → (n ≡ 0 → ⊥) → first_cause cs ≡ n → ⊥
unfolding first_cause
lacking n [] l some h = some (sym h)
lacking n (c ∷ cs) l some h =
    ⊎_elim
    (λ t. l.0 (sym (first_holds c cs t) ∙ h))
    (λ f. lacking n cs l.1 some (sym (first_fails c cs f) ∙ h))
    (test c.holds)

pub lacks_joined : (n : ℕ) (cs ds : List Cause) → Lacks n cs → Lacks n ds → Lacks n (cs ++ ds)
lacks_joined n [] ds l k = k
lacks_joined n (c ∷ cs) ds l k = (l.0, lacks_joined n cs ds l.1 k)

pub handed_on : {A : Type 0} (r : Result A Refusal) (e : Refusal) → IsErrAnd r (λ d. d ≡ e) → r ≡ Err e
handed_on r e h = let p = err_from_is_err_and r h in p.1 ∙ ap Err p.2

pub hands_on : {A : Type 0} (r : Result A Refusal) (e : Refusal) (n : ℕ) → IsErrAnd r (λ d. d ≡ e) → number_of e ≡ n → verdict r ≡ n
hands_on r e n h k = ap verdict (handed_on r e h) ∙ k

module _ (e : Refusal) (cs : List Cause) (h : number_of e ≡ first_cause cs) where
  pub some_holds : first_cause cs ≡ 0 → ⊥
  some_holds z = number_some e (h ∙ z)

  pub first_of : (ds : List Cause) → number_of e ≡ first_cause (cs ++ ds)
  first_of ds = h ∙ sym (join_holds cs ds some_holds)

  pub unwritten : (new old : List ℕ) → old ≡ written cs new old
  unwritten new old = sym (leaves_unchanged cs some_holds new old)

module _ {A : Type 0} (values : A → List ℕ) (cs : List Cause) (vs : List ℕ) where
  pub says_ok : (x : A) → first_cause cs ≡ 0 → values x ≡ vs → report values (Ok x) ≡ answer cs vs
  says_ok x h e = ap (λ (l : List ℕ). record { number = 0; values = l }) e ∙ sym (answers cs h vs)

  pub says_err : (e : Refusal) → Lacks 13 cs → number_of e ≡ first_cause cs → report values (Err e) ≡ answer cs vs
  says_err e l h =
      ap₂ (λ (n : ℕ) (l : List ℕ). record { number = n; values = l }) h (nothing_beside e (λ n. lacking 13 cs l (omega arith) (sym h ∙ n)))
      ∙ sym (declines cs (some_holds e cs h) vs)

  pub learns_ok : (x : A) → report values (Ok x) ≡ answer cs vs → (first_cause cs ≡ 0) × (values x ≡ vs)
  learns_ok x h =
      ⊎_elim
      (λ z. (z, ap (λ (r : Report). r.values) (h ∙ answers cs z vs)))
      (λ s. absurd (s (sym (ap (λ (r : Report). r.number) (h ∙ declines cs s vs)))))
      (none_or_some cs)

  pub learns_err : (e : Refusal) → report values (Err e) ≡ answer cs vs → (number_of e ≡ first_cause cs) × (beside e ≡ [])
  learns_err e h =
      ⊎_elim
      (λ z. absurd (number_some e (ap (λ (r : Report). r.number) (h ∙ answers cs z vs))))
      (λ s. let d = h ∙ declines cs s vs in (ap (λ (r : Report). r.number) d, ap (λ (r : Report). r.values) d))
      (none_or_some cs)
