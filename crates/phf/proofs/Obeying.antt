-- How a promise in the words of `answer`, `path_answer`, `listed` and `written` becomes demand 1.
use Prim.Native.Nat.{ℕ, ◌+◌}
use native.Mathlib.Omega.{arith}
use mathlib.Core.Bool.{Bool, true, false, cond}
use lib.ListN.{get_or}
use mathlib.Core.List.{List, [], ◌∷◌, ◌++◌}
use mathlib.Core.Path.{◌≡◌, refl, sym, ap, ap₂, ◌∙◌}
use mathlib.Core.Logic.{⊎_elim, ◌↔◌}
use Rattle.reader.specs.Causes.{Cause, first_cause}
use Rattle.std.specs.Prelude.{Result, Ok, Err}
use Rattle.reader.specs.declared.refusal.Refusal.{Refusal}
use Rattle.reader.specs.Refusals.{number_of, beside, verdict, Report, report}
use Rattle.reader.specs.Calls.{answer, written, at_start}
use Rattle.reader.proofs.Refusals.{Lacks, lacking, number_some, nothing_beside, learns_ok, learns_err}
use Rattle.reader.proofs.Bools.{test}
use Rattle.reader.proofs.First.{Numbered, first_holds, first_fails, head_clear, answers, declines, writes, leaves_unchanged}
use Rattle.bounds.specs.Curves.{first_repeat}
use Rattle.bounds.specs.declared.Listed.{Listed}
use Rattle.bounds.specs.Calls.{ListReport, charge_in, report_list, path_refusal, path_answer, listed}
use Rattle.bounds.proofs.Calls.ListCalls.{charges_nothing, charges}
use Rattle.bounds.proofs.Calls.Answering.{path_answers, path_refuses}
use Rattle.reduction.specs.declared.PairRefusal.{PairRefusal}
use Rattle.reduction.specs.Calls.{report_compared}
use Rattle.phf.specs.Obeys.{numbers, refusal_of, pair_refusal_of, NoZero, NoneHolds, FirstHolds, Obeys}
use Rattle.phf.proofs.LibraryAnswers.{told_again, plain_again, pair_again}
use Rattle.reduction.proofs.Calls.ReduceCalls.{pair_some}
use Rattle.phf.proofs.FieldLaws.{pair_learns}

-- The first cause that holds.

none_clear : (cs : List Cause) → NoneHolds cs → first_cause cs ≡ 0
unfolding first_cause
none_clear [] h = refl
none_clear (c ∷ cs) h = first_fails c cs h.0 ∙ none_clear cs h.1

clear_none : (cs : List Cause) → Numbered cs → first_cause cs ≡ 0 → NoneHolds cs
clear_none [] n h = tt
clear_none (c ∷ cs) n h = let a = head_clear c cs n.0 h in (a.0, clear_none cs n.1 a.1)

-- a list whose numbers are not 0
pub numbered_if : (cs : List Cause) → NoZero (numbers cs) → Numbered cs
numbered_if [] h = tt
numbered_if (c ∷ cs) h = (h.0, numbered_if cs h.1)

pub none_is : (cs : List Cause) → Numbered cs → (first_cause cs ≡ 0) ↔ NoneHolds cs
none_is cs n = (clear_none cs n, none_clear cs)

first_found : (cs : List Cause) → (first_cause cs ≡ 0 → ⊥) → FirstHolds cs (first_cause cs)
first_found [] h = absurd (h (unfold first_cause in refl))
first_found (c ∷ cs) h =
    ⊎_elim
    (λ t. record { earlier = []; first = c; later = cs; split = refl; none_earlier = tt; holds = t; numbered = sym (first_holds c cs t) })
    (λ f.
    let g = first_found cs (λ z. h (first_fails c cs f ∙ z)) in
    record {
      earlier = c ∷ g.earlier;
      first = g.first;
      later = g.later;
      split = ap (λ l. c ∷ l) g.split;
      none_earlier = (f, g.none_earlier);
      holds = g.holds;
      numbered = g.numbered ∙ sym (first_fails c cs f);
    })
    (test c.holds)

after_none : (before after : List Cause) → NoneHolds before → first_cause (before ++ after) ≡ first_cause after
after_none [] after h = refl
after_none (c ∷ before) after h = first_fails c (before ++ after) h.0 ∙ after_none before after h.1

pub first_is : (cs : List Cause) (n : ℕ) → (n ≡ 0 → ⊥) → (first_cause cs ≡ n) ↔ FirstHolds cs n
first_is cs n some = (
  λ e. rw e at (first_found cs (λ z. some (sym e ∙ z))),
  λ h. ap first_cause h.split ∙ after_none h.earlier (h.first ∷ h.later) h.none_earlier ∙ first_holds h.first h.later h.holds ∙ h.numbered,
)

-- Lent lists.

-- unchanged if a cause holds, else with what the call writes
abbrev pub Lent : List Cause → List (List ℕ) → List (List ℕ) → List (List ℕ) → Type 0
Lent cs after before work = ((first_cause cs ≡ 0 → ⊥) → after ≡ before) × (first_cause cs ≡ 0 → after ≡ work)

pub nothing_lent : (cs : List Cause) → Lent cs [] [] []
nothing_lent cs = (λ some. refl, λ none. refl)

pub lent_too : (cs : List Cause) (content old new : List ℕ) (after before work : List (List ℕ)) → new ≡ written cs content old → Lent cs after before work
    → Lent cs (new ∷ after) (old ∷ before) (at_start content old ∷ work)
lent_too cs content old new after before work w rest = (
  λ some. ap₂ (λ l ls. l ∷ ls) (w ∙ leaves_unchanged cs some content old) (rest.0 some),
  λ none. ap₂ (λ l ls. l ∷ ls) (w ∙ writes cs none content old) (rest.1 none),
)

pub lent_one : (cs : List Cause) (content old new : List ℕ) → new ≡ written cs content old → Lent cs (new ∷ []) (old ∷ []) (at_start content old ∷ [])
lent_one cs content old new w = lent_too cs content old new [] [] [] w (nothing_lent cs)

-- Answers.

-- an answer that is made of the number and the values
pub made_obeys : {A : Type 0} (cs : List Cause) (result : List ℕ) (make : Report → A) (r : A) (after before work : List (List ℕ)) → r ≡ make (answer cs result) → Lent cs after before work
    → Obeys cs r (λ n. make (record { number = n; values = [] })) (make (record { number = 0; values = result })) after before work
made_obeys cs result make r after before work h lent =
    record {
      declined = λ some. (h ∙ ap make (declines cs some result), lent.0 some);
      done = λ none. (h ∙ ap make (answers cs none result), lent.1 none);
    }

-- an answer that is the number alone
pub number_obeys : (cs : List Cause) (r : ℕ) (after before work : List (List ℕ)) → r ≡ first_cause cs → Lent cs after before work
    → Obeys cs r (λ n. n) 0 after before work
number_obeys cs r after before work h lent = record { declined = λ some. (h, lent.0 some); done = λ none. (h ∙ none, lent.1 none) }

-- an answer without a place
pub result_obeys : {A : Type 0} (values : A → List ℕ) (make : List ℕ → A) → ((x : A) → x ≡ make (values x)) → (cs : List Cause) (vs : List ℕ) (r : Result A Refusal) (after before work : List (List ℕ)) → report values r ≡ answer cs vs → Lent cs after before work
    → Obeys cs r (λ n. Err (refusal_of 0 n)) (Ok (make vs)) after before work
result_obeys values make again cs vs (Ok x) after before work h lent =
    let l = learns_ok values cs vs x h in
    record { declined = λ some. absurd (some l.0); done = λ none. (ap Ok (again x ∙ ap make l.1), lent.1 none) }
result_obeys values make again cs vs (Err e) after before work h lent =
    let l = learns_err values cs vs e h in
    record { declined = λ some. (ap Err (plain_again e l.1 ∙ ap (refusal_of 0) l.0), lent.0 some); done = λ none. absurd (number_some e (l.0 ∙ none)) }

-- the refusal of a call that tries no path
refused_again : (cs : List Cause) → Lacks 13 cs → (e : Refusal) → number_of e ≡ first_cause cs → e ≡ refusal_of 0 (first_cause cs)
refused_again cs no13 e n =
    plain_again e (nothing_beside e (λ e13. lacking 13 cs no13 (omega arith) (sym n ∙ e13))) ∙ ap (refusal_of 0) n

-- an answer of which the promise names the number alone
pub verdict_obeys : (cs : List Cause) → Lacks 13 cs → (r : Result (Unit {0}) Refusal) (after before work : List (List ℕ)) → verdict r ≡ first_cause cs → Lent cs after before work
    → Obeys cs r (λ n. Err (refusal_of 0 n)) (Ok tt) after before work
verdict_obeys cs no13 (Ok done) after before work h lent = record { declined = λ some. absurd (some (sym h)); done = λ none. (refl, lent.1 none) }
verdict_obeys cs no13 (Err e) after before work h lent =
    record { declined = λ some. (ap Err (refused_again cs no13 e h), lent.0 some); done = λ none. absurd (number_some e (h ∙ none)) }

no_one : ◌≡◌ {A = ℕ} 0 1 → ⊥
no_one h = omega arith

one_or_none : (a b : Bool) → ◌≡◌ {A = ℕ} (cond a 1 0) (cond b 1 0) → a ≡ b
one_or_none true true h = refl
one_or_none false false h = refl
one_or_none true false h = absurd (no_one (sym h))
one_or_none false true h = absurd (no_one h)

-- a comparison of two families
pub pair_obeys : (cs : List Cause) (alike : Bool) (r : Result Bool PairRefusal) (after before work : List (List ℕ)) → report_compared r ≡ answer cs (cond alike 1 0 ∷ []) → Lent cs after before work
    → Obeys cs r (λ n. Err (pair_refusal_of n)) (Ok alike) after before work
pair_obeys cs alike (Ok same) after before work h lent =
    record {
      declined = λ some. absurd (some (sym (ap (λ (t : Report). t.number) (h ∙ declines cs some (cond alike 1 0 ∷ [])))));
      done = λ none. (ap Ok (one_or_none same alike (ap (λ (t : Report). get_or t.values 0 0) (h ∙ answers cs none (cond alike 1 0 ∷ [])))), lent.1 none);
    }
pair_obeys cs alike (Err e) after before work h lent =
    let l = pair_learns cs (cond alike 1 0 ∷ []) e h in
    record { declined = λ some. (ap Err (pair_again e l.1 ∙ ap pair_refusal_of l.0), lent.0 some); done = λ none. absurd (pair_some e (l.0 ∙ none)) }

-- an answer to a path
pub path_result_obeys : {A : Type 0} (values : A → List ℕ) (make : List ℕ → A) → ((x : A) → x ≡ make (values x)) → (cs : List Cause) (path vs : List ℕ) (r : Result A Refusal) (after before work : List (List ℕ)) → report values r ≡ path_answer cs path vs → Lent cs after before work
    → Obeys cs r (λ n. Err (refusal_of (first_repeat path) n)) (Ok (make vs)) after before work
unfolding path_refusal
path_result_obeys values make again cs path vs (Ok x) after before work h lent =
    record {
      declined = λ some. absurd (some (sym (ap (λ (t : Report). t.number) (h ∙ path_refuses cs path vs some))));
      done = λ none. (ap Ok (again x ∙ ap make (ap (λ (t : Report). t.values) (h ∙ path_answers cs path vs none))), lent.1 none);
    }
path_result_obeys values make again cs path vs (Err e) after before work h lent =
    record {
      declined = λ some.
          let told = h ∙ path_refuses cs path vs some in
          let n : number_of e ≡ first_cause cs = ap (λ (t : Report). t.number) told in
          (ap Err (told_again (first_repeat path) e (ap (λ (t : Report). t.values) told ∙ rw n refl) ∙ ap (refusal_of (first_repeat path)) n), lent.0 some);
      done = λ none. absurd (number_some e (ap (λ (t : Report). t.number) (h ∙ path_answers cs path vs none)));
    }

-- an answer that is made of what a call with a path reports
pub path_obeys : {A : Type 0} (cs : List Cause) (path result : List ℕ) (make : Report → A) (refusal : ℕ → A) → ((n : ℕ) → (n ≡ 0 → ⊥) → make (path_refusal path n) ≡ refusal n)
    → (r : A) (after before work : List (List ℕ)) → r ≡ make (path_answer cs path result) → Lent cs after before work
    → Obeys cs r refusal (make (record { number = 0; values = result })) after before work
path_obeys cs path result make refusal refuses r after before work h lent =
    record {
      declined = λ some. (h ∙ ap make (path_refuses cs path result some) ∙ refuses (first_cause cs) some, lent.0 some);
      done = λ none. (h ∙ ap make (path_answers cs path result none), lent.1 none);
    }

-- an answer that is made of the number, a charge and a tally
pub charged_obeys : {A : Type 0} (cs : List Cause) (charge tally : ℕ) (make : ListReport → A) (r : A) (after before work : List (List ℕ)) → r ≡ make (listed cs charge tally) → Lent cs after before work
    → Obeys cs r (λ n. make (record { number = n; charge = 0; tally = tally })) (make (record { number = 0; charge = charge; tally = tally + charge })) after before work
charged_obeys cs charge tally make r after before work h lent =
    record {
      declined = λ some. (h ∙ ap make (sym (charges_nothing cs charge tally (first_cause cs) refl some)), lent.0 some);
      done = λ none. (h ∙ ap make (sym (charges cs charge tally none)), lent.1 none);
    }

-- the same of the answer itself
list_again : (cs : List Cause) (charge tally : ℕ) → Lacks 13 cs → (c : Result ℕ Refusal) (t : ℕ) (after before work : List (List ℕ)) → record { number = verdict c; charge = charge_in c; tally = t } ≡ listed cs charge tally → Lent cs after before work
    → Obeys {A = Listed} cs (record { charged = c; tally = t }) (λ n. record { charged = Err (refusal_of 0 n); tally = tally }) (record { charged = Ok charge; tally = tally + charge }) after before work
list_again cs charge tally no13 (Ok x) t after before work h lent =
    record {
      declined = λ some. absurd (some (sym (ap (λ (l : ListReport). l.number) (h ∙ sym (charges_nothing cs charge tally (first_cause cs) refl some)))));
      done = λ none.
          let told = h ∙ sym (charges cs charge tally none) in
          (ap₂ (λ (v u : ℕ). record { charged = Ok v; tally = u }) (ap (λ (l : ListReport). l.charge) told) (ap (λ (l : ListReport). l.tally) told), lent.1 none);
    }
list_again cs charge tally no13 (Err e) t after before work h lent =
    record {
      declined = λ some.
          let told = h ∙ sym (charges_nothing cs charge tally (first_cause cs) refl some) in
          let n : number_of e ≡ first_cause cs = ap (λ (l : ListReport). l.number) told in
          (ap₂ (λ (d : Refusal) (u : ℕ). record { charged = Err d; tally = u }) (refused_again cs no13 e n) (ap (λ (l : ListReport). l.tally) told), lent.0 some);
      done = λ none. absurd (number_some e (ap (λ (l : ListReport). l.number) (h ∙ sym (charges cs charge tally none))));
    }

pub list_obeys : (cs : List Cause) (charge tally : ℕ) → Lacks 13 cs → (r : Listed) (after before work : List (List ℕ)) → report_list r ≡ listed cs charge tally → Lent cs after before work
    → Obeys cs r (λ n. record { charged = Err (refusal_of 0 n); tally = tally }) (record { charged = Ok charge; tally = tally + charge }) after before work
list_obeys cs charge tally no13 r after before work h lent = list_again cs charge tally no13 r.charged r.tally after before work h lent
