-- The first cause that holds, in a list of causes and in two lists joined, and what a call with these causes answers.
use Prim.Native.Nat.{ℕ, ◌≤◌}
use native.Mathlib.Omega.{arith}
use mathlib.Core.Bool.{true, false}
use mathlib.Core.List.{List, [], ◌∷◌, ◌++◌}
use mathlib.Core.Path.{◌≡◌, refl, sym, ◌∙◌}
use mathlib.Core.Logic.{◌⊎◌, inl, inr, ⊎_elim}
use lib.ListN.{length, drop}
use lib.Dec.{eqb}
use borrow.Author.Tests.{eqb-true, eqb-false, ne_eqb}
use Rattle.reader.specs.Causes.{Cause, first_cause}
use Rattle.reader.specs.Calls.{answer, written}
use Rattle.reader.proofs.Bools.{test}

-- no cause has the number 0, which stands for none
abbrev pub Numbered : List Cause → Type 0
Numbered [] = Unit {0}
Numbered (c ∷ cs) = (1 ≤ c.number) × Numbered cs

module _ (c : Cause) (cs : List Cause) where
  pub first_holds : c.holds ≡ true → first_cause (c ∷ cs) ≡ c.number
  unfolding first_cause
  first_holds h = rw h

  pub first_fails : c.holds ≡ false → first_cause (c ∷ cs) ≡ first_cause cs
  unfolding first_cause
  first_fails h = rw h

  -- no cause holds
  pub head_clear : 1 ≤ c.number → first_cause (c ∷ cs) ≡ 0 → (c.holds ≡ false) × (first_cause cs ≡ 0)
  head_clear n h =
      ⊎_elim
      (λ t. absurd (omega (arith, first_holds t)))
      (λ f. (f, sym (first_fails f) ∙ h))
      (test c.holds)

pub join_clear : (cs ds : List Cause) → Numbered cs → first_cause cs ≡ 0 → first_cause (cs ++ ds) ≡ first_cause ds
join_clear [] ds n h = refl
join_clear (c ∷ cs) ds n h =
    let clear = head_clear c cs n.0 h in
    first_fails c (cs ++ ds) clear.0 ∙ join_clear cs ds n.1 clear.1

pub join_holds : (cs ds : List Cause) → (first_cause cs ≡ 0 → ⊥) → first_cause (cs ++ ds) ≡ first_cause cs
unfolding first_cause
join_holds [] ds h = absurd (h refl)
join_holds (c ∷ cs) ds h =
    ⊎_elim
    (λ t. first_holds c (cs ++ ds) t ∙ sym (first_holds c cs t))
    (λ f. first_fails c (cs ++ ds) f ∙ join_holds cs ds (λ e. h (first_fails c cs f ∙ e)) ∙ sym (first_fails c cs f))
    (test c.holds)

pub clear_left : (cs ds : List Cause) → Numbered cs → first_cause (cs ++ ds) ≡ 0 → first_cause cs ≡ 0
unfolding first_cause
clear_left [] ds n h = refl
clear_left (c ∷ cs) ds n h =
    let clear = head_clear c (cs ++ ds) n.0 h in
    first_fails c cs clear.0 ∙ clear_left cs ds n.1 clear.1

pub clear_right : (cs ds : List Cause) → Numbered cs → first_cause (cs ++ ds) ≡ 0 → first_cause ds ≡ 0
clear_right cs ds n h = sym (join_clear cs ds n (clear_left cs ds n h)) ∙ h

-- What a call with these causes answers and writes.

module _ (cs : List Cause) where
  pub answers : first_cause cs ≡ 0 → (values : List ℕ) → answer cs values ≡ record { number = 0; values = values }
  unfolding answer
  answers h values = rw h

  pub declines : (first_cause cs ≡ 0 → ⊥) → (values : List ℕ) → answer cs values ≡ record { number = first_cause cs; values = [] }
  unfolding answer
  declines h values = rw (ne_eqb (first_cause cs) 0 h)

  pub writes : first_cause cs ≡ 0 → (new old : List ℕ) → written cs new old ≡ new ++ drop (length new) old
  unfolding written
  writes h new old = rw h

  pub leaves_unchanged : (first_cause cs ≡ 0 → ⊥) → (new old : List ℕ) → written cs new old ≡ old
  unfolding written
  leaves_unchanged h new old = rw (ne_eqb (first_cause cs) 0 h)

  -- the answer rests on the first cause alone
  pub same_first : (ds : List Cause) → first_cause cs ≡ first_cause ds → (values : List ℕ) → answer cs values ≡ answer ds values
  unfolding answer
  same_first ds e values = rw e

  pub none_or_some : (first_cause cs ≡ 0) ⊎ (first_cause cs ≡ 0 → ⊥)
  none_or_some = ⊎_elim (λ t. inl (eqb-true (first_cause cs) 0 t)) (λ f. inr (eqb-false (first_cause cs) 0 f)) (test (eqb (first_cause cs) 0))
