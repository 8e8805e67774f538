-- The place that comes with number 13: `first_repeat` gives the first place of a path whose peptide stands earlier too, and it is the
-- only such number.
use Prim.Native.Nat.{ℕ, ◌+◌, ◌-◌, ◌<◌, ◌≤◌}
use mathlib.Core.Bool.{Bool, true, false, cond}
use mathlib.Core.List.{List, [], ◌∷◌, ◌++◌}
use mathlib.Core.Logic.{⊎_elim, ◌↔◌}
use mathlib.Core.Path.{◌≡◌, refl, sym, subst, ◌∙◌}
use native.Mathlib.Numerals.{add-one}
use native.Mathlib.Omega.{arith}
use lib.ListN.{length, get_or}
use lib.Dec.{eqb}
use borrow.Author.Tests.{eqb-true, eqb-false, eq-eqb}
use Rattle.reader.specs.Causes.{Cause, first_cause, file_causes}
use Rattle.reader.specs.Family.{family_of}
use Rattle.reader.proofs.Below.{found, some_at, none_at, first_none}
use Rattle.reader.proofs.First.{join_clear, join_holds, none_or_some}
use Rattle.bounds.specs.Curves.{repeated, cause11, cause12, cause13, first_repeat, peptide_at, IsFirstRepeat}
use Rattle.bounds.specs.Calls.{path_causes, input_causes}
use Rattle.bounds.proofs.Basics.Members.{test}
use Rattle.bounds.proofs.Calls.PathLaws.{first_found, repeated_seen, repeat_at_lem, repeat_holds, all_different, file_most, input_file, input_path, input_numbered}

module _ (path : List ℕ) where
  -- A peptide that stands earlier too, by places.

  peptide_next : (i : ℕ) → peptide_at path (i + 1) ≡ get_or path i 0
  peptide_next i = let back : i + 1 - 1 ≡ i = omega arith in rw back

  stands_earlier : (i : ℕ) → repeated path (i + 1) ≡ true → (q : ℕ) × (1 ≤ q) × (q < i + 1) × (peptide_at path q ≡ peptide_at path (i + 1))
  stands_earlier i h =
      let f = found (λ j. eqb (get_or path j 0) (get_or path i 0)) i (sym (repeated_seen path i) ∙ h) in
      (f.0 + 1, omega arith, omega (arith, f.1), peptide_next f.0 ∙ eqb-true _ _ f.2 ∙ sym (peptide_next i))

  stands_again : (p q : ℕ) → 1 ≤ q → q < p → peptide_at path q ≡ peptide_at path p → repeated path p ≡ true
  unfolding repeated
  stands_again p q some less e = some_at (λ i. eqb (get_or path i 0) (get_or path (p - 1) 0)) (p - 1) (q - 1) (omega arith) (eq-eqb _ _ e)

  differs : (r : ℕ) → repeated path r ≡ false → (q : ℕ) → 1 ≤ q → q < r → peptide_at path q ≡ peptide_at path r → ⊥
  unfolding repeated
  differs r h q some less e = eqb-false _ _ (none_at (λ i. eqb (get_or path i 0) (get_or path (r - 1) 0)) (r - 1) (q - 1) h (omega arith)) e

  -- The first repeat.

  is_first : cause13 path ≡ true → IsFirstRepeat path (first_repeat path)
  unfolding cause13 first_repeat
  is_first h =
      let f = first_found (length path) (λ i. repeated path (i + 1)) h in
      let at : ℕ = f.at in
      let twin = stands_earlier at f.passes in
      rw (f.first, ← add-one at)
      (record {
        from_two = omega (arith, twin.1, twin.2);
        most = omega (arith, f.below);
        earlier = twin;
        first = λ q r some less before. let back : r - 1 + 1 ≡ r = omega arith in differs r (rw back at (f.none_before (r - 1) (omega arith))) q some less;
      })

  first_only : (p : ℕ) → IsFirstRepeat path p → first_repeat path ≡ p
  first_only p h =
      let i : ℕ = p - 1 in
      let here : i + 1 ≡ p = omega (arith, h.from_two) in
      let twin = h.earlier in
      sym
      (repeat_at_lem path i (omega (arith, h.from_two, h.most)) (rw here (stands_again p twin.0 twin.1 twin.2 twin.3))
      (λ j l.
      ⊎_elim
      (λ t. let e = stands_earlier j t in absurd (h.first e.0 (j + 1) e.1 e.2 (omega arith) e.3))
      (λ f. f)
      (test (repeated path (j + 1)))))
      ∙ here

  -- a number other than 0 is what `first_repeat` gives exactly if it is the first such place
  pub first_repeat_lem : (p : ℕ) → (p ≡ 0 → ⊥) → (first_repeat path ≡ p) ↔ IsFirstRepeat path p
  first_repeat_lem p some = (λ e. subst (IsFirstRepeat path) e (is_first (repeat_holds path (λ z. some (sym e ∙ z)))), first_only p)

  -- it gives 0 exactly if no peptide stands twice
  pub no_repeat : (first_repeat path ≡ 0) ↔ (cause13 path ≡ false)
  unfolding cause13 first_repeat
  no_repeat = (all_different path, first_none (λ i. repeated path (i + 1)) (length path))

-- Where 13 is the first cause of a call.

-- the numbers of the causes are n or more
abbrev pub NumberedFrom : ℕ → List Cause → Type 0
NumberedFrom n [] = Unit {0}
NumberedFrom n (c ∷ cs) = (n ≤ c.number) × NumberedFrom n cs

first_least : (n : ℕ) (cs : List Cause) → NumberedFrom n cs → (first_cause cs ≡ 0 → ⊥) → n ≤ first_cause cs
unfolding first_cause
first_least n [] h some = absurd (some refl)
first_least n (c ∷ cs) h some =
    ⊎_elim
    (λ t. rw t h.0)
    (λ (f : c.holds ≡ false). rw f (first_least n cs h.1 (λ z. some (rw f z))))
    (test c.holds)

path_repeats : (m : ℕ) (path : List ℕ) → first_cause (path_causes m path) ≡ 13 → cause13 path ≡ true
unfolding first_cause path_causes
path_repeats m path h = go (cause11 m path) (cause12 m path) (cause13 path) h
  where
    go : (a b c : Bool) → ◌≡◌ {A = ℕ} (cond a 11 (cond b 12 (cond c 13 0))) 13 → c ≡ true
    go true b c h = absurd (omega arith)
    go false true c h = absurd (omega arith)
    go false false true h = refl
    go false false false h = absurd (omega arith)

module _ (file path : List ℕ) where
  input_repeats_if : first_cause (input_causes file path) ≡ 13 → cause13 path ≡ true
  input_repeats_if e =
      ⊎_elim
      (λ accepted. path_repeats (family_of file).peptides path (sym (input_path file path accepted) ∙ e))
      (λ some. absurd (omega (arith, input_file file path some, file_most file)))
      (none_or_some (file_causes file))

  -- with 13 comes the first place whose peptide stands earlier too, whatever later causes a call tries
  pub place_with_13 : (later : List Cause) → NumberedFrom 14 later → first_cause (input_causes file path ++ later) ≡ 13 → IsFirstRepeat path (first_repeat path)
  place_with_13 later late e =
      is_first path
      (input_repeats_if
      (⊎_elim
      (λ clear.
      let same = join_clear (input_causes file path) later (input_numbered file path) clear in
      absurd (omega (arith, same, first_least 14 later late (λ z. omega (arith, same)))))
      (λ some. sym (join_holds (input_causes file path) later some) ∙ e)
      (none_or_some (input_causes file path))))
