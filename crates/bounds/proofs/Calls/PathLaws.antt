-- Causes 11 to 13: what they say of a path, how the first repeat is found, and the first cause of a family and a path, with its refusal.
use Prim.Native.Nat.{ℕ, zero, suc, ◌+◌, ◌-◌, ◌<◌, ◌≤◌}
use mathlib.Core.Bool.{Bool, true, false, cond, ◌||◌}
use mathlib.Core.List.{List, [], ◌∷◌}
use mathlib.Core.Logic.{◌⊎◌, inl, inr, ⊎_elim}
use mathlib.Core.Path.{◌≡◌, refl, sym, ap, ◌∙◌}
use native.Mathlib.Numerals.{add-one}
use native.Mathlib.Omega.{arith}
use lib.ListN.{length, get_or, set}
use lib.Seq.{get_or-set_same, get_or-set_other}
use lib.Dec.{eqb, ltb}
use borrow.Author.Tests.{ltb-false, eqb-true, eqb-false, eq-eqb, ne_eqb}
use Rattle.std.specs.Prelude.{Result, Ok, Err}
use Rattle.reader.specs.declared.refusal.Refusal.{Refusal}
use Rattle.reader.specs.Refusals.{number_of, beside}
use Rattle.reader.specs.Lists.{some_below, first_below}
use Rattle.reader.specs.Bytes.{IsBytes}
use Rattle.reader.specs.Family.{Family, family_of, region_count}
use Rattle.reader.specs.Causes.{Cause, first_cause, header_causes, family_causes, file_causes, Accepted}
use Rattle.reader.specs.WellFormed.{ParentsBelow}
use Rattle.reader.proofs.Bools.{or_fails_l, or_fails_r}
use Rattle.reader.proofs.Below.{none_at, none_below, first_at_lem, first_none}
use Rattle.reader.proofs.First.{Numbered, head_clear, join_clear, join_holds, clear_left, clear_right}
use Rattle.reader.proofs.Judged.{peptides_counted}
use Rattle.reader.proofs.Refusals.{nothing_beside, some_holds}
use Rattle.reader.proofs.Accepting.{well_formed_lem, accepted_header, few_regions, file_numbered}
use Rattle.bounds.specs.Curves.{cause11, cause12, repeated, cause13, first_repeat}
use Rattle.bounds.specs.Calls.{path_causes, IsPath, input_causes, path_refusal}
use Rattle.bounds.specs.Private.Walks.{number_cause, Walkable, Distinct, InputRefused, Admission, Differing}
use Rattle.bounds.proofs.Basics.Members.{test, clash, or_r}

-- The first number that passes a test.

pub record First (n : ℕ) (p : ℕ → Bool) : Type 0 where
  pub at : ℕ
  pub below : at < n
  pub passes : p at ≡ true
  pub none_before : (i : ℕ) → i < at → p i ≡ false
  pub first : first_below n p ≡ suc at

pub first_found : (n : ℕ) (p : ℕ → Bool) → some_below n p ≡ true → First n p
unfolding some_below first_below
first_found zero p h = absurd (clash h refl)
first_found (suc n) p h =
    ⊎_elim
    (λ t.
    let f = first_found n p t in
    record { at = f.at; below = omega (arith, f.below); passes = f.passes; none_before = f.none_before; first = rw t f.first })
    (λ e.
    let here : p n ≡ true = rw e at h in
    record {
      at = n;
      below = omega arith;
      passes = here;
      none_before = λ i l. none_at p n i e l;
      first = ap (λ (b : Bool). cond b (first_below n p) (cond (p n) (suc n) 0)) e ∙ ap (λ (b : Bool). cond b (suc n) 0) here;
    })
    (test (some_below n p))

first_zero : (n : ℕ) (p : ℕ → Bool) → first_below n p ≡ 0 → some_below n p ≡ false
first_zero n p h = ⊎_elim (λ t. let f = first_found n p t in absurd (omega (arith, f.first))) (λ e. e) (test (some_below n p))

-- Peptides that stand on the path up to a place.

-- q stands at one of the first t places
abbrev pub stands : List ℕ → ℕ → ℕ → Bool
stands path t q = some_below t (λ i. eqb (get_or path i 0) q)

-- the list says of each peptide whether it stands at one of the first t places
abbrev pub Seen : List ℕ → ℕ → List Bool → Type 0
Seen path t S = (q : ℕ) → q < 4097 → get_or S q false ≡ stands path t q

pub seen_none : (path : List ℕ) (S : List Bool) → ((q : ℕ) → q < 4097 → get_or S q false ≡ false) → Seen path 0 S
unfolding some_below
seen_none path S h q l = h q l

pub or_false : (b : Bool) → (b || false) ≡ b
or_false true = refl
or_false false = refl

pub seen_more : (path : List ℕ) (S : List Bool) (t p : ℕ) → length S ≡ 4097 → Seen path t S → p ≡ get_or path t 0 → p < 4097
    → Seen path (t + 1) (set S p true)
unfolding some_below
seen_more path S t p len seen e fits q l =
    ⊎_elim
    (λ same. rw (add-one, ← e, same, eq-eqb p p refl, get_or-set_same S p true false (omega arith)) (sym (or_r (stands path t p) true refl)))
    (λ other. rw (add-one, ← e, ne_eqb p q (λ d. eqb-false q p other (sym d)), get_or-set_other S p q true false (eqb-false q p other)) (seen q l ∙ sym (or_false (stands path t q))))
    (is q p)
  where
    is : (q p : ℕ) → (q ≡ p) ⊎ (eqb q p ≡ false)
    is q p = ⊎_elim (λ t. inl (eqb-true q p t)) inr (test (eqb q p))

-- the peptide at a place stands earlier too exactly if it was seen
pub repeated_seen : (path : List ℕ) (t : ℕ) → repeated path (t + 1) ≡ stands path t (get_or path t 0)
unfolding repeated
repeated_seen path t = let back : t + 1 - 1 ≡ t = omega arith in rw back

-- The first repeat.

module _ (path : List ℕ) where
  pub repeat_at_lem : (t : ℕ) → t < length path → repeated path (t + 1) ≡ true → ((i : ℕ) → i < t → repeated path (i + 1) ≡ false) → t + 1 ≡ first_repeat path
  unfolding first_repeat
  repeat_at_lem t l here before = rw add-one (sym (first_at_lem (λ i. repeated path (i + 1)) (length path) t l here before))

  pub repeat_none : ((i : ℕ) → i < length path → repeated path (i + 1) ≡ false) → cause13 path ≡ false
  unfolding cause13
  repeat_none h = none_below (λ i. repeated path (i + 1)) (length path) h

  pub all_different : first_repeat path ≡ 0 → cause13 path ≡ false
  unfolding first_repeat cause13
  all_different h = first_zero (length path) (λ i. repeated path (i + 1)) h

  pub repeat_holds : (first_repeat path ≡ 0 → ⊥) → cause13 path ≡ true
  unfolding first_repeat cause13
  repeat_holds h = ⊎_elim (λ t. t) (λ f. absurd (h (first_none (λ i. repeated path (i + 1)) (length path) f))) (test (cause13 path))

-- What the causes say of the numbers on a path.

-- the number at a place, counted from 0, is 0 or over m
abbrev pub off_line : ℕ → List ℕ → ℕ → Bool
off_line m path i = eqb (get_or path i 0) 0 || ltb m (get_or path i 0)

module _ (m : ℕ) (path : List ℕ) where
  pub number_clear : number_cause m path ≡ 0 → (cause11 m path ≡ false) × (cause12 m path ≡ false)
  unfolding number_cause
  number_clear h = go (cause11 m path) (cause12 m path) h
    where
      go : (a b : Bool) → ◌≡◌ {A = ℕ} (cond a 11 (cond b 12 0)) 0 → (a ≡ false) × (b ≡ false)
      go true b h = absurd (omega arith)
      go false true h = absurd (omega arith)
      go false false h = (refl, refl)

  -- 11 or 12 is the first cause of the path
  pub number_first : (number_cause m path ≡ 0 → ⊥) → (first_cause (path_causes m path) ≡ number_cause m path) × (number_cause m path ≤ 12)
  unfolding number_cause first_cause path_causes
  number_first h = go (cause11 m path) (cause12 m path) (cond (cause13 path) 13 0) h
    where
      go : (a b : Bool) (r : ℕ) → (◌≡◌ {A = ℕ} (cond a 11 (cond b 12 0)) 0 → ⊥)
          → (◌≡◌ {A = ℕ} (cond a 11 (cond b 12 r)) (cond a 11 (cond b 12 0))) × (cond a 11 (cond b 12 0) ≤ 12)
      go true b r h = (refl, omega arith)
      go false true r h = (refl, omega arith)
      go false false r h = absurd (h refl)

  pub path_13 : number_cause m path ≡ 0 → cause13 path ≡ true → first_cause (path_causes m path) ≡ 13
  unfolding first_cause path_causes
  path_13 n h = let c = number_clear n in rw (c.0, c.1, h)

  pub path_none : number_cause m path ≡ 0 → cause13 path ≡ false → first_cause (path_causes m path) ≡ 0
  unfolding first_cause path_causes
  path_none n h = let c = number_clear n in rw (c.0, c.1, h)

  pub path_short : number_cause m path ≡ 0 → length path ≤ m
  unfolding cause11
  path_short n = ltb-false m (length path) (number_clear n).0

  pub path_numbers : number_cause m path ≡ 0 → (i : ℕ) → i < length path → (1 ≤ get_or path i 0) × (get_or path i 0 ≤ m)
  unfolding cause12
  path_numbers n i l =
      let x : ℕ = get_or path i 0 in
      let ok = none_at (off_line m path) (length path) i (number_clear n).1 l in
      let some : (x ≡ 0 → ⊥) = eqb-false x 0 (or_fails_l (eqb x 0) (ltb m x) ok) in
      (omega arith, ltb-false m x (or_fails_r (eqb x 0) (ltb m x) ok))

pub path_differs : (path : List ℕ) → cause13 path ≡ false → (i j : ℕ) → i < j → j < length path → get_or path i 0 ≡ get_or path j 0 → ⊥
unfolding cause13
path_differs path h i j l lj e =
    eqb-false (get_or path i 0) (get_or path j 0)
    (none_at (λ i. eqb (get_or path i 0) (get_or path j 0)) j i (sym (repeated_seen path j) ∙ none_at (λ i. repeated path (i + 1)) (length path) j h lj) l)
    e

pub is_path : (m : ℕ) (path : List ℕ) → number_cause m path ≡ 0 → cause13 path ≡ false → Distinct m path
is_path m path n d =
    record { some = λ i l. (path_numbers m path n i l).0; most = λ i l. (path_numbers m path n i l).1; differ = path_differs path d }

-- A path for which none of the causes 11 to 13 holds is a path of different peptides.
pub accepted_path : (m : ℕ) (path : List ℕ) → first_cause (path_causes m path) ≡ 0 → Distinct m path
unfolding path_causes number_cause
accepted_path m path h =
    let a = head_clear _ _ (omega arith) h in
    let b = head_clear _ _ (omega arith) a.1 in
    let c = head_clear _ _ (omega arith) b.1 in
    is_path m path (rw (a.0, b.0)) c.0

pub path_most : (m : ℕ) (path : List ℕ) → IsPath m path → length path ≤ m
unfolding path_causes cause11
path_most m path h = ltb-false m (length path) (head_clear _ _ (omega arith) h).0

-- The first cause of a family and a path.

-- no number of the causes is over n
abbrev NumberedUpTo : ℕ → List Cause → Type 0
NumberedUpTo n [] = Unit {0}
NumberedUpTo n (c ∷ cs) = (c.number ≤ n) × NumberedUpTo n cs

first_most : (n : ℕ) (cs : List Cause) → NumberedUpTo n cs → first_cause cs ≤ n
unfolding first_cause
first_most n [] h = omega arith
first_most n (c ∷ cs) h = ⊎_elim (λ t. rw t h.0) (λ f. rw f (first_most n cs h.1)) (test c.holds)

pub file_most : (s : List ℕ) → first_cause (file_causes s) ≤ 10
unfolding file_causes header_causes family_causes
file_most s = first_most 10 (file_causes s) (omega arith)

module _ (s path : List ℕ) where
  pub input_file : (first_cause (file_causes s) ≡ 0 → ⊥) → first_cause (input_causes s path) ≡ first_cause (file_causes s)
  unfolding input_causes
  input_file h = join_holds (file_causes s) (path_causes (family_of s).peptides path) h

  pub input_numbered : Numbered (input_causes s path)
  unfolding input_causes file_causes header_causes family_causes path_causes
  input_numbered = omega arith

  pub input_path : Accepted s → first_cause (input_causes s path) ≡ first_cause (path_causes (family_of s).peptides path)
  unfolding input_causes
  input_path h = join_clear (file_causes s) (path_causes (family_of s).peptides path) (file_numbered s) h

  -- where none holds, the file is accepted, and it is a path, with at most as many peptides as there can be
  pub input_accepted : first_cause (input_causes s path) ≡ 0 → Accepted s × IsPath (family_of s).peptides path
  unfolding input_causes
  input_accepted h =
      (clear_left (file_causes s) (path_causes (family_of s).peptides path) (file_numbered s) h, clear_right (file_causes s) (path_causes (family_of s).peptides path) (file_numbered s) h)

  pub input_few : first_cause (input_causes s path) ≡ 0 → length path ≤ 4096
  input_few h =
      let k = input_accepted h in
      omega (arith, path_most (family_of s).peptides path k.1, (peptides_counted (family_of s).peptides (accepted_header s k.0).no2).1)

  -- the refusal with a number other than 13, and with 13
  bare : (n : ℕ) → (n ≡ 13 → ⊥) → record { number = n; values = [] } ≡ path_refusal path n
  unfolding path_refusal
  bare n other = rw (ne_eqb n 13 other)

  pub input_refused : (e : Refusal) → number_of e ≡ first_cause (input_causes s path) → (number_of e ≡ 13 → ⊥)
      → InputRefused s path (record { number = number_of e; values = beside e })
  input_refused e h other =
      record {
        some = some_holds e _ h;
        told = ap (λ (l : List ℕ). record { number = number_of e; values = l }) (nothing_beside e other) ∙ bare (number_of e) other ∙ ap (path_refusal path) h;
      }

  pub input_repeats : first_cause (input_causes s path) ≡ 13 → InputRefused s path (record { number = 13; values = first_repeat path ∷ [] })
  unfolding path_refusal
  input_repeats e = record { some = λ z. omega arith; told = rw e }

  -- what a walk goes by
  pub walkable :
      IsBytes s → Accepted s → (P : List ℕ) → ParentsBelow (family_of s) P (region_count (family_of s)) → region_count (family_of s) ≤ length P
      → number_cause (family_of s).peptides path ≡ 0 → cause13 path ≡ false → Walkable (family_of s) path P
  walkable bytes accepted P parents room n d =
      let F : Family = family_of s in
      let well = well_formed_lem s bytes accepted in
      record {
        well = well;
        nested = record { ordered = well.ordered; nested = well.nested; known = parents; few = few_regions s (accepted_header s accepted); room = room };
        short = path_short F.peptides path n;
        different = is_path F.peptides path n d;
      }

  -- the answer, by what is found of the repeats where nothing else declines
  pub by_repeats : (P : List ℕ) (r : Result (Unit {0}) Refusal) → Accepted s → number_cause (family_of s).peptides path ≡ 0
      → (cause13 path ≡ false → Walkable (family_of s) path P) → Differing path r → Admission s path P r
  by_repeats P (Ok done) a n walk d = (input_path a ∙ path_none (family_of s).peptides path n d, walk d)
  by_repeats P (Err e) a n walk d = rw d.1 (input_repeats (input_path a ∙ path_13 (family_of s).peptides path n d.0))
