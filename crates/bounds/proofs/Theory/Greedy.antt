-- The greedy walk: each peptide in turn is marked, unless a range that has it already has z marked peptides.
use Prim.Native.Nat.{ℕ, ◌+◌, ◌≤◌, ◌<◌}
use mathlib.Core.Bool.{Bool, true, false, not, cond, ◌&&◌}
use mathlib.Core.List.{List, [], ◌∷◌, ◌++◌}
use mathlib.Core.Logic.{◌⊎◌, inl, inr, ⊎_elim}
use mathlib.Core.Path.{◌≡◌, refl, ap}
use native.Mathlib.Omega.{arith}
use lib.Dec.{leb, eqb}
use borrow.Author.Tests.{leb-true, le-leb, eqb-true, eq-eqb}
use Rattle.bounds.specs.Curves.{among}
use Rattle.bounds.specs.Ranges.{Range, Peptides, has, card, count, some, In}
use Rattle.bounds.specs.Bound.{Admissible}
use Rattle.bounds.proofs.Basics.Members.{test, le_or_lt, clash, refuted, ands, bit, some_in, some_found, nowhere_facts}
use Rattle.bounds.proofs.Basics.Counting.{Subset, none, card_adding, adding, adding_it, adding_old, adding_either, count_mono, count_none, count_adding_most, count_adding_other}

-- Sets that respect all ranges.

-- at most z peptides of A in every range
abbrev pub Respects : ℕ → List Range → Peptides → Type 0
Respects m R A = (r : Range) → In r R → count m A r ≤ r.z

pub respects_facts : (m : ℕ) (R : List Range) (A : Peptides) → Admissible m R A → Respects m R A
respects_facts m [] A a r x'' = elim x'' [ ]
respects_facts m (x ∷ R) A a r (inl e) = rw e a.0
respects_facts m (x ∷ R) A a r (inr i) = respects_facts m R A a.1 r i

pub respects_holds : (m : ℕ) (R : List Range) (A : Peptides) → Respects m R A → Admissible m R A
respects_holds m [] A h = tt
respects_holds m (x ∷ R) A h = (h x (inl refl), respects_holds m R A (λ r i. h r (inr i)))

pub respects_none : (m : ℕ) (R : List Range) → Respects m R none
respects_none m R r i = omega (arith, count_none m r)

-- What a walk keeps to.

-- a range that has p already has z peptides of G
pub record Stopped (m : ℕ) (R : List Range) (G : Peptides) (p : ℕ) : Type 0 where
  pub by : Range
  pub member : In by R
  pub holds : has by p ≡ true
  pub filled : by.z ≤ count m G by

-- every peptide of S is in G, or stopped
abbrev pub Fills : ℕ → List Range → Peptides → Peptides → Type 0
Fills m R S G = (p : ℕ) → 0 < p → p ≤ m → S p ≡ true → G p ≡ false → Stopped m R G p

-- G respects all ranges, and the peptides of S that it lacks are stopped
pub record Walked (m : ℕ) (R : List Range) (S G : Peptides) : Type 0 where
  pub respects : Respects m R G
  pub fills : Fills m R S G

-- stopped for ever, since counts only grow
stopped_more : {m : ℕ} {R : List Range} {G : Peptides} {p : ℕ} (H : Peptides) → Subset m G H → Stopped m R G p → Stopped m R H p
stopped_more {m} {R} {G} H h s =
    let more = count_mono m G H s.by (λ x l u i. h x l u) in
    record { by = s.by; member = s.member; holds = s.holds; filled = omega arith }

-- a walk over more peptides
pub walked_less : {m : ℕ} {R : List Range} {S G : Peptides} (X : Peptides) → Subset m X S → Walked m R S G → Walked m R X G
walked_less X h w = record { respects = w.respects; fills = λ p l u x e. w.fills p l u (h p l u x) e }

-- One step.

-- p may not be marked
unfoldable pub blocked : ℕ → List Range → Peptides → ℕ → Bool
blocked m R G p = some (λ r. has r p && leb r.z (count m G r)) R

-- the set after the step
unfoldable pub after_step : ℕ → List Range → Peptides → ℕ → Peptides
after_step m R G p = cond (blocked m R G p) G (adding p G)

module _ (m : ℕ) (R : List Range) (G : Peptides) (p : ℕ) where
  pub blocked_facts : blocked m R G p ≡ true → Stopped m R G p
  unfolding blocked
  blocked_facts e =
      let f = some_found (λ r. has r p && leb r.z (count m G r)) R e in
      let t = f.passes in
      record { by = f.it; member = f.member; holds = search ands; filled = leb-true f.it.z (count m G f.it) (search ands) }

  pub blocked_holds : Stopped m R G p → blocked m R G p ≡ true
  unfolding blocked
  blocked_holds s = some_in (λ r. has r p && leb r.z (count m G r)) R s.by s.member (search (ands, le-leb))

  -- every range that has p has fewer than z
  pub open_facts : blocked m R G p ≡ false → (r : Range) → In r R → has r p ≡ true → count m G r < r.z
  unfolding blocked
  open_facts e r i h =
      let free = nowhere_facts (λ r. has r p && leb r.z (count m G r)) R (ap not e) r i in
      ⊎_elim (λ full. absurd (free (search (ands, le-leb)))) (λ less. less) (le_or_lt r.z (count m G r))

  -- then the set with p respects what it respected
  pub open_respects : blocked m R G p ≡ false → Respects m R G → Respects m R (adding p G)
  open_respects e h r i =
      ⊎_elim (λ t. omega (arith, count_adding_most m p G r, open_facts e r i t)) (λ t. omega (arith, count_adding_other m p G r t, h r i))
      (test (has r p))

  -- the two cases of a step
  mark_cases : (P : Peptides → Type 0) → (blocked m R G p ≡ true → P G) → (blocked m R G p ≡ false → P (adding p G)) → P (after_step m R G p)
  unfolding after_step
  mark_cases P stay add = go (blocked m R G p) refl
    where
      go : (b : Bool) → blocked m R G p ≡ b → P (cond b G (adding p G))
      go true e = stay e
      go false e = add e

  pub mark_old : (x : ℕ) → G x ≡ true → after_step m R G p x ≡ true
  mark_old x h = mark_cases (λ H. H x ≡ true) (λ e. h) (λ e. adding_old p G x h)

  pub mark_new : (x : ℕ) → after_step m R G p x ≡ true → (x ≡ p) ⊎ (G x ≡ true)
  mark_new x = mark_cases (λ H. H x ≡ true → (x ≡ p) ⊎ (G x ≡ true)) (λ e h. inr h) (λ e h. adding_either p G x h)

  -- a mark counts one
  pub mark_card : 0 < p → p ≤ m → G p ≡ false → card m (after_step m R G p) ≡ card m G + bit (not (blocked m R G p))
  mark_card l u f =
      mark_cases (λ H. card m H ≡ card m G + bit (not (blocked m R G p))) (λ e. rw e (omega arith))
      (λ e. rw e (omega (arith, card_adding m p G l u f)))

  module _ (S : Peptides) (w : Walked m R S G) where
    stay : blocked m R G p ≡ true → Walked m R (adding p S) G
    stay e =
        let stops : Fills m R (adding p S) G =
        λ x l u s n. ⊎_elim (λ q. rw q (blocked_facts e)) (λ o. w.fills x l u o n) (adding_either p S x s) in
        record { respects = w.respects; fills = stops }

    still : Fills m R (adding p S) (adding p G)
    still x l u s n =
        let lacks : G x ≡ false = refuted (G x) (λ t. clash (adding_old p G x t) n) in
        let grows : Subset m G (adding p G) = λ y a b. adding_old p G y in
        ⊎_elim (λ q. absurd (clash (rw q (adding_it p G)) n)) (λ o. stopped_more (adding p G) grows (w.fills x l u o lacks))
        (adding_either p S x s)

    -- one more peptide
    pub walked_step : Walked m R (adding p S) (after_step m R G p)
    walked_step = mark_cases (Walked m R (adding p S)) stay (λ e. record { respects = open_respects e w.respects; fills = still })

-- The walk along a list.

pub among_facts : (ps : List ℕ) (p : ℕ) → among ps p ≡ true → In p ps
unfolding among
among_facts ps p e = let f = some_found (λ q. eqb p q) ps e in rw (eqb-true p f.it f.passes) f.member

pub among_holds : (ps : List ℕ) (p : ℕ) → In p ps → among ps p ≡ true
unfolding among
among_holds ps p i = some_in (λ q. eqb p q) ps p i (eq-eqb p p refl)

-- the peptides marked in the end, from the start set G on
unfoldable pub greedy : ℕ → List Range → Peptides → List ℕ → Peptides
greedy m R G [] = G
greedy m R G (p ∷ ps) = greedy m R (after_step m R G p) ps

pub greedy_snoc : (m : ℕ) (R : List Range) (G : Peptides) (ps : List ℕ) (p : ℕ) → greedy m R G (ps ++ p ∷ []) ≡ after_step m R (greedy m R G ps) p
unfolding greedy
greedy_snoc m R G [] p = refl
greedy_snoc m R G (q ∷ ps) p = greedy_snoc m R (after_step m R G q) ps p

-- the start set stays
pub greedy_old : (m : ℕ) (R : List Range) (G : Peptides) (ps : List ℕ) (x : ℕ) → G x ≡ true → greedy m R G ps x ≡ true
unfolding greedy
greedy_old m R G [] x h = h
greedy_old m R G (p ∷ ps) x h = greedy_old m R (after_step m R G p) ps x (mark_old m R G p x h)

-- what is not of the start set is on the list
pub greedy_new : (m : ℕ) (R : List Range) (G : Peptides) (ps : List ℕ) (x : ℕ) → greedy m R G ps x ≡ true → In x ps ⊎ (G x ≡ true)
unfolding greedy
greedy_new m R G [] x h = inr h
greedy_new m R G (p ∷ ps) x h =
    ⊎_elim (λ i. inl (inr i)) (λ k. ⊎_elim (λ e. inl (inl e)) inr (mark_new m R G p x k)) (greedy_new m R (after_step m R G p) ps x h)

-- X is what was walked before and what is on the list
walk : (m : ℕ) (R : List Range) (S X G : Peptides) (ps : List ℕ) → Walked m R S G → ((x : ℕ) → X x ≡ true → In x ps ⊎ (S x ≡ true))
    → Walked m R X (greedy m R G ps)
unfolding greedy
walk m R S X G [] w h = walked_less X (λ x l u e. ⊎_elim absurd (λ s. s) (h x e)) w
walk m R S X G (p ∷ ps) w h =
    walk m R (adding p S) X (after_step m R G p) ps (walked_step m R G p S w) (λ x e. ⊎_elim (on x) (λ s. inr (adding_old p S x s)) (h x e))
  where
    on : (x : ℕ) → (x ≡ p) ⊎ In x ps → In x ps ⊎ (adding p S x ≡ true)
    on x (inl e) = inr (rw e (adding_it p S))
    on x (inr i) = inl i

-- A walk from a set that respects all ranges ends in such a set, and whatever of the list it lacks is stopped.
pub walked : (m : ℕ) (R : List Range) (G : Peptides) (ps : List ℕ) → Respects m R G → Walked m R (among ps) (greedy m R G ps)
walked m R G ps h =
    let start : Walked m R none G = record { respects = h; fills = λ p l u s e. absurd (clash s refl) } in
    walk m R none (among ps) G ps start (λ x a. inl (among_facts ps x a))
