-- The peptides that the greedy walk marks along a path of a family: the set after each place, and the entries and marks that it gives.
use Prim.Native.Nat.{ℕ, suc, ◌+◌, ◌-◌, ◌<◌}
use mathlib.Core.Bool.{Bool, true, false, not, ◌||◌}
use mathlib.Core.List.{List, [], ◌∷◌, ◌++◌}
use mathlib.Core.Logic.{⊎_elim}
use mathlib.Core.Path.{◌≡◌, refl, sym, ap, ◌∙◌}
use native.Mathlib.Numerals.{add-one}
use native.Mathlib.Omega.{arith}
use lib.ListN.{length, get_or, take}
use lib.Seq.{take-suc, get_or-take, length-take-le}
use lib.Dec.{eqb}
use borrow.Author.Tests.{eq-eqb, ne_eqb}
use Rattle.reader.specs.Family.{Family}
use Rattle.reader.specs.WellFormed.{WellFormed}
use Rattle.bounds.specs.Ranges.{Peptides, ranges_of, In, some}
use Rattle.bounds.specs.Curves.{among, entry, mark_at}
use Rattle.bounds.specs.Private.Walks.{Distinct}
use Rattle.bounds.proofs.Basics.Members.{test, clash, refuted, bit, place}
use Rattle.bounds.proofs.Basics.Counting.{none, card_none, adding}
use Rattle.bounds.proofs.Theory.Greedy.{blocked, after_step, among_facts, greedy, greedy_snoc, greedy_new}
use Rattle.bounds.proofs.Theory.Paths.{path_bound, entry_step}
use Rattle.bounds.proofs.Theory.Family.{family_laminar}

-- The first peptides of a path, and the next.

among_more : (L : List ℕ) (q p : ℕ) → among (L ++ (q ∷ [])) p ≡ adding q (among L) p
unfolding among some adding
among_more [] q p = refl
among_more (x ∷ L) q p = rw (among_more L q p) (turn (eqb p x) (eqb p q) (among L p))
  where
    turn : (a b c : Bool) → a || (b || c) ≡ b || (a || c)
    turn true true c = refl
    turn true false c = refl
    turn false b c = refl

pub among_next : (path : List ℕ) (t : ℕ) → t < length path → (p : ℕ) → among (take (suc t) path) p ≡ adding (get_or path t 0) (among (take t path)) p
among_next path t h p = rw (take-suc path t 0 h) (among_more (take t path) (get_or path t 0) p)

-- it is new where it stands
module _ {m : ℕ} {path : List ℕ} (is : Distinct m path) where
  not_before : (t : ℕ) → t < length path → In (get_or path t 0) (take t path) → ⊥
  not_before t h i =
      let q = place 0 (take t path) (get_or path t 0) i in
      let l : q.at < t = omega (arith, q.in_range, length-take-le t path (omega arith)) in
      is.differ q.at t l h (sym (q.there ∙ get_or-take t path q.at 0 l))

  pub not_among : (t : ℕ) → t < length path → among (take t path) (get_or path t 0) ≡ false
  not_among t h = refuted (among (take t path) (get_or path t 0)) (λ e. not_before t h (among_facts (take t path) (get_or path t 0) e))

module _ {F : Family} {path : List ℕ} (well : WellFormed F) (is : Distinct F.peptides path) where
  -- the peptides marked among the first t
  abbrev pub marked_set : ℕ → Peptides
  marked_set t = greedy F.peptides (ranges_of F) none (take t path)

  pub not_marked : (t : ℕ) → t < length path → marked_set t (get_or path t 0) ≡ false
  not_marked t h =
      refuted (marked_set t (get_or path t 0))
      (λ e. ⊎_elim (λ i. not_before is t h i) (λ n. clash n refl) (greedy_new F.peptides (ranges_of F) none (take t path) (get_or path t 0) e))

  -- the set after one more place
  marked_next : (t : ℕ) → t < length path → marked_set (suc t) ≡ after_step F.peptides (ranges_of F) (marked_set t) (get_or path t 0)
  marked_next t h = ap (greedy F.peptides (ranges_of F) none) (take-suc path t 0 h) ∙ greedy_snoc F.peptides (ranges_of F) none (take t path) (get_or path t 0)

  -- a region that holds the next peptide has as many marked as its z
  abbrev pub stops : ℕ → Bool
  stops t = blocked F.peptides (ranges_of F) (marked_set t) (get_or path t 0)

  pub marked_stays : (t : ℕ) → t < length path → stops t ≡ true → marked_set (suc t) ≡ marked_set t
  unfolding after_step
  marked_stays t h e = marked_next t h ∙ rw e

  pub marked_grows : (t : ℕ) → t < length path → stops t ≡ false → marked_set (suc t) ≡ adding (get_or path t 0) (marked_set t)
  unfolding after_step
  marked_grows t h e = marked_next t h ∙ rw e

  -- entry t + 1 is entry t, or one more
  pub entry_next : (t : ℕ) → t < length path → entry F path (suc t) ≡ entry F path t + bit (not (stops t))
  unfolding entry
  entry_next t h = entry_step (family_laminar well) path t h (is.some t h) (is.most t h) (not_among is t h)

  pub mark_is : (t : ℕ) → t < length path → mark_at F path (t + 1) ≡ bit (not (stops t))
  unfolding mark_at
  mark_is t h =
      let e : entry F path (t + 1) ≡ entry F path t + bit (not (stops t)) = rw add-one (entry_next t h) in
      let back : t + 1 - 1 ≡ t = omega arith in
      ⊎_elim
      (λ s.
      rw (back, ne_eqb (entry F path (t + 1)) (entry F path t + 1) (λ q. omega (arith, rw s at e)), s))
      (λ s.
      rw (back, eq-eqb (entry F path (t + 1)) (entry F path t + 1) (omega (arith, rw s at e)), s))
      (test (stops t))

  pub entry_start : entry F path 0 ≡ 0
  unfolding entry greedy
  entry_start = sym (path_bound (family_laminar well) []) ∙ card_none F.peptides none (λ p l u. refl)
