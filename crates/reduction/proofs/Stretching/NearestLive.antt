-- The passes over the peptides: the first one of a set from each number on, the last one up to each number,
-- and the first and last live peptide of a region that they give.
use Prim.Native.Nat.{ℕ, zero, suc, ◌+◌, ◌-◌, ◌<◌, ◌≤◌}
use native.Mathlib.Nat.{eq-or-lt_of_le}
use native.Mathlib.Numerals.{add-one}
use native.Mathlib.Omega.{arith}
use mathlib.Core.Bool.{Bool, true, false, cond}
use mathlib.Core.List.{List}
use mathlib.Core.Logic.{⊎_elim}
use mathlib.Core.Path.{◌≡◌, refl, sym, ap, subst, ◌∙◌}
use lib.ListN.{length, get_or, set}
use lib.Seq.{get_or-set_same, get_or-set_other}
use lib.Dec.{eqb, leb, ltb}
use borrow.Author.Tests.{eq-eqb, ne_eqb, eqb-true, eqb-false, leb-true, leb-false, ltb-true, ltb-false, lt-ltb, le-leb}
use Rattle.reader.specs.Family.{Family, region_count, region}
use Rattle.reader.specs.WellFormed.{WellFormed}
use Rattle.bounds.specs.Ranges.{Range, Peptides, ranges_of, range_at}
use Rattle.bounds.specs.Selections.{selected}
use Rattle.bounds.proofs.Basics.Members.{test, clash, eqb_bit}
use Rattle.bounds.proofs.Basics.Nesting.{has_facts, has_holds}
use Rattle.bounds.proofs.Theory.Family.{range_z}
use Rattle.reduction.specs.Reduction.{live, live_peptides, first_of, last_of}
use Rattle.reduction.specs.Private.Steps.{first_live, last_live}
use Rattle.reduction.specs.Private.Passes.{LiveUpTo, Next, Nexts, Lasts, if_within}
use Rattle.reduction.proofs.Basics.Selected.{selected_at}
use Rattle.reduction.proofs.Basics.FirstLast.{first_of_small, first_of_member, first_of_is, last_of_small, last_of_member, last_of_at_least, last_of_is}
use Rattle.reduction.proofs.Theory.Stretches.{live_in, in_live}
use Rattle.reduction.proofs.Stretching.DeadPeptides.{high_small}

-- Whether the next peptide is selected, from its byte.

byte : (M : List ℕ) (p : ℕ) → selected M (p + 1) ≡ eqb (get_or M p 0) 1
byte M p = selected_at M (p + 1) (omega arith) ∙ ap (λ (i : ℕ). eqb (get_or M i 0) 1) (omega arith)

pub live_next : (M : List ℕ) (p a : ℕ) → get_or M p 0 ≡ 1 → cond (selected M (p + 1)) (p + 1) a ≡ p + 1
live_next M p a e = rw (byte M p ∙ eq-eqb (get_or M p 0) 1 e)

pub dead_next : (M : List ℕ) (p a : ℕ) → (get_or M p 0 ≡ 1 → ⊥) → cond (selected M (p + 1)) (p + 1) a ≡ a
dead_next M p a ne = rw (byte M p ∙ ne_eqb (get_or M p 0) 1 ne)

-- The first one from each number on.

-- from m down to p + 1 they stand in the list; a is the last that was found
pub record Nearing (m : ℕ) (X : Peptides) (p a : ℕ) (A : List ℕ) : Type 0 where
  pub small : p ≤ m
  pub next : Next m X (p + 1) a
  pub all : (q : ℕ) → p < q → q ≤ m + 1 → Next m X q (get_or A q 0)

none_next : (m : ℕ) (X : Peptides) → Next m X (m + 1) 0
none_next m X = record { member = λ h. absurd (omega arith); least = λ q l h t. absurd (omega arith) }

pub nearing_starts : (m : ℕ) (X : Peptides) (A : List ℕ) → m + 1 < length A → Nearing m X m 0 (set A (m + 1) 0)
nearing_starts m X A room =
    record {
      small = omega arith;
      next = none_next m X;
      all = λ q l h. let e : q ≡ m + 1 = omega arith in rw (e, get_or-set_same A (m + 1) 0 0 room) (none_next m X);
    }

next_steps : (m : ℕ) (X : Peptides) (p a : ℕ) → 1 ≤ p → p ≤ m → Next m X (p + 1) a → Next m X p (cond (X p) p a)
next_steps m X p a some small n = go (X p) refl
  where
    go : (b : Bool) → X p ≡ b → Next m X p (cond b p a)
    go true e = record { member = λ h. (omega arith, small, e); least = λ q l h t. (some, l) }
    go false e =
        record {
          member = λ h. let k = n.member h in (omega (arith, k.0), k.1, k.2);
          least = λ q l h t. ⊎_elim (λ d. absurd (clash t (rw (← d) e))) (λ d. n.least q (omega arith) h t) (eq-or-lt_of_le l);
        }

nearing_step :
    (m : ℕ) (X : Peptides) (p a v : ℕ) (A : List ℕ) → p + 1 < length A → v ≡ cond (X (p + 1)) (p + 1) a → Nearing m X (p + 1) a A
    → Nearing m X p v (set A (p + 1) v)
nearing_step m X p a v A room e n =
    record {
      small = omega (arith, n.small);
      next = here;
      all =
          λ q l h.
          ⊎_elim
          (λ d. rw (← d, get_or-set_same A (p + 1) v 0 room) here)
          (λ d. rw (get_or-set_other A (p + 1) q v 0 (λ c. omega arith)) (n.all q d h))
          (eq-or-lt_of_le (up_from q l));
    }
  where
    here : Next m X (p + 1) v
    here = rw e (next_steps m X (p + 1) a (omega arith) n.small n.next)

    up_from : (q : ℕ) → p < q → p + 1 ≤ q
    up_from q l = omega arith

pub nearing_steps :
    (m : ℕ) (X : Peptides) (p q a v : ℕ) (A : List ℕ) → q ≡ p + 1 → p + 1 < length A → v ≡ cond (X (p + 1)) (p + 1) a → Nearing m X q a A
    → Nearing m X p v (set A (p + 1) v)
nearing_steps m X p q a v A next room e n = nearing_step m X p a v A room e (subst (λ (k : ℕ). Nearing m X k a A) next n)

pub nearing_ends : {m p a : ℕ} {X : Peptides} {A : List ℕ} → p ≡ 0 → Nearing m X p a A → Nexts m X A
nearing_ends e n q l h = n.all q (omega arith) h

-- The last one up to each number.

pub record Passing (X : Peptides) (p b : ℕ) (B : List ℕ) : Type 0 where
  pub last : b ≡ last_of p X
  pub all : (q : ℕ) → q ≤ p → get_or B q 0 ≡ last_of q X

pub passing_starts : (X : Peptides) (B : List ℕ) → 0 < length B → Passing X 0 0 (set B 0 0)
unfolding last_of
passing_starts X B room =
    record { last = refl; all = λ q l. let e : q ≡ 0 = omega arith in rw (e, get_or-set_same B 0 0 0 room) }

last_next : (X : Peptides) (p : ℕ) → last_of (p + 1) X ≡ cond (X (p + 1)) (p + 1) (last_of p X)
unfolding last_of
last_next X p = rw add-one

pub passing_steps :
    (X : Peptides) (p b v : ℕ) (B : List ℕ) → p + 1 < length B → v ≡ cond (X (p + 1)) (p + 1) b → Passing X p b B
    → Passing X (p + 1) v (set B (p + 1) v)
passing_steps X p b v B room e n =
    record {
      last = here;
      all =
          λ q l.
          ⊎_elim
          (λ d. rw d (get_or-set_same B (p + 1) v 0 room ∙ here))
          (λ d. get_or-set_other B (p + 1) q v 0 (λ c. omega arith) ∙ n.all q (omega arith))
          (eq-or-lt_of_le l);
    }
  where
    here : v ≡ last_of (p + 1) X
    here = e ∙ ap (λ (k : ℕ). cond (X (p + 1)) (p + 1) k) n.last ∙ sym (last_next X p)

-- The selected peptides are the live ones.

module _ (F : Family) (M : List ℕ) (right : LiveUpTo F F.peptides M) where
  selected_live : (p : ℕ) → 1 ≤ p → p ≤ F.peptides → selected M p ≡ live (ranges_of F) p
  selected_live p h l =
      let e : p - 1 + 1 ≡ p = omega arith in
      selected_at M p h
      ∙ ap (λ (k : ℕ). eqb k 1) (right (p - 1) (omega arith))
      ∙ eqb_bit (live (ranges_of F) (p - 1 + 1))
      ∙ ap (live (ranges_of F)) e

  pub nexts_live : (m : ℕ) (A : List ℕ) → m ≡ F.peptides → Nexts m (selected M) A → Nexts F.peptides (live (ranges_of F)) A
  nexts_live m A e n p h l =
      let f = rw e at (n p h (omega arith)) in
      record {
        member = λ s. let k = f.member s in (k.0, k.1, sym (selected_live (get_or A p 0) s k.1) ∙ k.2);
        least = λ q a b t. f.least q a b (selected_live q (omega arith) b ∙ t);
      }

  last_live_lem : (n : ℕ) → n ≤ F.peptides → last_of n (selected M) ≡ last_of n (live (ranges_of F))
  unfolding last_of
  last_live_lem zero h = refl
  last_live_lem (suc n) h = rw (selected_live (suc n) (omega arith) h, last_live_lem n (omega arith))

  pub lasts_live_lem : (m : ℕ) (B : List ℕ) → m ≡ F.peptides → Lasts m (selected M) B → Lasts F.peptides (live (ranges_of F)) B
  lasts_live_lem m B e n p h = n p (omega arith) ∙ last_live_lem p h

-- The first and last live peptide of a region.

first_of_none : (n : ℕ) (X : Peptides) → ((p : ℕ) → 1 ≤ p → p ≤ n → X p ≡ true → ⊥) → first_of n X ≡ 0
first_of_none n X h =
    ⊎_elim
    (λ t. eqb-true (first_of n X) 0 t)
    (λ f.
    let some : 1 ≤ first_of n X = omega (arith, eqb-false (first_of n X) 0 f) in
    absurd (h (first_of n X) some (first_of_small n X) (first_of_member n X some)))
    (test (eqb (first_of n X) 0))

last_of_none : (n : ℕ) (X : Peptides) → ((p : ℕ) → 1 ≤ p → p ≤ n → X p ≡ true → ⊥) → last_of n X ≡ 0
last_of_none n X h =
    ⊎_elim
    (λ t. eqb-true (last_of n X) 0 t)
    (λ f.
    let some : 1 ≤ last_of n X = omega (arith, eqb-false (last_of n X) 0 f) in
    absurd (h (last_of n X) some (last_of_small n X) (last_of_member n X some)))
    (test (eqb (last_of n X) 0))

-- One of the two tests is idle each way: what is found after the low end is none or above it, what is found up to the high end
-- is at most that.

next_within : {m : ℕ} {X : Peptides} (low high a : ℕ) → Next m X (low + 1) a → cond (ltb low a) (cond (leb a high) a 0) 0 ≡ cond (leb a high) a 0
next_within low high a n =
    ⊎_elim
    (λ z. rw (eqb-true a 0 z) (none (ltb low 0) (leb 0 high)))
    (λ f. rw (lt-ltb low a (omega (arith, (n.member (omega (arith, eqb-false a 0 f))).0))))
    (test (eqb a 0))
  where
    none : (b c : Bool) → ◌≡◌ {A = ℕ} (cond b (cond c 0 0) 0) (cond c 0 0)
    none true c = refl
    none false true = refl
    none false false = refl

last_within : (X : Peptides) (low high b : ℕ) → b ≡ last_of high X → cond (ltb low b) (cond (leb b high) b 0) 0 ≡ cond (ltb low b) b 0
last_within X low high b is = rw (le-leb b high (omega (arith, last_of_small high X)))

module _ (m : ℕ) (R : List Range) (r : Range) where
  first_from : (a : ℕ) → Next m (live R) (r.low + 1) a → cond (leb a r.high) a 0 ≡ first_of m (live_peptides R r)
  first_from a n =
      ⊎_elim
      (λ t.
      ⊎_elim
      (λ z.
      let none : a ≡ 0 = eqb-true a 0 z in
      rw t
      (none ∙ sym (first_of_none m (live_peptides R r) (λ p l h e. omega (arith, (n.least p (from p e) h (live_in m R r p e).1).0)))))
      (λ f.
      let some : 1 ≤ a = omega (arith, eqb-false a 0 f) in
      let k = n.member some in
      rw t
      (sym
      (first_of_is m (live_peptides R r) a some k.1
      (in_live m R r a (has_holds (record { above = omega (arith, k.0); upto = leb-true a r.high t })) k.2)
      (λ p l h e. (n.least p (from p e) h (live_in m R r p e).1).1))))
      (test (eqb a 0)))
      (λ f.
      rw f
      (sym
      (first_of_none m (live_peptides R r)
      (λ p l h e.
      omega (arith, leb-false a r.high f, (has_facts r p (live_in m R r p e).0).upto, (n.least p (from p e) h (live_in m R r p e).1).1)))))
      (test (leb a r.high))
    where
      from : (p : ℕ) → live_peptides R r p ≡ true → r.low + 1 ≤ p
      from p e = omega (arith, (has_facts r p (live_in m R r p e).0).above)

  last_to : (b : ℕ) → r.high ≤ m → b ≡ last_of r.high (live R) → cond (ltb r.low b) b 0 ≡ last_of m (live_peptides R r)
  last_to b small is =
      ⊎_elim
      (λ t.
      let above : r.low < b = ltb-true r.low b t in
      let upto : b ≤ r.high = omega (arith, last_of_small r.high (live R)) in
      rw t
      (sym
      (last_of_is m (live_peptides R r) b (omega arith) (omega arith)
      (in_live m R r b (has_holds (record { above = above; upto = upto })) (rw is (last_of_member r.high (live R) (omega arith))))
      (λ p l h e. most p l e))))
      (λ f.
      rw f
      (sym
      (last_of_none m (live_peptides R r)
      (λ p l h e. omega (arith, ltb-false r.low b f, most p l e, (has_facts r p (live_in m R r p e).0).above)))))
      (test (ltb r.low b))
    where
      most : (p : ℕ) → 1 ≤ p → live_peptides R r p ≡ true → p ≤ b
      most p l e = omega (arith, last_of_at_least r.high (live R) p l (has_facts r p (live_in m R r p e).0).upto (live_in m R r p e).1)

module _ (F : Family) (k z low high : ℕ) (ez : z ≡ (region F k).z) (el : low ≡ (range_at F k).low) (eh : high ≡ (range_at F k).high) where
  pub first_live_found :
      (a v : ℕ) → Next F.peptides (live (ranges_of F)) (low + 1) a → v ≡ if_within z low high a
      → v ≡ first_live F (range_at F k)
  unfolding first_live
  first_live_found a v n e =
      e
      ∙ ap (λ (x : ℕ). cond (eqb z 0) 0 x) (next_within low high a n)
      ∙ rw (ez ∙ sym (range_z F k), eh) (ap (λ (x : ℕ). cond (eqb (range_at F k).z 0) 0 x) (first_from F.peptides (ranges_of F) (range_at F k) a (rw el at n)))

  pub last_live_found :
      WellFormed F → k < region_count F → (b v : ℕ) → b ≡ last_of high (live (ranges_of F)) → v ≡ if_within z low high b
      → v ≡ last_live F (range_at F k)
  unfolding last_live
  last_live_found w l b v is e =
      e
      ∙ ap (λ (x : ℕ). cond (eqb z 0) 0 x) (last_within (live (ranges_of F)) low high b is)
      ∙ rw (ez ∙ sym (range_z F k), el) (ap (λ (x : ℕ). cond (eqb (range_at F k).z 0) 0 x) (last_to F.peptides (ranges_of F) (range_at F k) b (high_small F w k l) (rw eh at is)))
