-- The taken ranges: their z, and the selected peptides in none of them, add up to the bound.
use Prim.Native.Nat.{ℕ, ◌+◌, ◌≤◌, ◌<◌}
use mathlib.Core.Bool.{Bool, true, false, not, cond, ◌&&◌}
use mathlib.Core.List.{List, [], ◌∷◌, ◌++◌, map}
use mathlib.Core.Logic.{inl, inr, ⊎_elim}
use mathlib.Core.Path.{◌≡◌, refl, ap}
use native.Mathlib.Omega.{arith}
use lib.Dec.{eqb}
use borrow.Author.Tests.{ltb-true, lt-ltb}
use Rattle.bounds.specs.Ranges.{Range, Peptides, has, card, count, some, those, sum_over, inside, outside, In}
use Rattle.bounds.specs.Bound.{total, bound, full, is_taken, taken_by, taken_sum}
use Rattle.bounds.proofs.Basics.Members.{test, le_or_lt, clash, and_l, and_r, and_both, ands, some_in, nowhere_facts, nowhere_holds, in_those, those_in, sum_mono, sum_same, eqb_bit}
use Rattle.bounds.proofs.Basics.Counting.{Subset, card_mono, adding, adding_either, count_mono, count_adding, Apart, cover, partition}
use Rattle.bounds.proofs.Basics.Nesting.{Inside, inside_facts, inside_holds, inner, inner_facts, Below, inward, widest}
use Rattle.bounds.proofs.Theory.Laminar.{Laminar, member_hosts, flat_apart, line, line_around}
use Rattle.bounds.proofs.Theory.Greedy.{Respects, Stopped, Fills, Walked, blocked, blocked_facts, open_respects}
use Rattle.bounds.proofs.Theory.Formula.{at_most_lem, stopped_outer, stopped_under, at_least, walked_bound, chosen_walked, chosen_selected}

-- The tests as facts.

pub full_facts : (m : ℕ) (R : List Range) (S : Peptides) (r : Range) → full m R S r ≡ true → r.z < total m R S r
unfolding full
full_facts m R S r e = ltb-true r.z (total m R S r) e

pub full_holds : (m : ℕ) (R : List Range) (S : Peptides) (r : Range) → r.z < total m R S r → full m R S r ≡ true
unfolding full
full_holds m R S r h = lt-ltb r.z (total m R S r) h

-- r is full, and no member around it is
pub record Taken (m : ℕ) (R : List Range) (S : Peptides) (r : Range) : Type 0 where
  pub over : r.z < total m R S r
  pub outermost : (q : Range) → In q R → Inside r q → q.z < total m R S q → ⊥

pub taken_facts : (m : ℕ) (R : List Range) (S : Peptides) (r : Range) → is_taken m R S r ≡ true → Taken m R S r
unfolding is_taken
taken_facts m R S r e =
    let free = nowhere_facts (λ q. inside r q && full m R S q) R (search ands) in
    record { over = full_facts m R S r (search ands); outermost = λ q i n h. free q i (search (ands, inside_holds, full_holds)) }

pub taken_holds : {m : ℕ} {R : List Range} {S : Peptides} {r : Range} → Taken m R S r → is_taken m R S r ≡ true
unfolding is_taken
taken_holds {m} {R} {S} {r} t =
    let around : Range → Bool = λ q. inside r q && full m R S q in
    let free = nowhere_holds around R (λ q i e. t.outermost q i (inside_facts r q (search ands)) (full_facts m R S q (search ands))) in
    and_both (full m R S r) (not (some around R)) (full_holds m R S r t.over) free

-- the members taken
abbrev pub taken : ℕ → List Range → Peptides → List Range
taken m R S = those (is_taken m R S) R

-- G is what a walk over the selection marks.
module _ {m : ℕ} {R : List Range} {S G : Peptides} (l : Laminar m R) (w : Walked m R S G) (sub : Subset m G S) where
  -- p is stopped by a full member
  abbrev Overfull : ℕ → Type 0
  Overfull p = (s : Stopped m R G p) × (s.by.z < total m R S s.by)

  -- A selected peptide p that is not marked:
  module _ (p : ℕ) (low : 0 < p) (high : p ≤ m) (selected : S p ≡ true) (lacks : G p ≡ false) where
    -- if u stops p and no member inside u does, then G with p respects the members inside u, and has more than z peptides in u: so u is full;
    innermost : (s : Stopped m R G p) → blocked m (inner R s.by) G p ≡ false → s.by.z < total m R S s.by
    innermost s free =
        let u = s.by in
        let few = open_respects m (inner R u) G p free (λ t i. w.respects t (inner_facts R u t i).0) in
        let only : Subset m (adding p G) S = λ x a b e. ⊎_elim (λ q. rw q selected) (λ g. sub x a b g) (adding_either p G x e) in
        let all = count_mono m (adding p G) (λ x. adding p G x && S x) u (λ x a b h e. and_both (adding p G x) (S x) e (only x a b e)) in
        omega (arith, s.filled, at_most_lem m R S (adding p G) u few, count_adding m p G u low high lacks s.holds)

    -- if a member inside u stops p, look there.
    abbrev Leads : Range → Type 0
    Leads u = In u R → has u p ≡ true → u.z ≤ count m G u → Overfull p

    leads_step : (u : Range) → Below R Leads u → Leads u
    leads_step u ih i h f =
        ⊎_elim (λ e. deeper (stopped_outer u (blocked_facts m (inner R u) G p e))) (λ e. (here, innermost here e)) (test (blocked m (inner R u) G p))
      where
        here : Stopped m R G p
        here = record { by = u; member = i; holds = h; filled = f }

        deeper : (s : Stopped m R G p) × Inside s.by u → Overfull p
        deeper s = let t = s.0 in ih t.by t.member s.1 t.member t.holds t.filled

    -- So a full member stops it.
    overfull : Overfull p
    overfull = let s = w.fills p low high selected lacks in inward R Leads leads_step s.by s.member s.holds s.filled

  -- A taken member has z marked peptides. With fewer, each unmarked peptide of it would be stopped by a full member, and not by one around it,
  -- so by one inside it; but then it would have its total, which is more than z.
  stops_inside : (r : Range) → In r R → Taken m R S r → count m G r < r.z → Fills m (inner R r) (λ p. has r p && S p) G
  stops_inside r i t less p a b h lacks =
      let (s, over) = overfull p a b (and_r (has r p) (S p) h) lacks in
      stopped_under l r i less (and_l (has r p) (S p) h) s (λ n. t.outermost s.by s.member n over)

  taken_filled : (r : Range) → In r R → Taken m R S r → r.z ≤ count m G r
  taken_filled r i t =
      let whole = at_least l S G r (member_hosts l r i) in
      ⊎_elim (λ filled. filled) (λ less. absurd (omega (arith, t.over, whole (stops_inside r i t less)))) (le_or_lt r.z (count m G r))

  taken_exact : (r : Range) → In r (taken m R S) → count m G r ≡ r.z
  taken_exact r i = let (j, e) = those_in (is_taken m R S) R r i in omega (arith, w.respects r j, taken_filled r j (taken_facts m R S r e))

  -- A selected peptide that is not marked is in a taken member: the widest full one around the member that stops it.
  lacks_taken : (p : ℕ) → 0 < p → p ≤ m → S p ≡ true → G p ≡ false → outside (taken m R S) p ≡ false
  unfolding outside
  lacks_taken p a b selected lacks =
      let (s, more) = overfull p a b selected lacks in
      let every = (line_around m R).every in
      let v = widest R (full m R S) (line m R) s.by s.member (full_holds m R S s.by more) (every s.by s.member) in
      let q = v.it in
      let over = full_facts m R S q v.passes in
      let t : Taken m R S q = record { over = over; outermost = λ x i n h. v.last x i (full_holds m R S x h) n (every x i) } in
      let inside = member_hosts l q v.member s.by s.member in
      let holds : has q p ≡ true = ⊎_elim (λ e. rw e at s.holds) (λ n. inside n p s.holds) v.around in
      ap not (some_in (λ r. has r p) (taken m R S) q (in_those (is_taken m R S) R q v.member (taken_holds t)) holds)

  -- so a selected peptide in no taken member is marked
  free_marked : (p : ℕ) → 0 < p → p ≤ m → outside (taken m R S) p ≡ true → S p ≡ true → G p ≡ true
  free_marked p a b o s = ⊎_elim (λ e. e) (λ e. absurd (clash o (lacks_taken p a b s e))) (test (G p))

  -- No taken member is inside another.
  taken_apart : Apart (taken m R S)
  taken_apart = flat_apart l (is_taken m R S) (λ r t i j a b n. (taken_facts m R S r a).outermost t j n (taken_facts m R S t b).over)

  -- The taken members have z each, and outside of them all selected peptides are marked.
  walked_taken : card m G ≡ sum_over (λ r. r.z) (taken m R S) + card m (λ p. outside (taken m R S) p && S p)
  walked_taken =
      let out : Peptides = outside (taken m R S) in
      let filled = sum_same (count m G) (λ r. r.z) (taken m R S) taken_exact in
      let less = card_mono m (λ p. out p && G p) (λ p. out p && S p) (λ p a b e. search (ands, sub)) in
      let more = card_mono m (λ p. out p && S p) (λ p. out p && G p) (λ p a b e. search (ands, free_marked)) in
      omega (arith, partition m G (taken m R S) taken_apart)

-- The z of the taken members and the selected peptides in none of them add up to the bound.
pub taken_bound : {m : ℕ} {R : List Range} → Laminar m R → (S : Peptides)
    → bound m R S ≡ sum_over (λ r. r.z) (those (is_taken m R S) R) + card m (λ p. outside (those (is_taken m R S) R) p && S p)
taken_bound {m} {R} l S =
    let w = chosen_walked m R S in
    let sub = chosen_selected m R S in
    omega (arith, walked_bound l w sub, walked_taken l w sub)

-- The ranges that bytes name.

taken_by_in : (bytes : List ℕ) (R : List Range) (r : Range) → In r (taken_by bytes R) → In r R
unfolding taken_by
taken_by_in [] R r i = absurd i
taken_by_in (b ∷ bytes) [] r i = absurd i
taken_by_in (b ∷ bytes) (q ∷ R) r i = go (eqb b 1) i (taken_by_in bytes R r)
  where
    go : (t : Bool) → In r (cond t (q ∷ taken_by bytes R) (taken_by bytes R)) → (In r (taken_by bytes R) → In r R) → In r (q ∷ R)
    go true (inl e) f = inl e
    go true (inr j) f = inr (f j)
    go false j f = inr (f j)

-- bytes from a test name those that pass it, whatever stands after them
pub taken_by_those : (t : Range → Bool) (R : List Range) (rest : List ℕ) → taken_by (map (λ r. cond (t r) 1 0) R ++ rest) R ≡ those t R
unfolding taken_by those
taken_by_those t [] [] = refl
taken_by_those t [] (b ∷ rest) = refl
taken_by_those t (r ∷ R) rest = rw (eqb_bit (t r), taken_by_those t R rest)

-- Whatever ranges bytes name, no admissible set has more of the selection than their z, plus the selected peptides in none of them.
pub taken_by_most : (m : ℕ) (R : List Range) (S A : Peptides) (bytes : List ℕ) → Respects m R A → card m (λ p. A p && S p) ≤ taken_sum m R S bytes
unfolding taken_sum
taken_by_most m R S A bytes h =
    let both : Peptides = λ p. A p && S p in
    let Q = taken_by bytes R in
    let few = sum_mono (count m both) (λ r. r.z) Q
    (λ r i. omega (arith, h r (taken_by_in bytes R r i), count_mono m both A r (λ p l u k e. search ands))) in
    let free = card_mono m (λ p. outside Q p && both p) (λ p. outside Q p && S p) (λ p l u e. search ands) in
    omega (arith, cover m both Q)
