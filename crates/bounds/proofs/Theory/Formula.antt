-- Formula (3): the bound is the largest count of the selection in any admissible set, and a greedy walk reaches it.
use Prim.Native.Nat.{ℕ, zero, suc, ◌≤◌, ◌<◌}
use mathlib.Core.Bool.{true, ◌&&◌}
use mathlib.Core.List.{List, [], ◌∷◌}
use mathlib.Core.Logic.{inl, inr, ⊎_elim}
use mathlib.Core.Path.{◌≡◌, refl, sym}
use native.Mathlib.Nat.{eq-or-lt_of_le}
use native.Mathlib.Omega.{arith}
use Rattle.bounds.specs.Ranges.{Range, Peptides, has, card, count, those, parts, outside, In}
use Rattle.bounds.specs.Bound.{total, value, bound, IsLargest}
use Rattle.bounds.proofs.Basics.Members.{test, le_or_lt, clash, and_l, and_r, and_both, ands, in_those, those_in, sum_mono}
use Rattle.bounds.proofs.Basics.Counting.{Subset, SameSet, none, card_mono, count_mono, Contains, cover_in, partition_in}
use Rattle.bounds.proofs.Basics.Nesting.{Inside, inside_trans, Part, part_facts, inner, inner_facts, inner_holds, Below, inward}
use Rattle.bounds.proofs.Theory.Laminar.{Laminar, meet, Hosts, member_hosts, parts_apart, in_a_part, Around, around_hosts, around_count, line, line_around}
use Rattle.bounds.proofs.Theory.Totals.{total_is, bound_is}
use Rattle.bounds.specs.Curves.{among}
use Rattle.bounds.proofs.Theory.Greedy.{Respects, respects_facts, respects_holds, respects_none, Stopped, Fills, Walked, walked_less, among_holds, greedy, greedy_new, walked}

-- (a) No set that respects the members inside q has more of the selection in q than the total of q. This holds for any list of ranges.

module _ (m : ℕ) (R : List Range) (S A : Peptides) where
  abbrev both : Peptides
  both p = A p && S p

  abbrev AtMost : Range → Type 0
  AtMost q = Respects m (inner R q) A → count m both q ≤ total m R S q

  at_most_part : (q : Range) → Below R AtMost q → Respects m (inner R q) A → (r : Range) → In r (parts R q) → count m both r ≤ value m R S r
  unfolding value
  at_most_part q ih few r i =
      let f = part_facts R q r i in
      let n = f.just.inner in
      let own = few r (inner_holds R f.member n) in
      let inside = ih r f.member n (λ t j. let g = inner_facts R r t j in few t (inner_holds R g.0 (inside_trans g.1 n))) in
      omega (arith, count_mono m both A r (λ p l u h e. search ands))

  at_most_step : (q : Range) → Below R AtMost q → AtMost q
  at_most_step q ih few =
      let out : Peptides = outside (parts R q) in
      let values = sum_mono (count m both) (value m R S) (parts R q) (at_most_part q ih few) in
      let free = count_mono m (λ p. out p && both p) (λ p. out p && S p) q (λ p l u h e. search ands) in
      omega (arith, total_is m R S q, cover_in m both (parts R q) q)

  pub at_most_lem : (q : Range) → Respects m (inner R q) A → count m (λ p. A p && S p) q ≤ total m R S q
  at_most_lem = inward R AtMost at_most_step

-- What stops a peptide.

pub stopped_inner : {m : ℕ} {R : List Range} {G : Peptides} {p : ℕ} {q : Range} (s : Stopped m R G p) → Inside s.by q
    → Stopped m (inner R q) G p
stopped_inner {R = R} s n = record { by = s.by; member = inner_holds R s.member n; holds = s.holds; filled = s.filled }

pub stopped_outer : {m : ℕ} {R : List Range} {G : Peptides} {p : ℕ} (q : Range) → Stopped m (inner R q) G p
    → (s : Stopped m R G p) × Inside s.by q
stopped_outer {R = R} q s =
    let (i, n) = inner_facts R q s.by s.member in
    (record { by = s.by; member = i; holds = s.holds; filled = s.filled }, n)

-- what stops a peptide of a member r is inside r, if r is not filled and it is not around r
pub stopped_under : {m : ℕ} {R : List Range} {G : Peptides} {p : ℕ} → Laminar m R → (r : Range) → In r R → count m G r < r.z → has r p ≡ true
    → (s : Stopped m R G p) → (Inside r s.by → ⊥) → Stopped m (inner R r) G p
stopped_under {p = p} l r i less h s not-around =
    ⊎_elim (λ same. absurd (omega (arith, rw (sym same) at s.filled))) (⊎_elim (λ n. absurd (not-around n)) (stopped_inner s))
    (meet l r s.by i s.member p h s.holds)

-- (b) A set has at least the total of q in q, if each selected peptide of q that it lacks is stopped by a member inside q.

module _ {m : ℕ} {R : List Range} (l : Laminar m R) (S G : Peptides) where
  abbrev FillsIn : Range → Type 0
  FillsIn q = Fills m (inner R q) (λ p. has q p && S p) G

  abbrev AtLeast : Range → Type 0
  AtLeast q = Hosts R q → FillsIn q → total m R S q ≤ count m G q

  -- it passes to the parts that are not filled
  fills_part : (q : Range) → Hosts R q → FillsIn q → (r : Range) → Part R r q → count m G r < r.z → FillsIn r
  fills_part q hosts fill r f less p a b h e =
      let own : has r p ≡ true = and_l (has r p) (S p) h in
      let within : has q p ≡ true = hosts r f.member f.just.inner p own in
      let (s, n) = stopped_outer q (fill p a b (search ands) e) in
      stopped_under l r f.member less own s (λ k. f.just.next s.by s.member k n)

  at_least_part : (q : Range) → Below R AtLeast q → Hosts R q → FillsIn q → (r : Range) → In r (parts R q) → value m R S r ≤ count m G r
  unfolding value
  at_least_part q ih hosts fill r i =
      let f = part_facts R q r i in
      let inside = ih r f.member f.just.inner (member_hosts l r f.member) in
      ⊎_elim (λ full. omega arith) (λ less. omega (arith, inside (fills_part q hosts fill r f less))) (le_or_lt r.z (count m G r))

  -- a selected peptide of q in none of its parts is not stopped
  free_kept : (q : Range) → FillsIn q → (p : ℕ) → 0 < p → p ≤ m → has q p ≡ true → outside (parts R q) p ≡ true → S p ≡ true → G p ≡ true
  free_kept q fill p a b h o e = ⊎_elim (λ t. t) (λ t. absurd (stopped (stopped_outer q (fill p a b (search ands) t)))) (test (G p))
    where
      stopped : (s : Stopped m R G p) × Inside s.by q → ⊥
      stopped s = clash o (in_a_part l q s.0.by s.0.member s.1 p s.0.holds)

  at_least_step : (q : Range) → Below R AtLeast q → AtLeast q
  at_least_step q ih hosts fill =
      let out : Peptides = outside (parts R q) in
      let values = sum_mono (value m R S) (count m G) (parts R q) (at_least_part q ih hosts fill) in
      let free = count_mono m (λ p. out p && S p) (λ p. out p && G p) q (λ p a b h e. search (ands, free_kept q fill p a b h)) in
      let within : (r : Range) → In r (parts R q) → Contains q r = λ r i. let f = part_facts R q r i in hosts r f.member f.just.inner in
      omega (arith, total_is m R S q, partition_in m G (parts R q) q (parts_apart l q) within)

  pub at_least : (q : Range) → Hosts R q → Fills m (inner R q) (λ p. has q p && S p) G → total m R S q ≤ count m G q
  at_least = inward R AtLeast at_least_step

-- (c) The greedy walk.

-- With the members inside q, a walk over the selection ends with at least the total of q in q, whatever set it starts from,
pub walked_total : {m : ℕ} {R : List Range} {S G : Peptides} → Laminar m R → (q : Range) → Hosts R q → Walked m (inner R q) S G
    → total m R S q ≤ count m G q
walked_total {S = S} {G = G} l q hosts w = at_least l S G q hosts (λ p a b h e. w.fills p a b (and_r (has q p) (S p) h) e)

-- and with exactly that, if it marks only selected peptides.
pub walked_exact : {m : ℕ} {R : List Range} {S G : Peptides} → Laminar m R → (q : Range) → Hosts R q → Walked m (inner R q) S G → Subset m G S
    → count m G q ≡ total m R S q
walked_exact {m} {R} {S} {G} l q hosts w sub =
    let same = count_mono m G (λ p. G p && S p) q (λ p a b h e. and_both (G p) (S p) e (sub p a b e)) in
    omega (arith, walked_total l q hosts w, at_most_lem m R S G q w.respects)

-- all members are inside a line around them
walked_line : {m : ℕ} {R : List Range} {S G : Peptides} {q : Range} → Around m R q → Walked m R S G → Walked m (inner R q) S G
walked_line {R = R} {q = q} a w =
    record {
      respects = λ r i. w.respects r (inner_facts R q r i).0;
      fills = λ p b u e n. let s = w.fills p b u e n in stopped_inner s (a.every s.by s.member);
    }

-- With all members, it marks as many peptides as the bound.
pub walked_bound : {m : ℕ} {R : List Range} {S G : Peptides} → Laminar m R → Walked m R S G → Subset m G S → card m G ≡ bound m R S
walked_bound {m} {R} {S} {G} l w sub =
    let a = line_around m R in
    omega (arith, walked_exact l (line m R) (around_hosts l a) (walked_line a w) sub, bound_is l a S, around_count a G)

-- Formula (3).

-- No set that respects all members has more of the selection than the bound.
pub bound_most : {m : ℕ} {R : List Range} → Laminar m R → (S A : Peptides) → Respects m R A → card m (λ p. A p && S p) ≤ bound m R S
bound_most {m} {R} l S A h =
    let a = line_around m R in
    let q = line m R in
    omega (arith, bound_is l a S, around_count a (λ p. A p && S p), at_most_lem m R S A q (λ r i. h r (inner_facts R q r i).0))

-- such a walk is a witness
walked_largest : {m : ℕ} {R : List Range} {S G : Peptides} → Laminar m R → Walked m R S G → Subset m G S → IsLargest m R S (bound m R S)
walked_largest {m} {R} {S} {G} l w sub =
    let same = card_mono m G (λ p. G p && S p) (λ p a b e. and_both (G p) (S p) e (sub p a b e)) in
    let full : card m (λ p. G p && S p) ≡ bound m R S = omega (arith, walked_bound l w sub, bound_most l S G w.respects) in
    record {
      witness = G;
      admissible = respects_holds m R G w.respects;
      reached = full;
      at_most = λ A a. bound_most l S A (respects_facts m R A a);
    }

-- m, m - 1, .., 1
down_from : ℕ → List ℕ
down_from zero = []
down_from (suc n) = suc n ∷ down_from n

down_from_in : (m p : ℕ) → 0 < p → p ≤ m → In p (down_from m)
unfolding down_from
down_from_in zero p l u = absurd (omega arith)
down_from_in (suc m) p l u = ⊎_elim inl (λ h. inr (down_from_in m p l (omega arith))) (eq-or-lt_of_le u)

-- the peptides marked on a walk over the selection, in any order
pub chosen : ℕ → List Range → Peptides → Peptides
chosen m R S = greedy m R none (those S (down_from m))

-- each selected peptide that it lacks is stopped,
pub chosen_walked : (m : ℕ) (R : List Range) (S : Peptides) → Walked m R S (chosen m R S)
unfolding chosen
chosen_walked m R S =
    let ps = those S (down_from m) in
    let listed : Subset m S (among ps) = λ p l u e. among_holds ps p (in_those S (down_from m) p (down_from_in m p l u) e) in
    walked_less S listed (walked m R none ps (respects_none m R))

-- and it has no others
pub chosen_selected : (m : ℕ) (R : List Range) (S : Peptides) → Subset m (chosen m R S) S
unfolding chosen
chosen_selected m R S p l u e =
    let ps = those S (down_from m) in
    ⊎_elim (λ i. (those_in S (down_from m) p i).1) (λ h. absurd (clash h refl)) (greedy_new m R none ps p e)

-- The bound is the largest count of the selection in any admissible set.
pub formula3 : {m : ℕ} {R : List Range} → Laminar m R → (S : Peptides) → IsLargest m R S (bound m R S)
formula3 {m} {R} l S = walked_largest l (chosen_walked m R S) (chosen_selected m R S)

-- There is one such number.
pub largest_unique : {m : ℕ} {R : List Range} {S : Peptides} {v w : ℕ} → IsLargest m R S v → IsLargest m R S w → v ≡ w
largest_unique a b = omega (arith, a.reached, b.reached, a.at_most b.witness b.admissible, b.at_most a.witness a.admissible)

-- A larger selection has no smaller bound.
pub bound_mono : {m : ℕ} {R : List Range} → Laminar m R → (S X : Peptides) → Subset m S X → bound m R S ≤ bound m R X
bound_mono {m} {R} l S X h =
    let f = formula3 l S in
    let G = f.witness in
    let more = card_mono m (λ p. G p && S p) (λ p. G p && X p) (λ p a b e. search (ands, h)) in
    omega (arith, f.reached, (formula3 l X).at_most G f.admissible)

-- Selections that agree on 1 to m have the same bound.
pub bound_same : {m : ℕ} {R : List Range} → Laminar m R → (S X : Peptides) → SameSet m S X → bound m R S ≡ bound m R X
bound_same l S X h = omega (arith, bound_mono l S X (λ p a b e. rw (h p a b) at e), bound_mono l X S (λ p a b e. rw (h p a b) e))
