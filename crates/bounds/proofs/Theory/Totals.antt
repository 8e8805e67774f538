-- The inside total as an equation, what it depends on, and the bound as the total of the whole line.
use Prim.Native.Nat.{ℕ, zero, suc, ◌+◌, ◌<◌, min}
use mathlib.Core.Bool.{true, not, ◌&&◌}
use mathlib.Core.List.{List}
use mathlib.Core.Path.{◌≡◌, refl, ap}
use native.Mathlib.Omega.{arith}
use lib.ListN.{length}
use Rattle.bounds.specs.Ranges.{Range, Peptides, has, count, some, sum_over, inside, just_inside, parts, outermost, outside, In}
use Rattle.bounds.specs.Bound.{total_within, total, value, bound}
use Rattle.bounds.proofs.Basics.Members.{clash, both_ways, nowhere_facts, nowhere_holds, those_same, sum_same}
use Rattle.bounds.proofs.Basics.Counting.{SameSet, card_same, count_same}
use Rattle.bounds.proofs.Basics.Nesting.{Inside, inside_facts, inside_holds, JustInside, just_facts, just_holds, Part, part_facts, deep, deep_less, deep_most, Below, inward}
use Rattle.bounds.proofs.Theory.Laminar.{Laminar, Around, around_count, in_a_part}

-- The equation.

module _ (m : ℕ) (R : List Range) (S : Peptides) where
  capped : ℕ → Range → ℕ
  capped k r = min r.z (total_within k m R S r)

  -- going deeper than there are members inside q changes nothing
  enough : (k : ℕ) (q : Range) → deep R q < k → total_within k m R S q ≡ total_within (suc k) m R S q
  unfolding total_within capped
  enough zero q h = absurd (omega arith)
  enough (suc k) q h =
      let falls : (r : Range) → Part R r q → deep R r < k = λ r f. omega (arith, deep_less R r q f.member f.just.inner) in
      let same = sum_same (capped k) (capped (suc k)) (parts R q) (λ r i. ap (min r.z) (enough k r (falls r (part_facts R q r i)))) in
      ap (λ n. n + count m (λ p. outside (parts R q) p && S p) q) same

  -- The inside total of q: the values of its parts, and its selected peptides in none of them.
  pub total_is : (q : Range) → total m R S q ≡ sum_over (value m R S) (parts R q) + count m (λ p. outside (parts R q) p && S p) q
  unfolding total total_within value
  total_is q = enough (suc (length R)) q (omega (arith, deep_most R q))

-- What totals depend on.

-- the value follows the total
value_same : (m : ℕ) (R T : List Range) (S X : Peptides) (r : Range) → total m R S r ≡ total m T X r → value m R S r ≡ value m T X r
unfolding value
value_same m R T S X r e = ap (min r.z) e

-- Where two lists have the same parts, down from q, and two selections are the same, they have the same totals.
module _ (m : ℕ) (R T : List Range) (S X : Peptides) (same : SameSet m S X) (P : Range → Type 0) (down : (q r : Range) → P q → Inside r q → P r)
    (alike : (q : Range) → P q → parts T q ≡ parts R q) where
  abbrev Equal : Range → Type 0
  Equal q = P q → total m R S q ≡ total m T X q

  equal_part : (q : Range) → Below R Equal q → P q → (r : Range) → In r (parts R q) → value m R S r ≡ value m T X r
  equal_part q ih v r i = let f = part_facts R q r i in value_same m R T S X r (ih r f.member f.just.inner (down q r v f.just.inner))

  equal_step : (q : Range) → Below R Equal q → Equal q
  equal_step q ih v =
      let out : Peptides = outside (parts R q) in
      let values = sum_same (value m R S) (value m T X) (parts R q) (equal_part q ih v) in
      let free = count_same m (λ p. out p && S p) (λ p. out p && X p) q (λ p l u i. ap (λ b. out p && b) (same p l u)) in
      omega (arith, total_is m R S q, rw (alike q v) at (total_is m T X q))

  total_equal : (q : Range) → Equal q
  total_equal = inward R Equal equal_step

-- A total depends on the selection on 1 to m alone.
pub total_same : (m : ℕ) (R : List Range) (S X : Peptides) → SameSet m S X → (q : Range) → total m R S q ≡ total m R X q
total_same m R S X h q = total_equal m R R S X h (λ r. Unit {0}) (λ q r v i. tt) (λ r v. refl) q tt

-- The bound.

-- the parts of a line around all members are the outermost members
line_just : {m : ℕ} {R : List Range} {q : Range} → Around m R q → (r : Range) → In r R → just_inside R r q ≡ not (some (λ t. inside r t) R)
line_just {m} {R} {q} a r i =
    both_ways (just_inside R r q) (not (some (λ t. inside r t) R)) (λ e. out (just_facts R r q e))
    (λ e. just_holds (just (nowhere_facts (λ t. inside r t) R e)))
  where
    out : JustInside R r q → not (some (λ t. inside r t) R) ≡ true
    out j = nowhere_holds (λ t. inside r t) R (λ t k e. j.next t k (inside_facts r t e) (a.every t k))

    just : ((t : Range) → In t R → inside r t ≡ true → ⊥) → JustInside R r q
    just h = record { inner = a.every r i; next = λ t k rt tq. h t k (inside_holds rt) }

line_parts : {m : ℕ} {R : List Range} {q : Range} → Around m R q → parts R q ≡ outermost R
unfolding parts outermost
line_parts {m} {R} {q} a = those_same (λ r. just_inside R r q) (λ r. not (some (λ t. inside r t) R)) R (line_just a)

-- a peptide is in none of its parts exactly if it is in no member
line_outside : {m : ℕ} {R : List Range} {q : Range} → Laminar m R → Around m R q → (p : ℕ) → outside (parts R q) p ≡ outside R p
unfolding outside
line_outside {m} {R} {q} l a p =
    both_ways (outside (parts R q) p) (outside R p)
    (λ e. nowhere_holds (λ r. has r p) R (λ t i h. clash e (in_a_part l q t i (a.every t i) p h)))
    (λ e. nowhere_holds (λ r. has r p) (parts R q) (λ t i h. nowhere_facts (λ r. has r p) R e t (part_facts R q t i).member h))

-- The bound is the total of any line around all members.
pub bound_is : {m : ℕ} {R : List Range} {q : Range} → Laminar m R → Around m R q → (S : Peptides) → bound m R S ≡ total m R S q
unfolding bound
bound_is {m} {R} {q} l a S =
    let out : Peptides = λ p. outside (parts R q) p && S p in
    let free = card_same m out (λ p. outside R p && S p) (λ p b u. ap (λ c. c && S p) (line_outside l a p)) in
    omega (arith, total_is m R S q, ap (sum_over (value m R S)) (line_parts a), around_count a out)
