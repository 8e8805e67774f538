-- The room of a stretch: in the words of step 3, and as the inside total of the innermost range with that stretch, with the live peptides
-- selected.
use Prim.Native.Nat.{ℕ, ◌+◌, ◌≤◌, ◌<◌, min}
use mathlib.Core.Bool.{true, ◌&&◌}
use mathlib.Core.List.{List}
use mathlib.Core.Logic.{⊎_elim}
use mathlib.Core.Path.{◌≡◌, refl}
use native.Mathlib.Omega.{arith}
use Rattle.bounds.specs.Ranges.{Range, Peptides, has, In, sum_over, parts, count, outside}
use Rattle.bounds.specs.Bound.{total, value}
use Rattle.bounds.proofs.Basics.Members.{clash}
use Rattle.bounds.proofs.Basics.Counting.{Subset, none, count_none}
use Rattle.bounds.proofs.Basics.Nesting.{has_facts, has_holds, Inside, inner_facts}
use Rattle.bounds.proofs.Theory.Laminar.{Laminar, Fit, is_inside, is_around, is_before, is_after, fit, member_hosts}
use Rattle.bounds.proofs.Theory.Totals.{total_is}
use Rattle.bounds.proofs.Theory.Formula.{at_most_lem}
use Rattle.reduction.specs.Reduction.{live, stretches, room}
use Rattle.reduction.proofs.Basics.Counts.{count_wider, count_all}
use Rattle.reduction.proofs.Theory.Grown.{RespectsIn, grow}
use Rattle.reduction.proofs.Basics.Unless.{lt_unless}
use Rattle.reduction.proofs.Theory.Stretches.{StretchOf, wider, Source, stretch_in, stretches_facts}
use Rattle.reduction.proofs.Theory.SameSets.{stretches_good, range_fits}

-- the sum, over the stretches just inside it, of the smaller of z and room, plus its live peptides in none of these
pub room_sum : (m : ℕ) (T : List Range) (L : Peptides) (s : Range)
    → room m T L s ≡ sum_over (λ t. min t.z (room m T L t)) (parts T s) + count m (λ p. outside (parts T s) p && L p) s
unfolding room value
room_sum m T L s = total_is m T L s

module _ {m : ℕ} {R : List Range} (l : Laminar m R) (s : Range) (i : In s (stretches m R)) (r : Range) (j : In r R)
    (t : StretchOf m R s.from s.to r) where
  abbrev T : List Range
  T = stretches m R

  abbrev S : Peptides
  S = live R

  c : Source m R s
  c = stretches_facts m R s i

  -- The live peptides of r are those of s.

  stretch_range : (p : ℕ) → has s p ≡ true → has r p ≡ true
  stretch_range p e =
      let d = has_facts s p e in
      let f = has_facts r s.from t.first_in in
      let g = has_facts r s.to t.last_in in
      has_holds (record { above = omega (arith, c.low); upto = omega (arith, c.high) })

  live_stretch : (p : ℕ) → 0 < p → p ≤ m → has r p ≡ true → live R p ≡ true → has s p ≡ true
  live_stretch p a b e f =
      let left = t.left p a b e f in
      let right = t.right p a b e f in
      has_holds (record { above = omega (arith, c.low); upto = omega (arith, c.high) })

  -- A stretch inside s comes from a range inside r,
  source_inside : (u : Range) → (d : Source m R u) → Inside u s → Inside d.range r
  source_inside u d n = ⊎_elim same differ (fit l d.range r d.member j)
    where
      same : d.range ≡ r → Inside d.range r
      same e = absurd (omega (arith, wider t d.stretch (rw e (omega arith)) (rw e (omega arith))))

      differ : Fit d.range r → Inside d.range r
      differ (is_inside k a b) = k
      differ (is_around k a b) = absurd (omega (arith, wider t d.stretch a b))
      differ (is_before k a) = absurd (omega (arith, has_facts d.range u.from d.stretch.first_in, has_facts r s.from t.first_in))
      differ (is_after k a) = absurd (omega (arith, has_facts d.range u.from d.stretch.first_in, has_facts r s.to t.last_in))

  -- so a set that respects the ranges inside r respects the stretches inside s.
  respects_stretches : (G : Peptides) → RespectsIn m R r G → RespectsIn m T s G
  respects_stretches G h u k n =
      let d = stretches_facts m R u k in
      omega (arith, h d.range d.member (source_inside u d n), d.level, count_wider m G u d.range (λ p a b e f. stretch_in d p e))

  total_room : total m R S r ≤ total m T S s
  total_room =
      let g = grow l S r j none (λ p a b e. absurd (clash e refl)) (λ q k n. omega (arith, count_none m q)) in
      let G = g.set in
      let most = at_most_lem m T S G s (λ u k. let f = inner_facts T s u k in respects_stretches G g.respects u f.0 f.1) in
      omega (arith, g.reaches, count_wider m G r s (λ p a b e f. live_stretch p a b e (g.counted p a b f)), count_all m G S s g.counted)

  -- r is the innermost range with its stretch.
  module _ (innermost : (q : Range) → In q R → Inside q r → StretchOf m R s.from s.to q → ⊥) where
    -- The stretch u of a range q inside r is inside s,
    stretch_inside : (q u : Range) → In q R → Inside q r → StretchOf m R u.from u.to q → Inside u s
    stretch_inside q u k n d = record { left = left; right = right; less = lt_unless (s.from + u.to) (u.from + s.to) long }
      where
        inner : (p : ℕ) → has q p ≡ true → has r p ≡ true
        inner = member_hosts l r j q k n

        left : s.from ≤ u.from
        left = t.left u.from d.positive (omega (arith, d.order, d.small)) (inner u.from d.first_in) d.first_live

        right : u.to ≤ s.to
        right = t.right u.to (omega (arith, d.positive, d.order)) d.small (inner u.to d.last_in) d.last_live

        long : u.from + s.to ≤ s.from + u.to → ⊥
        long h =
            let from : u.from ≡ s.from = omega (arith, left, right) in
            let to : u.to ≡ s.to = omega (arith, left, right) in
            innermost q k n (rw (from, to) at d)

    -- so a set of live peptides that respects the stretches inside s respects the ranges inside r.
    respects_ranges : (G : Peptides) → Subset m G S → RespectsIn m T s G → RespectsIn m R r G
    respects_ranges G sub h q k n = range_fits m R G sub q k (λ u v d. h u v (stretch_inside q u k n d))

    room_total : total m T S s ≤ total m R S r
    room_total =
        let g = grow (stretches_good l).laminar S s i none (λ p a b e. absurd (clash e refl)) (λ q k n. omega (arith, count_none m q)) in
        let G = g.set in
        let fits = respects_ranges G g.counted g.respects in
        let most = at_most_lem m R S G r (λ q k. let f = inner_facts R r q k in fits q f.0 f.1) in
        omega (arith, g.reaches, count_wider m G s r (λ p a b e f. stretch_range p e), count_all m G S r g.counted)

    -- The room of s is the inside total of r.
    pub room_is : room m (stretches m R) (live R) s ≡ total m R (live R) r
    unfolding room
    room_is = omega (arith, room_total, total_room)
