-- The stretches of a laminar list: laminar themselves, and allowing the same sets of live peptides as the ranges.
use Prim.Native.Nat.{ℕ, ◌≤◌, ◌<◌}
use mathlib.Core.Bool.{true}
use mathlib.Core.List.{List}
use mathlib.Core.Logic.{⊎_elim}
use mathlib.Core.Path.{◌≡◌}
use native.Mathlib.Nat.{eq-zero-or-pos}
use native.Mathlib.Omega.{arith}
use Rattle.bounds.specs.Ranges.{Range, Peptides, has, count, In}
use Rattle.bounds.proofs.Basics.Counting.{Subset}
use Rattle.bounds.proofs.Basics.Nesting.{has_facts, has_holds}
use Rattle.bounds.proofs.Theory.Laminar.{Laminar, Fit, is_inside, is_around, is_before, is_after, fit}
use Rattle.bounds.proofs.Theory.Greedy.{Respects}
use Rattle.reduction.specs.Reduction.{live, live_peptides, first_of, last_of, stretches}
use Rattle.reduction.proofs.Basics.Counts.{count_zero, count_wider}
use Rattle.reduction.proofs.Basics.FirstLast.{first_of_member, first_of_at_most}
use Rattle.reduction.proofs.Basics.Plain.{Nest, apart, apart', within, around, Tidy, tidy_laminar}
use Rattle.reduction.proofs.Theory.Kept.{Stretches}
use Rattle.reduction.proofs.Theory.Live.{live_facts}
use Rattle.reduction.proofs.Theory.Stretches.{StretchOf, InStretches, live_in, in_live, its_stretch, wider, Source, stretch_in, stretches_facts, stretches_holds, stretches_ordered}

-- Two stretches are nested or disjoint, as their ranges are.
pub stretches_nest : {m : ℕ} {R : List Range} {s t : Range} → Laminar m R → Source m R s → Source m R t → Nest s t
stretches_nest {s = s} {t = t} l c d = ⊎_elim same differ (fit l c.range d.range c.member d.member)
  where
    same : c.range ≡ d.range → Nest s t
    same e = let w = wider c.stretch d.stretch (rw e (omega arith)) (rw e (omega arith)) in within w.0 w.1

    differ : Fit c.range d.range → Nest s t
    differ (is_inside n u v) = let w = wider c.stretch d.stretch u v in within w.0 w.1
    differ (is_around n u v) = let w = wider d.stretch c.stretch u v in around w.0 w.1
    differ (is_before n u) =
        apart (omega (arith, has_facts c.range s.to c.stretch.last_in, has_facts d.range t.from d.stretch.first_in))
    differ (is_after n u) =
        apart' (omega (arith, has_facts d.range t.to d.stretch.last_in, has_facts c.range s.from c.stretch.first_in))

stretches_tidy : {m : ℕ} {R : List Range} → Laminar m R → Tidy m (stretches m R)
stretches_tidy {m} {R} l =
    record {
      ordered = stretches_ordered m R;
      plain = λ s i. let c = stretches_facts m R s i in record { order = c.stretch.order; small = c.stretch.small; low = c.low; high = c.high };
      nest = λ s t i j. stretches_nest l (stretches_facts m R s i) (stretches_facts m R t j);
    }

-- The stretches of a laminar list are a list of stretches, over the live peptides.
pub stretches_good : {m : ℕ} {R : List Range} → Laminar m R → Stretches m (live R) (stretches m R)
stretches_good {m} {R} l =
    record {
      member = λ s i.
          let c = stretches_facts m R s i in
          let t = c.stretch in
          record {
            positive = t.positive;
            order = t.order;
            small = t.small;
            low = c.low;
            high = c.high;
            bound = omega (arith, t.bound, c.level);
            first = t.first_live;
            last = t.last_live;
          };
      laminar = tidy_laminar (stretches_tidy l);
    }

-- The ranges and their stretches allow the same sets of live peptides: a stretch has only peptides of its range,
pub ranges_stretches : (m : ℕ) (R : List Range) (A : Peptides) → Respects m R A → Respects m (stretches m R) A
ranges_stretches m R A h s i =
    let c = stretches_facts m R s i in
    omega (arith, h c.range c.member, c.level, count_wider m A s c.range (λ p l u k e. stretch_in c p k))

-- and it has all its live ones: a set of live peptides respects a range if it respects the stretch of that range.
pub range_fits : (m : ℕ) (R : List Range) (A : Peptides) → Subset m A (live R) → (r : Range) → In r R
    → ((s : Range) → In s (stretches m R) → StretchOf m R s.from s.to r → count m A s ≤ s.z) → count m A r ≤ r.z
range_fits m R A sub r i fits = ⊎_elim none_live some_live (eq-zero-or-pos (first_of m X))
  where
    X : Peptides
    X = live_peptides R r

    none_live : first_of m X ≡ 0 → count m A r ≤ r.z
    none_live e = omega (arith, count_zero m A r (λ p l u k a. omega (arith, first_of_at_most m X p l u (in_live m R r p k (sub p l u a)))))

    some_live : 0 < first_of m X → count m A r ≤ r.z
    some_live k = omega (arith, fits s c.member (rw (c.from, c.to) t), c.smaller, count_wider m A r s all)
      where
        first : (has r (first_of m X) ≡ true) × (live R (first_of m X) ≡ true)
        first = live_in m R r (first_of m X) (first_of_member m X k)

        t : StretchOf m R (first_of m X) (last_of m X) r
        t = its_stretch m R r (live_facts R (first_of m X) first.1 r i first.0) k

        c : InStretches m R (first_of m X) (last_of m X) r
        c = stretches_holds m R i t

        s : Range
        s = c.it

        all : (p : ℕ) → 0 < p → p ≤ m → has r p ≡ true → A p ≡ true → has s p ≡ true
        all p l u e a =
            let d = stretches_facts m R s c.member in
            let left = t.left p l u e (sub p l u a) in
            let right = t.right p l u e (sub p l u a) in
            has_holds (record { above = omega (arith, d.low, c.from); upto = omega (arith, d.high, c.to) })

pub stretches_ranges : (m : ℕ) (R : List Range) (A : Peptides) → Subset m A (live R) → Respects m (stretches m R) A → Respects m R A
stretches_ranges m R A sub h r i = range_fits m R A sub r i (λ s j t. h s j)
