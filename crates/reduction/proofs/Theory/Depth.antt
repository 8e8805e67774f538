-- The reduced list is no deeper than the family: around one of its ranges there are no more of them
-- than there are ranges of the family around a range that hits it.
use Prim.Native.Nat.{ℕ, ◌≤◌}
use mathlib.Core.Bool.{true}
use mathlib.Core.List.{List}
use mathlib.Core.Logic.{⊎_elim}
use mathlib.Core.Path.{◌≡◌}
use native.Mathlib.Omega.{arith}
use Rattle.bounds.specs.Ranges.{Range, has, those, inside, In}
use Rattle.bounds.proofs.Basics.Members.{those_in, clash}
use Rattle.bounds.proofs.Basics.Nesting.{has_facts, has_holds, Inside, inside_facts, inside_holds}
use Rattle.bounds.proofs.Theory.Laminar.{Laminar, Fit, is_inside, is_around, is_before, is_after, fit}
use Rattle.reduction.specs.Reduction.{live, reduced}
use Rattle.reduction.proofs.Basics.Grid.{those_ordered}
use Rattle.reduction.proofs.Basics.Plain.{Plain}
use Rattle.reduction.proofs.Theory.Live.{dead_holds}
use Rattle.reduction.proofs.Theory.Stretches.{StretchOf, Source, wider}
use Rattle.reduction.proofs.Theory.Runs.{DeadRun, run_begin, run_end}
use Rattle.reduction.proofs.Theory.Reduced.{reduced_ordered}
use Rattle.reduction.proofs.Theory.RunOrStretch.{Kind, a_run, a_stretch, plain, kind, first}
use Rattle.reduction.proofs.Basics.Pigeonhole.{AllHit, HitOnce, how_many, length_those, pigeonhole}
use Rattle.reduction.proofs.Theory.Smallest.{Hit, by_stretch, by_start, hits, hits_facts, hit_found, hit_once}

module _ {m : ℕ} {R : List Range} where
  -- nothing of the reduced list is inside a run
  run_empty : {q t : Range} → Plain m q → Kind m R q → DeadRun m (live R) t.from t.to → Inside q t → ⊥
  run_empty {q} w (a_stretch c) d n = clash c.stretch.first_live (d.dead q.from n.left (omega arith))
  run_empty w (a_run e z) d n = omega (arith, run_begin e d (omega (arith, d.order)), run_end e d (omega (arith, d.order)))

  -- so what is around is a stretch
  around_stretch : {q t : Range} → Plain m q → Kind m R q → Kind m R t → Inside q t → Source m R t
  around_stretch w k (a_stretch c) n = c
  around_stretch w k (a_run d z) n = absurd (run_empty w k d n)

  -- Let r hit q, and let s have a stretch t around q. Then s does not lie in r,
  not_within : {q t r s : Range} → Inside q t → In r R → Hit m R q r → StretchOf m R t.from t.to s → r.low ≤ s.low → s.high ≤ r.high → ⊥
  not_within n i (by_stretch p) o u v = omega (arith, wider o p u v)
  not_within {q} {t} {r} {s} n i (by_start z h e) o u v =
      let f = has_facts s t.from o.first_in in
      let inner : has r t.from ≡ true = has_holds (record { above = omega arith; upto = omega arith }) in
      clash o.first_live (dead_holds (record { by = r; member = i; zero = z; holds = inner }))

  hit_has : {q r : Range} → Hit m R q r → has r q.from ≡ true
  hit_has (by_stretch p) = p.first_in
  hit_has (by_start z h e) = h

  -- and they share the first peptide of q, so s lies around r.
  hit_inside : {q t r s : Range} → Laminar m R → Plain m q → Inside q t → In r R → In s R → Hit m R q r → StretchOf m R t.from t.to s
      → Inside r s
  hit_inside {q} {t} {r} {s} l w n i j h o = ⊎_elim (λ e. absurd (not_within n i h o (rw e (omega arith)) (rw e (omega arith)))) go (fit l r s i j)
    where
      go : Fit r s → Inside r s
      go (is_inside k u v) = k
      go (is_around k u v) = absurd (not_within n i h o u v)
      go (is_before k u) = absurd (omega (arith, w.order, has_facts r q.from (hit_has h), has_facts s t.from o.first_in))
      go (is_after k u) = absurd (omega (arith, w.order, has_facts r q.from (hit_has h), has_facts s t.to o.last_in))

  -- a stretch is hit only by ranges with that stretch
  stretch_hit : {t s : Range} → In s R → Source m R t → Hit m R t s → StretchOf m R t.from t.to s
  stretch_hit i c (by_stretch p) = p
  stretch_hit {t} {s} i c (by_start z h e) = absurd (clash c.stretch.first_live (dead_holds (record { by = s; member = i; zero = z; holds = h })))

module _ (m : ℕ) (R : List Range) (l : Laminar m R) (q : Range) (i : In q (reduced m R)) where
  -- the ranges of the reduced list around q
  outer : List Range
  outer = those (inside q) (reduced m R)

  outer_facts : (x : Range) → In x outer → In x (reduced m R) × (inside q x ≡ true)
  unfolding outer
  outer_facts x j = those_in (inside q) (reduced m R) x j

  all_hit : AllHit (hits m R) outer R
  all_hit x j = let k = (outer_facts x j).0 in hit_found (plain m R x k) (kind m R x k)

  hit_one : HitOnce (hits m R) outer R
  hit_one x t j k b r u e f =
      let x-in = (outer_facts x j).0 in
      let t-in = (outer_facts t k).0 in
      let x-hit = hits_facts m R x r (first m R x x-in) e in
      let t-hit = hits_facts m R t r (first m R t t-in) f in
      hit_once (plain m R x x-in) (plain m R t t-in) (kind m R x x-in) (kind m R t t-in) b u x-hit t-hit

  -- what hits them is around what hits q
  hits_around : (r : Range) → In r R → Hit m R q r → (x : Range) → In x outer → (s : Range) → In s R → hits m R x s ≡ true → inside r s ≡ true
  hits_around r j h x k s u e =
      let f = outer_facts x k in
      let n = inside_facts q x f.1 in
      let c = around_stretch (plain m R q i) (kind m R q i) (kind m R x f.0) n in
      inside_holds (hit_inside l (plain m R q i) n j u h (stretch_hit u c (hits_facts m R x s (first m R x f.0) e)))

  pub reduced_depth : (r : Range) × In r R × (how_many (inside q) (reduced m R) ≤ how_many (inside r) R)
  unfolding outer
  reduced_depth =
      let f = hit_found (plain m R q i) (kind m R q i) in
      let r = f.it in
      let h = hits_facts m R q r (first m R q i) f.passes in
      let order = those_ordered (inside q) (reduced m R) (reduced_ordered m R) in
      let most = pigeonhole (hits m R) R outer (inside r) order all_hit hit_one (hits_around r f.member h) in
      (r, f.member, omega (arith, length_those (inside q) (reduced m R)))
