-- The reduced list is smallest: each of its ranges is hit by a range of the family, and no range hits two.
use Prim.Native.Nat.{ℕ, suc, ◌-◌, ◌≤◌, ◌<◌}
use mathlib.Core.Bool.{Bool, true, false, ◌&&◌, ◌||◌}
use mathlib.Core.List.{List}
use mathlib.Core.Logic.{⊎_elim}
use mathlib.Core.Path.{◌≡◌, refl}
use native.Mathlib.Nat.{eq-or-lt_of_le}
use native.Mathlib.Omega.{arith}
use lib.Dec.{eqb}
use lib.ListN.{length}
use borrow.Author.Tests.{eqb-true, eq-eqb}
use Rattle.bounds.specs.Ranges.{Range, has, In}
use Rattle.bounds.proofs.Basics.Members.{Found, clash, and_l, and_r, and_both, or_l, or_r, or_either, sum_ones}
use Rattle.bounds.proofs.Basics.Nesting.{Has, has_facts, has_holds}
use Rattle.reduction.specs.Reduction.{live, has_stretch, reduced}
use Rattle.reduction.proofs.Basics.Grid.{Precedes, before_same}
use Rattle.reduction.proofs.Basics.Plain.{Plain}
use Rattle.reduction.proofs.Theory.Live.{Dead, dead_facts, dead_holds}
use Rattle.reduction.proofs.Theory.Stretches.{StretchOf, stretch_facts, stretch_holds, wider}
use Rattle.reduction.proofs.Theory.Runs.{DeadRun, run_end}
use Rattle.reduction.proofs.Theory.Reduced.{reduced_ordered}
use Rattle.reduction.proofs.Theory.RunOrStretch.{Kind, a_run, a_stretch, plain, kind, first}
use Rattle.reduction.proofs.Basics.Pigeonhole.{AllHit, HitOnce, pigeonhole}

-- The range r hits x: it has the stretch x, or its z is 0 and it begins where x begins.

pub data Hit (m : ℕ) (R : List Range) (x r : Range) : Type 0 where
  by_stretch : StretchOf m R x.from x.to r → Hit m R x r
  by_start : r.z ≡ 0 → has r x.from ≡ true → r.low ≡ x.low → Hit m R x r

starts : Range → Range → Bool
starts x r = eqb r.z 0 && (has r x.from && eqb r.low x.low)

pub hits : ℕ → List Range → Range → Range → Bool
hits m R x r = has_stretch m R x.from x.to r || starts x r

module _ (m : ℕ) (R : List Range) (x r : Range) where
  by_start_lem : starts x r ≡ true → Hit m R x r
  unfolding starts
  by_start_lem e =
      let rest = and_r (eqb r.z 0) (has r x.from && eqb r.low x.low) e in
      by_start (eqb-true r.z 0 (and_l _ (has r x.from && eqb r.low x.low) e)) (and_l (has r x.from) _ rest)
      (eqb-true r.low x.low (and_r (has r x.from) _ rest))

  pub hits_facts : 1 ≤ x.from → hits m R x r ≡ true → Hit m R x r
  unfolding hits
  hits_facts h e = ⊎_elim (λ t. by_stretch (stretch_facts m R r x.from x.to h t)) by_start_lem (or_either (has_stretch m R x.from x.to r) _ e)

  pub hits_holds : Hit m R x r → hits m R x r ≡ true
  unfolding hits starts
  hits_holds (by_stretch s) = or_l _ _ (stretch_holds m R r s)
  hits_holds (by_start z h l) =
      or_r (has_stretch m R x.from x.to r) _
      (and_both (eqb r.z 0) _ (eq-eqb r.z 0 z) (and_both (has r x.from) _ h (eq-eqb r.low x.low l)))

module _ {m : ℕ} {R : List Range} where
  -- a range with z = 0 that holds the begin of a run begins there: had it begun earlier, the peptide before the run would be dead
  run_start : {x : Range} → Plain m x → DeadRun m (live R) x.from x.to → (d : Dead R x.from) → d.by.low ≡ x.low
  run_start {x} w e d =
      ⊎_elim (λ f. omega arith) (λ l. absurd (⊎_elim (λ f. omega arith) (λ t. clash t (earlier l)) e.left)) (eq-or-lt_of_le h.above)
    where
      h : Has d.by x.from
      h = has_facts d.by x.from d.holds

      earlier : suc d.by.low < x.from → live R (x.from - 1) ≡ false
      earlier l =
          let holds : has d.by (x.from - 1) ≡ true = has_holds (record { above = omega arith; upto = omega (arith, h.upto) }) in
          dead_holds (record { by = d.by; member = d.member; zero = d.zero; holds = holds })

  -- every range of the reduced list is hit
  pub hit_found : {x : Range} → Plain m x → Kind m R x → Found (hits m R x) R
  hit_found {x} w (a_stretch c) = record { it = c.range; member = c.member; passes = hits_holds m R x c.range (by_stretch c.stretch) }
  hit_found {x} w (a_run e z) =
      let d = dead_facts R x.from (e.dead x.from (omega arith) e.order) in
      record { it = d.by; member = d.member; passes = hits_holds m R x d.by (by_start d.zero d.holds (run_start w e d)) }

  -- a range of the reduced list that begins dead is a run
  begins_dead : {x : Range} → Kind m R x → live R x.from ≡ false → DeadRun m (live R) x.from x.to
  begins_dead (a_run d z) e = d
  begins_dead (a_stretch c) e = absurd (clash c.stretch.first_live e)

  -- no range hits two: it has one stretch, and one run begins where it begins
  pub hit_once : {x t r : Range} → Plain m x → Plain m t → Kind m R x → Kind m R t → Precedes x t → In r R → Hit m R x r → Hit m R t r → ⊥
  hit_once {x} {t} v w k l b i (by_stretch p) (by_stretch q) =
      let f = wider p q (omega arith) (omega arith) in
      let g = wider q p (omega arith) (omega arith) in
      omega (arith, before_same x t b (omega arith))
  hit_once v w k l b i (by_stretch p) (by_start z h e) = omega (arith, p.bound)
  hit_once v w k l b i (by_start z h e) (by_stretch q) = omega (arith, q.bound)
  hit_once {x} {t} {r} v w k l b i (by_start z h e) (by_start y g f) =
      let c = begins_dead k (dead_holds (record { by = r; member = i; zero = z; holds = h })) in
      let d = begins_dead l (dead_holds (record { by = r; member = i; zero = y; holds = g })) in
      omega (arith, before_same x t b (omega arith), run_end d c (omega (arith, d.order)))

-- No more ranges than the family has.
pub reduced_count : (m : ℕ) (R : List Range) → length (reduced m R) ≤ length R
reduced_count m R = omega (arith, sum_ones R, pigeonhole (hits m R) R (reduced m R) (λ r. true) (reduced_ordered m R) all_hit hit_one (λ x i r j e. refl))
  where
    all_hit : AllHit (hits m R) (reduced m R) R
    all_hit x i = hit_found (plain m R x i) (kind m R x i)

    hit_one : HitOnce (hits m R) (reduced m R) R
    hit_one x t i j b r k e f =
        let x-hit = hits_facts m R x r (first m R x i) e in
        let t-hit = hits_facts m R t r (first m R t j) f in
        hit_once (plain m R x i) (plain m R t j) (kind m R x i) (kind m R t j) b k x-hit t-hit
