-- Every leaf end of the reduced list lies just before a range of the family, or is the end of one, or is m.
use Prim.Native.Nat.{ℕ, suc, ◌+◌, ◌-◌, ◌≤◌, ◌<◌}
use mathlib.Core.Bool.{true, false}
use mathlib.Core.List.{List}
use mathlib.Core.Logic.{◌⊎◌, inl, inr, ⊎_elim}
use mathlib.Core.Path.{◌≡◌}
use native.Mathlib.Nat.{eq-or-lt_of_le}
use native.Mathlib.Omega.{arith}
use Rattle.bounds.specs.Ranges.{Range, has, In}
use Rattle.bounds.proofs.Basics.Members.{clash, refuted, le_or_lt}
use Rattle.bounds.proofs.Basics.Nesting.{Has, has_facts, has_holds}
use Rattle.bounds.proofs.Theory.Laminar.{Laminar}
use Rattle.reduction.specs.Reduction.{live, reduced, ends_leaf}
use Rattle.reduction.proofs.Basics.Plain.{Plain}
use Rattle.reduction.proofs.Theory.Live.{Dead, dead_facts, dead_holds}
use Rattle.reduction.proofs.Theory.Stretches.{StretchOf}
use Rattle.reduction.proofs.Theory.Runs.{DeadRun}
use Rattle.reduction.proofs.Theory.RunOrStretch.{Kind, a_run, a_stretch, plain, kind}
use Rattle.reduction.proofs.Theory.ReadBack.{ends_facts}

-- p lies just before a range of the list, or is the end of one
pub record Edge (R : List Range) (p : ℕ) : Type 0 where
  pub range : Range
  pub member : In range R
  pub side : (p ≡ range.low) ⊎ (p ≡ range.high)

module _ {m : ℕ} {R : List Range} (l : Laminar m R) where
  -- Between a dead and a live peptide: the range with z = 0 that holds the one and not the other ends there, or begins there.

  holds_too : {p : ℕ} (q : ℕ) (d : Dead R p) → d.by.low < q → q ≤ d.by.high → live R q ≡ false
  holds_too q d a b = dead_holds (record { by = d.by; member = d.member; zero = d.zero; holds = has_holds (record { above = a; upto = b }) })

  dead_end : (p : ℕ) → live R p ≡ false → live R (p + 1) ≡ true → Edge R p
  dead_end p e f =
      let d = dead_facts R p e in
      let h = has_facts d.by p d.holds in
      ⊎_elim (λ t. record { range = d.by; member = d.member; side = inr t })
      (λ k. absurd (clash f (holds_too (p + 1) d (omega arith) (omega arith))))
      (eq-or-lt_of_le h.upto)

  dead_begin : (p : ℕ) → live R p ≡ true → live R (p + 1) ≡ false → Edge R p
  dead_begin p e f =
      let d = dead_facts R (p + 1) f in
      let h = has_facts d.by (p + 1) d.holds in
      ⊎_elim (λ t. absurd (clash e (holds_too p d t (omega arith)))) (λ t. record { range = d.by; member = d.member; side = inl (omega arith) })
      (le_or_lt (suc d.by.low) p)

  -- The ends of a run lie between a dead and a live peptide, or at m.

  run_low : {p b : ℕ} → 1 ≤ p → DeadRun m (live R) (p + 1) b → Edge R p
  run_low {p} h d =
      let back : p + 1 - 1 ≡ p = omega arith in
      ⊎_elim (λ e. absurd (omega arith)) (λ t. dead_begin p (rw back at t) (d.dead (p + 1) (omega arith) d.order)) d.left

  run_high : {a p : ℕ} → DeadRun m (live R) a p → (p ≡ m) ⊎ Edge R p
  run_high {p = p} d = ⊎_elim inl (λ t. inr (dead_end p (d.dead p d.order (omega arith)) t)) d.right

  -- The ends of a stretch are those of its range, or lie between a dead and a live peptide.

  stretch_low : {p b : ℕ} (r : Range) → 1 ≤ p → In r R → StretchOf m R (p + 1) b r → Edge R p
  stretch_low {p} r h i c = ⊎_elim (λ k. dead_end p (dead k) c.first_live) own (le_or_lt (suc r.low) p)
    where
      f : Has r (p + 1)
      f = has_facts r (p + 1) c.first_in

      own : p < suc r.low → Edge R p
      own k = record { range = r; member = i; side = inl (omega (arith, f.above)) }

      dead : r.low < p → live R p ≡ false
      dead k =
          let own : has r p ≡ true = has_holds (record { above = k; upto = omega (arith, f.upto) }) in
          refuted (live R p) (λ t. omega (arith, c.left p h (omega (arith, c.order, c.small)) own t))

  stretch_high : {a p : ℕ} (r : Range) → In r R → StretchOf m R a p r → Edge R p
  stretch_high {p = p} r i c = ⊎_elim own (λ k. dead_begin p c.last_live (dead k)) (eq-or-lt_of_le f.upto)
    where
      f : Has r p
      f = has_facts r p c.last_in

      own : p ≡ r.high → Edge R p
      own e = record { range = r; member = i; side = inr e }

      dead : p < r.high → live R (p + 1) ≡ false
      dead k =
          let own : has r (p + 1) ≡ true = has_holds (record { above = omega (arith, f.above); upto = omega arith }) in
          refuted (live R (p + 1)) (λ t. omega (arith, c.right (p + 1) (omega arith) (omega (arith, (l.proper r i).ends)) own t))

  range_edge : {x : Range} → Plain m x → Kind m R x → (p : ℕ) → 1 ≤ p → (p ≡ x.low) ⊎ (p ≡ x.high) → (p ≡ m) ⊎ Edge R p
  range_edge {x} w (a_run d z) p h (inl e) =
      let from : x.from ≡ p + 1 = omega arith in
      inr (run_low h (rw from at d))
  range_edge {x} w (a_run d z) p h (inr e) =
      let to : x.to ≡ p = omega arith in
      run_high (rw to at d)
  range_edge {x} w (a_stretch c) p h (inl e) =
      let from : x.from ≡ p + 1 = omega arith in
      inr (stretch_low c.range h c.member (rw from at c.stretch))
  range_edge {x} w (a_stretch c) p h (inr e) =
      let to : x.to ≡ p = omega arith in
      inr (stretch_high c.range c.member (rw to at c.stretch))

  pub cut_edge : (p : ℕ) → 1 ≤ p → ends_leaf m (reduced m R) p ≡ true → (p ≡ m) ⊎ Edge R p
  cut_edge p h e =
      ⊎_elim inl (λ c. range_edge (plain m R c.0 c.1) (kind m R c.0 c.1) p h c.2) (ends_facts m (reduced m R) p e)
