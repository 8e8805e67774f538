-- Dead and live peptides: an admissible set has no dead peptide, and a live peptide alone is admissible.
use Prim.Native.Nat.{ℕ, ◌≤◌, ◌<◌}
use mathlib.Core.Bool.{true, false, not, ◌&&◌}
use mathlib.Core.List.{List}
use mathlib.Core.Logic.{⊎_elim}
use mathlib.Core.Path.{◌≡◌, ap}
use native.Mathlib.Nat.{eq-zero-or-pos}
use native.Mathlib.Omega.{arith}
use lib.Dec.{eqb}
use borrow.Author.Tests.{eqb-true, eq-eqb, not-false}
use Rattle.reader.proofs.Bools.{passes}
use Rattle.bounds.specs.Ranges.{Range, Peptides, has, count, In}
use Rattle.bounds.proofs.Basics.Members.{some_in, some_found, test, clash, and_l, and_r, and_both, both_ways}
use Rattle.bounds.proofs.Basics.Counting.{Subset, SameSet, none, adding, adding_it, count_none, count_adding_most, count_adding_other}
use Rattle.bounds.proofs.Theory.Greedy.{Respects}
use Rattle.reduction.specs.Reduction.{dead, live}
use Rattle.reduction.proofs.Basics.Counts.{count_one}

-- p is dead: a range with z = 0 holds it
pub record Dead (R : List Range) (p : ℕ) : Type 0 where
  pub by : Range
  pub member : In by R
  pub zero : by.z ≡ 0
  pub holds : has by p ≡ true

pub dead_facts : (R : List Range) (p : ℕ) → live R p ≡ false → Dead R p
unfolding live dead
dead_facts R p e =
    let f = some_found (λ r. eqb r.z 0 && has r p) R (not-false _ e) in
    let r = f.it in
    record { by = r; member = f.member; zero = eqb-true r.z 0 (and_l _ _ f.passes); holds = and_r (eqb r.z 0) _ f.passes }

pub dead_holds : {R : List Range} {p : ℕ} → Dead R p → live R p ≡ false
unfolding live dead
dead_holds {R} {p} d =
    let r = d.by in
    ap not (some_in (λ r. eqb r.z 0 && has r p) R r d.member (and_both (eqb r.z 0) (has r p) (eq-eqb r.z 0 d.zero) d.holds))

-- p is live: every range that holds it has z at least 1
abbrev pub Live : List Range → ℕ → Type 0
Live R p = (r : Range) → In r R → has r p ≡ true → 1 ≤ r.z

pub live_facts : (R : List Range) (p : ℕ) → live R p ≡ true → Live R p
live_facts R p e r i h =
    ⊎_elim (λ z. absurd (clash e (dead_holds (record { by = r; member = i; zero = z; holds = h })))) (λ k. k) (eq-zero-or-pos r.z)

pub live_holds : (R : List Range) (p : ℕ) → Live R p → live R p ≡ true
live_holds R p h = passes (live R p) (λ e. no (dead_facts R p e))
  where
    no : Dead R p → ⊥
    no d = omega (arith, h d.by d.member d.holds, d.zero)

-- An admissible set has no dead peptide.
pub admissible_live : (m : ℕ) (R : List Range) (A : Peptides) → Respects m R A → Subset m A (live R)
admissible_live m R A h p l u e = live_holds R p (λ r i k. omega (arith, h r i, count_one m A r p l u k e))

-- A peptide is live exactly if it alone is admissible.
pub live_alone : (m : ℕ) (R : List Range) (p : ℕ) → live R p ≡ true → Respects m R (adding p none)
live_alone m R p e r i = ⊎_elim holds misses (test (has r p))
  where
    holds : has r p ≡ true → count m (adding p none) r ≤ r.z
    holds h = omega (arith, live_facts R p e r i h, count_none m r, count_adding_most m p none r)

    misses : has r p ≡ false → count m (adding p none) r ≤ r.z
    misses h = omega (arith, count_none m r, count_adding_other m p none r h)

pub alone_live : (m : ℕ) (R : List Range) (p : ℕ) → 0 < p → p ≤ m → Respects m R (adding p none) → live R p ≡ true
alone_live m R p l u h = admissible_live m R (adding p none) h p l u (adding_it p none)

-- Two lists of ranges with the same admissible sets,
pub record SameAdmissible (m : ℕ) (Q R : List Range) : Type 0 where
  pub there : (A : Peptides) → Respects m Q A → Respects m R A
  pub back : (A : Peptides) → Respects m R A → Respects m Q A

pub same_swap : {m : ℕ} {Q R : List Range} → SameAdmissible m Q R → SameAdmissible m R Q
same_swap s = record { there = s.back; back = s.there }

-- have the same live peptides.
pub same_live : {m : ℕ} {Q R : List Range} → SameAdmissible m Q R → SameSet m (live Q) (live R)
same_live {m} {Q} {R} s p l u = both_ways (live Q p) (live R p) there back
  where
    there : live Q p ≡ true → live R p ≡ true
    there e = alone_live m R p l u (s.there (adding p none) (live_alone m Q p e))

    back : live R p ≡ true → live Q p ≡ true
    back e = alone_live m Q p l u (s.back (adding p none) (live_alone m R p e))
