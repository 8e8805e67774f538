-- Stretches and the kept ones, in facts: over a list T of stretches and the set S of the peptides that are counted.
use Prim.Native.Nat.{ℕ, suc, ◌≤◌, ◌<◌}
use mathlib.Core.Bool.{true, ◌&&◌}
use mathlib.Core.List.{List}
use mathlib.Core.Path.{◌≡◌}
use native.Mathlib.Omega.{arith}
use lib.Dec.{leb, ltb}
use borrow.Author.Tests.{ltb-true, lt-ltb, leb-true, leb-false}
use Rattle.bounds.specs.Ranges.{Range, Peptides, has, inside, In}
use Rattle.bounds.specs.Bound.{total}
use Rattle.bounds.proofs.Basics.Members.{and_l, and_r, and_both, refuted, nowhere_facts, nowhere_holds}
use Rattle.bounds.proofs.Basics.Nesting.{has_facts, has_holds, Inside, inside_facts, inside_holds}
use Rattle.bounds.proofs.Theory.Laminar.{Laminar}
use Rattle.reduction.specs.Reduction.{room, is_kept}

-- A stretch: the peptides from..to, which are the key too; both ends are counted, and z is at least 1.
pub record Stretch (m : ℕ) (S : Peptides) (s : Range) : Type 0 where
  pub positive : 1 ≤ s.from
  pub order : s.from ≤ s.to
  pub small : s.to ≤ m
  pub low : suc s.low ≡ s.from
  pub high : s.high ≡ s.to
  pub bound : 1 ≤ s.z
  pub first : S s.from ≡ true
  pub last : S s.to ≡ true

pub stretch_has : {m : ℕ} {S : Peptides} {s : Range} → Stretch m S s → (p : ℕ) → s.from ≤ p → p ≤ s.to → has s p ≡ true
stretch_has w p l u = has_holds (record { above = omega arith; upto = omega arith })

pub has_stretch_lem : {m : ℕ} {S : Peptides} {s : Range} → Stretch m S s → (p : ℕ) → has s p ≡ true → (s.from ≤ p) × (p ≤ s.to)
has_stretch_lem {s = s} w p e = let h = has_facts s p e in omega arith

-- a list of stretches: nested or disjoint, none twice
pub record Stretches (m : ℕ) (S : Peptides) (T : List Range) : Type 0 where
  pub member : (s : Range) → In s T → Stretch m S s
  pub laminar : Laminar m T

-- s is kept
pub record Kept (m : ℕ) (T : List Range) (S : Peptides) (s : Range) : Type 0 where
  pub less : s.z < total m T S s
  pub larger : (t : Range) → In t T → Inside s t → s.z < t.z

module _ (m : ℕ) (T : List Range) (S : Peptides) (s : Range) where
  pub kept_facts : is_kept m T S s ≡ true → Kept m T S s
  unfolding is_kept room
  kept_facts e = record { less = ltb-true s.z (total m T S s) (and_l _ _ e); larger = larger }
    where
      larger : (t : Range) → In t T → Inside s t → s.z < t.z
      larger t i n =
          let none = nowhere_facts (λ t. inside s t && leb t.z s.z) T (and_r (ltb s.z (total m T S s)) _ e) t i in
          leb-false t.z s.z (refuted (leb t.z s.z) (λ l. none (and_both (inside s t) _ (inside_holds n) l)))

  pub kept_holds : Kept m T S s → is_kept m T S s ≡ true
  unfolding is_kept room
  kept_holds k =
      and_both (ltb s.z (total m T S s)) _ (lt-ltb s.z (total m T S s) k.less)
      (nowhere_holds (λ t. inside s t && leb t.z s.z) T (λ t i e. omega (arith, larger t i e, leb-true t.z s.z (and_r (inside s t) _ e))))
    where
      larger : (t : Range) → In t T → (inside s t && leb t.z s.z) ≡ true → s.z < t.z
      larger t i e = k.larger t i (inside_facts s t (and_l _ (leb t.z s.z) e))
