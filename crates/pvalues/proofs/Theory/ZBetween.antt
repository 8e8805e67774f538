-- How the z of two lists of p-values, and of regions one inside the other, lie to each other.
--   z_over              where no fewer p-values are over each threshold, z is no smaller
--   z_enough            each number up to n passes that is at most the constant, in whole units
--   region_no_smaller   the z of a region is no smaller than that of one whose peptides it has, with p-values that are no larger
--   within_has          a region has the peptides of a region whose leaves are its own
use Prim.Native.Nat.{ℕ, zero, suc, ◌-◌, ◌*◌, ◌<◌, ◌≤◌}
use mathlib.Core.Bool.{Bool, true, ◌&&◌}
use mathlib.Core.List.{List}
use mathlib.Core.Path.{◌≡◌, refl, ◌∙◌}
use native.Mathlib.Nat.{mul-le-mul, mul-le-mul_left, mul-le-mul_right}
use native.Mathlib.Omega.{arith}
use lib.ListN.{length}
use lib.Dec.{leb, ltb}
use borrow.Author.Tests.{le-leb, leb-true, ltb-true, lt-ltb}
use Rattle.reader.specs.Lists.{count_below}
use Rattle.reader.specs.Family.{Family, region_count, region}
use Rattle.reader.specs.Nesting.{region_within}
use Rattle.reader.specs.WellFormed.{WellFormed}
use Rattle.reader.proofs.Walk.{up_to_mono}
use Rattle.sorting.proofs.Those.{those_all}
use Rattle.bounds.specs.Ranges.{those, range_of, range_at}
use Rattle.bounds.proofs.Basics.Members.{and_l, and_r, and_both, bit_mono}
use Rattle.bounds.proofs.Basics.Nesting.{has_facts, has_holds}
use Rattle.pvalues.specs.FromP.{million, gap, over, excess, passes, passes_at, z_of, region_p_values}
use Rattle.pvalues.specs.Private.Ordering.{p_value}
use Rattle.pvalues.specs.Private.Lowering.{has_at, z_at}
use Rattle.pvalues.proofs.Theory.Passing.{passes_is, passes_over}
use Rattle.pvalues.proofs.Theory.ZLaws.{z_is, z_most, passes_everywhere}
use Rattle.pvalues.proofs.Theory.LoweredIsZ.{region_counted}

pub z_over : (C : ℕ) (ps qs : List ℕ) → length ps ≤ length qs → ((t : ℕ) → over t ps ≤ over t qs) → z_of C ps ≤ z_of C qs
unfolding passes_at
z_over C ps qs few more =
    (z_is C qs).largest (z_of C ps) (omega (arith, z_most C ps))
    (λ t i. passes_over C (gap t) (over t ps) (z_of C ps) (over t qs) (more t) (passes_everywhere C ps t))

passes_enough : (C g c v : ℕ) → g ≤ million → v * million ≤ C → passes C g c v ≡ true
unfolding excess
passes_enough C g c v small h =
    let most : excess g c v ≤ v * million = omega (arith, mul-le-mul_left v small) in
    passes_is C g c v ∙ le-leb (excess g c v * excess g c v) (C * v * million) (omega (arith, mul-le-mul most most, mul-le-mul_right (v * million) h))

pub z_enough : (C : ℕ) (ps : List ℕ) (v : ℕ) → v ≤ length ps → v * million ≤ C → v ≤ z_of C ps
unfolding passes_at gap
z_enough C ps v few h = (z_is C ps).largest v few (λ t i. passes_enough C (gap t) (over t ps) v (omega arith) h)

count_mono : (n : ℕ) (p q : ℕ → Bool) → ((i : ℕ) → p i ≡ true → q i ≡ true) → count_below n p ≤ count_below n q
unfolding count_below
count_mono zero p q h = omega arith
count_mono (suc n) p q h = omega (arith, count_mono n p q h, bit_mono (p n) (q n) (h n))

pub within_has : {F : Family} → WellFormed F → (j k : ℕ) → j < region_count F → region_within (region F j) (region F k) ≡ true → (i : ℕ) → has_at F j i ≡ true → has_at F k i ≡ true
unfolding region_within range_of
within_has {F} w j k l inside i h =
    let f = has_facts (range_at F j) (suc i) h in
    let first = leb-true (region F k).first (region F j).first (and_l (leb (region F k).first (region F j).first) (leb (region F j).last (region F k).last) inside) in
    let last = leb-true (region F j).last (region F k).last (and_r (leb (region F k).first (region F j).first) (leb (region F j).last (region F k).last) inside) in
    has_holds
    (record {
      above = omega (arith, f.above, up_to_mono F ((region F k).first - 1) ((region F j).first - 1) (omega arith));
      upto = omega (arith, f.upto, up_to_mono F (region F j).last (region F k).last last);
    })

module _ {F : Family} (w : WellFormed F) (ps qs : List ℕ) (fewer : length ps ≡ F.peptides) (more : length qs ≡ F.peptides) (raised : (i : ℕ) → p_value ps i ≤ p_value qs i)
    (j k : ℕ) (l : j < region_count F) (u : k < region_count F) (inside : (i : ℕ) → has_at F j i ≡ true → has_at F k i ≡ true) where
  -- a test that a larger number passes too
  counted : (f : ℕ → Bool) → ((x y : ℕ) → x ≤ y → f x ≡ true → f y ≡ true) → length (those f (region_p_values F ps (region F j))) ≤ length (those f (region_p_values F qs (region F k)))
  counted f up =
      let same : length ps ≡ length qs = omega arith in
      omega (
        arith,
        rw same at (region_counted w ps fewer j l f),
        region_counted w qs more k u f,
        count_mono (length qs) (λ i. has_at F j i && f (p_value ps i)) (λ i. has_at F k i && f (p_value qs i))
            (λ i h. and_both (has_at F k i) (f (p_value qs i)) (inside i (and_l (has_at F j i) (f (p_value ps i)) h)) (up (p_value ps i) (p_value qs i) (raised i) (and_r (has_at F j i) (f (p_value ps i)) h))),
      )

  pub region_no_smaller : (C : ℕ) → z_at F ps C j ≤ z_at F qs C k
  unfolding over
  region_no_smaller C =
      z_over C (region_p_values F ps (region F j)) (region_p_values F qs (region F k))
      (rw (those_all (λ p. true) (region_p_values F ps (region F j)) (λ p i. refl), those_all (λ p. true) (region_p_values F qs (region F k)) (λ p i. refl)) at (counted (λ p. true) (λ x y l e. refl)))
      (λ t. counted (λ p. ltb t p) (λ x y l e. lt-ltb t y (omega (arith, ltb-true t x e))))
