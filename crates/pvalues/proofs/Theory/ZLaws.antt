-- The z of a region's p-values.
--   every_at            where every element passes, each member does
--   every_holds         where each member passes, every element does
--   z_is                z is the largest number up to n that passes at all thresholds
--   z_unique            no other number is
--   z_most              it is at most the number of p-values
--   z_empty             without p-values it is 0
--   z_mono              a larger constant gives no smaller z
--   everywhere          what passes at 0 and at each p-value passes at every threshold
--   passes_everywhere   z passes at every threshold
use Prim.Native.Nat.{ℕ, ◌≤◌, ◌<◌}
use mathlib.Core.Bool.{Bool, true}
use mathlib.Core.List.{List, [], ◌∷◌}
use mathlib.Core.Logic.{inl, inr, ⊎_elim}
use mathlib.Core.Path.{◌≡◌, refl, sym, ap, subst}
use native.Mathlib.Omega.{arith}
use lib.ListN.{length}
use lib.Dec.{eqb, ltb}
use borrow.Author.Tests.{eqb-true, eq-eqb, lt-ltb, le-ltb}
use Rattle.bounds.specs.Ranges.{In, some}
use Rattle.bounds.specs.Curves.{largest_up_to}
use Rattle.bounds.proofs.Basics.Members.{le_or_lt, and_l, and_r, and_both, some_in, some_found, in_those, those_same}
use Rattle.bounds.proofs.Theory.CutTheorem.{largest_most, largest_passes, largest_is}
use Rattle.pvalues.specs.FromP.{million, gap, over, passes, passes_at, thresholds, every, z_of, IsZ}
use Rattle.pvalues.proofs.Theory.Passing.{passes_zero, passes_top, passes_gap, passes_constant}

pub every_at : (p : ℕ → Bool) (L : List ℕ) → every p L ≡ true → (x : ℕ) → In x L → p x ≡ true
unfolding every
every_at p [] h x x4 = elim x4 [ ]
every_at p (y ∷ L) h x (inl e) = rw e (and_l (p y) (every p L) h)
every_at p (y ∷ L) h x (inr i) = every_at p L (and_r (p y) (every p L) h) x i

pub every_holds : (p : ℕ → Bool) (L : List ℕ) → ((x : ℕ) → In x L → p x ≡ true) → every p L ≡ true
unfolding every
every_holds p [] h = refl
every_holds p (y ∷ L) h = and_both (p y) (every p L) (h y (inl refl)) (every_holds p L (λ x i. h x (inr i)))

module _ (C : ℕ) (ps : List ℕ) where
  -- v passes at all thresholds
  abbrev all_pass : ℕ → Bool
  all_pass v = every (λ t. passes_at C ps t v) (thresholds ps)

  pub z_is : IsZ C ps (z_of C ps)
  unfolding z_of passes_at
  z_is =
      record {
        most = largest_most (length ps) all_pass;
        passes_all =
            every_at (λ t. passes_at C ps t (z_of C ps)) (thresholds ps)
            (largest_passes (length ps) all_pass (every_holds (λ t. passes_at C ps t 0) (thresholds ps) (λ t i. passes_zero C (gap t) (over t ps))));
        largest = λ v l h. largest_is (length ps) all_pass v l (every_holds (λ t. passes_at C ps t v) (thresholds ps) h);
      }

  pub z_unique : (z : ℕ) → IsZ C ps z → z ≡ z_of C ps
  z_unique z h = omega (arith, h.largest (z_of C ps) z_is.most z_is.passes_all, z_is.largest z h.most h.passes_all)

  pub z_most : z_of C ps ≤ length ps
  z_most = z_is.most

  -- At a threshold t under 1,000,000 as many p-values are over it as over the largest listed threshold up to t, and there the gap is no
  -- smaller.
  pub everywhere : (v : ℕ) → ((t : ℕ) → In t (thresholds ps) → passes_at C ps t v ≡ true) → (t : ℕ) → passes_at C ps t v ≡ true
  unfolding passes_at gap over thresholds
  everywhere v h t = ⊎_elim (passes_top C (over t ps) v t) below (le_or_lt million t)
    where
      listed : ℕ → Bool
      listed s = some (λ q. eqb s q) (thresholds ps)

      s : ℕ
      s = largest_up_to t listed

      is_listed : (x : ℕ) → In x (thresholds ps) → listed x ≡ true
      is_listed x i = some_in (λ q. eqb x q) (thresholds ps) x i (eq-eqb x x refl)

      in_thresholds : In s (thresholds ps)
      in_thresholds =
          let f = some_found (λ q. eqb s q) (thresholds ps) (largest_passes t listed (is_listed 0 (inl refl))) in
          subst (λ (x : ℕ). In x (thresholds ps)) (sym (eqb-true s f.it f.passes)) f.member

      same : t < million → over s ps ≡ over t ps
      same l = ap length (those_same (λ p. ltb s p) (λ p. ltb t p) ps alike)
        where
          alike : (x : ℕ) → In x ps → ltb s x ≡ ltb t x
          alike x i =
              ⊎_elim
              (λ few.
              rw (le-ltb t x few, le-ltb s x (largest_is t listed x few (is_listed x (inr (in_those (λ p. ltb p million) ps x i (lt-ltb x million (omega arith))))))))
              (λ more. rw (lt-ltb t x more, lt-ltb s x (omega (arith, largest_most t listed))))
              (le_or_lt x t)

      below : t < million → passes C (gap t) (over t ps) v ≡ true
      below l = rw (same l) at (passes_gap C (gap s) (over s ps) v (gap t) (omega (arith, largest_most t listed)) (h s in_thresholds))

  pub passes_everywhere : (t : ℕ) → passes_at C ps t (z_of C ps) ≡ true
  passes_everywhere = everywhere (z_of C ps) z_is.passes_all

pub z_mono : (C D : ℕ) (ps : List ℕ) → C ≤ D → z_of C ps ≤ z_of D ps
unfolding passes_at
z_mono C D ps h =
    (z_is D ps).largest (z_of C ps) (z_most C ps) (λ t i. passes_constant C (gap t) (over t ps) (z_of C ps) D h ((z_is C ps).passes_all t i))

pub z_empty : (C : ℕ) → z_of C [] ≡ 0
unfolding z_of largest_up_to
z_empty C = refl
