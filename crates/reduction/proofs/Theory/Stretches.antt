-- The stretches of a list of ranges: the stretch of one range in facts, and where a stretch of the list comes from.
--   StretchOf                      a..b is the stretch of r: its z is at least 1, and a and b are its first and its last live peptide
--   live_in, in_live               a live peptide of r is a peptide of r and live, and the way back
--   its_stretch                    a range with a live peptide and z at least 1 has a stretch, from the first to the last of these peptides
--   stretch_facts, stretch_holds   the test `has_stretch`, read as StretchOf if a is at least 1, and the way back
--   wider                          a larger range has the live peptides of a smaller one, and so its stretch, or one around that
--   Source                         where a stretch comes from: a range with that stretch and that z; none with that stretch has a smaller z
--   stretch_in                     a stretch has only peptides of its range
--   at_piece                       what stands in the cell of a and b has a..b for its key and its peptides
--   at_single                      a cell is in file order: it has one range at most
--   stretches_facts                every stretch of the list has a source
--   stretches_ordered              the list of the stretches is in file order
--   InStretches, stretches_holds   a range with a stretch has it in the list, with a z no larger
use Prim.Native.Nat.{ℕ, suc, ◌-◌, ◌≤◌}
use mathlib.Core.Bool.{true, ◌&&◌}
use mathlib.Core.List.{List, [], ◌∷◌}
use mathlib.Core.Logic.{inl, inr, ⊎_elim}
use mathlib.Core.Path.{◌≡◌, refl, sym, ◌∙◌, ap}
use native.Mathlib.Omega.{arith}
use lib.Dec.{ltb, eqb}
use borrow.Author.Tests.{ltb-true, lt-ltb, eqb-true, eq-eqb}
use Rattle.bounds.specs.Ranges.{Range, Peptides, has, those, In}
use Rattle.bounds.proofs.Basics.Members.{in_those, those_in, and_l, and_r, and_both, le_or_lt}
use Rattle.bounds.proofs.Basics.Nesting.{has_facts, has_holds}
use Rattle.reduction.specs.Reduction.{piece, live, live_peptides, first_of, last_of, has_stretch, smallest_z, merged, stretch_at, stretches}
use Rattle.reduction.proofs.Basics.Grid.{in_grid, grid_in, FileOrder, grid_ordered}
use Rattle.reduction.proofs.Basics.FirstLast.{first_of_small, first_of_member, first_of_at_most, first_of_is, last_of_small, last_of_member, last_of_at_least, last_of_is}

pub record StretchOf (m : ℕ) (R : List Range) (a b : ℕ) (r : Range) : Type 0 where
  pub bound : 1 ≤ r.z
  pub positive : 1 ≤ a
  pub order : a ≤ b
  pub small : b ≤ m
  pub first_in : has r a ≡ true
  pub first_live : live R a ≡ true
  pub last_in : has r b ≡ true
  pub last_live : live R b ≡ true
  pub left : (p : ℕ) → 1 ≤ p → p ≤ m → has r p ≡ true → live R p ≡ true → a ≤ p
  pub right : (p : ℕ) → 1 ≤ p → p ≤ m → has r p ≡ true → live R p ≡ true → p ≤ b

module _ (m : ℕ) (R : List Range) (r : Range) where
  abbrev X : Peptides
  X = live_peptides R r

  pub live_in : (p : ℕ) → live_peptides R r p ≡ true → (has r p ≡ true) × (live R p ≡ true)
  unfolding live_peptides
  live_in p e = (and_l (has r p) (live R p) e, and_r (has r p) (live R p) e)

  pub in_live : (p : ℕ) → has r p ≡ true → live R p ≡ true → live_peptides R r p ≡ true
  unfolding live_peptides
  in_live p h e = and_both (has r p) (live R p) h e

  pub its_stretch : 1 ≤ r.z → 1 ≤ first_of m (live_peptides R r) → StretchOf m R (first_of m (live_peptides R r)) (last_of m (live_peptides R r)) r
  its_stretch z h =
      let k : first_of m X ≤ last_of m X = last_of_at_least m X (first_of m X) h (first_of_small m X) (first_of_member m X h) in
      let f = live_in (first_of m X) (first_of_member m X h) in
      let g = live_in (last_of m X) (last_of_member m X (omega arith)) in
      record {
        bound = z;
        positive = h;
        order = k;
        small = last_of_small m X;
        first_in = f.0;
        first_live = f.1;
        last_in = g.0;
        last_live = g.1;
        left = λ p l u i e. (first_of_at_most m X p l u (in_live p i e)).1;
        right = λ p l u i e. last_of_at_least m X p l u (in_live p i e);
      }

  pub stretch_facts : (a b : ℕ) → 1 ≤ a → has_stretch m R a b r ≡ true → StretchOf m R a b r
  unfolding has_stretch
  stretch_facts a b h e =
      let front : (ltb 0 r.z && eqb (first_of m X) a) ≡ true = and_l _ (eqb (last_of m X) b) e in
      let z : 1 ≤ r.z = ltb-true 0 r.z (and_l _ (eqb (first_of m X) a) front) in
      let f : first_of m X ≡ a = eqb-true (first_of m X) a (and_r (ltb 0 r.z) _ front) in
      let g : last_of m X ≡ b = eqb-true (last_of m X) b (and_r (ltb 0 r.z && eqb (first_of m X) a) _ e) in
      rw (f, g) at (its_stretch z (omega arith))

  pub stretch_holds : {a b : ℕ} → StretchOf m R a b r → has_stretch m R a b r ≡ true
  unfolding has_stretch
  stretch_holds {a} {b} s =
      let left : (p : ℕ) → 1 ≤ p → p ≤ m → X p ≡ true → a ≤ p = λ p l u e. s.left p l u (live_in p e).0 (live_in p e).1 in
      let right : (p : ℕ) → 1 ≤ p → p ≤ m → X p ≡ true → p ≤ b = λ p l u e. s.right p l u (live_in p e).0 (live_in p e).1 in
      let f = first_of_is m X a s.positive (omega arith) (in_live a s.first_in s.first_live) left in
      let g = last_of_is m X b (omega arith) s.small (in_live b s.last_in s.last_live) right in
      and_both _ _ (and_both _ _ (lt-ltb 0 r.z s.bound) (eq-eqb (first_of m X) a f)) (eq-eqb (last_of m X) b g)

pub wider : {m : ℕ} {R : List Range} {a b c d : ℕ} {r q : Range} → StretchOf m R a b r → StretchOf m R c d q → q.low ≤ r.low → r.high ≤ q.high
    → (c ≤ a) × (b ≤ d)
wider {a = a} {b = b} {r = r} {q = q} s t l h =
    let f = has_facts r a s.first_in in
    let g = has_facts r b s.last_in in
    let first : has q a ≡ true = has_holds (record { above = omega arith; upto = omega arith }) in
    let last : has q b ≡ true = has_holds (record { above = omega arith; upto = omega arith }) in
    (t.left a s.positive (omega arith) first s.first_live, t.right b (omega arith) s.small last s.last_live)

-- The smallest z of some ranges: no larger than any of them, and the z of one.

smallest_start : (z : ℕ) (L : List Range) → smallest_z z L ≤ z
unfolding smallest_z
smallest_start z [] = omega arith
smallest_start z (r ∷ L) = omega (arith, smallest_start z L)

smallest_all : (z : ℕ) (L : List Range) (r : Range) → In r L → smallest_z z L ≤ r.z
unfolding smallest_z
smallest_all z [] r x' = elim x' [ ]
smallest_all z (x ∷ L) r (inl e) = rw e (omega arith)
smallest_all z (x ∷ L) r (inr i) = omega (arith, smallest_all z L r i)

smallest_one : (x : Range) (L : List Range) → (r : Range) × In r (x ∷ L) × (r.z ≡ smallest_z x.z L)
unfolding smallest_z
smallest_one x [] = (x, inl refl, refl)
smallest_one x (y ∷ L) =
    let (r, i, e) = smallest_one x L in
    ⊎_elim (λ h. (y, inr (inl refl), omega arith)) (λ h. (r, ⊎_elim inl (λ j. inr (inr j)) i, omega arith)) (le_or_lt y.z (smallest_z x.z L))

-- the one stretch of the ranges L
record Merged (a b : ℕ) (L : List Range) (s : Range) : Type 0 where
  one : Range
  member : In one L
  level : one.z ≡ s.z
  least : (r : Range) → In r L → s.z ≤ r.z
  is : s ≡ piece a b s.z

merged_facts : (a b : ℕ) (L : List Range) (s : Range) → In s (merged a b L) → Merged a b L s
unfolding merged
merged_facts a b [] s i = absurd i
merged_facts a b (x ∷ L) s (inr i) = absurd i
merged_facts a b (x ∷ L) s (inl e) =
    let (r, i, d) = smallest_one x L in
    let z : s.z ≡ smallest_z x.z L = ap (λ (t : Range). t.z) e in
    record {
      one = r;
      member = i;
      level = omega arith;
      least = λ t j. ⊎_elim (λ d. rw d (omega (arith, smallest_start x.z L))) (λ k. omega (arith, smallest_all x.z L t k)) j;
      is = e ∙ ap (piece a b) (sym z);
    }

merged_holds : (a b : ℕ) (L : List Range) (r : Range) → In r L → (s : Range) × In s (merged a b L)
unfolding merged
merged_holds a b [] r i = elim i [ ]
merged_holds a b (x ∷ L) r i = (piece a b (smallest_z x.z L), inl refl)

merged_single : (a b : ℕ) (L : List Range) → FileOrder (merged a b L)
unfolding merged
merged_single a b [] = tt
merged_single a b (x ∷ L) = (λ y i. absurd i, tt)

pub record Source (m : ℕ) (R : List Range) (s : Range) : Type 0 where
  pub range : Range
  pub member : In range R
  pub stretch : StretchOf m R s.from s.to range
  pub level : range.z ≡ s.z
  pub least : (r : Range) → In r R → StretchOf m R s.from s.to r → s.z ≤ r.z
  pub low : suc s.low ≡ s.from
  pub high : s.high ≡ s.to

pub stretch_in : {m : ℕ} {R : List Range} {s : Range} (c : Source m R s) (p : ℕ) → has s p ≡ true → has c.range p ≡ true
stretch_in {s = s} c p e =
    let d = has_facts s p e in
    let f = has_facts c.range s.from c.stretch.first_in in
    let g = has_facts c.range s.to c.stretch.last_in in
    has_holds (record { above = omega (arith, c.low); upto = omega (arith, c.high) })

module _ (m : ℕ) (R : List Range) where
  its_source : (a b : ℕ) → 1 ≤ a → (s : Range) → Merged a b (those (has_stretch m R a b) R) s → Source m R s
  its_source a b h s g =
      let f = those_in (has_stretch m R a b) R g.one g.member in
      let from : s.from ≡ a = ap (λ (t : Range). t.from) g.is in
      let to : s.to ≡ b = ap (λ (t : Range). t.to) g.is in
      let low : s.low ≡ a - 1 = ap (λ (t : Range). t.low) g.is in
      let high : s.high ≡ b = ap (λ (t : Range). t.high) g.is in
      record {
        range = g.one;
        member = f.0;
        stretch = rw (from, to) (stretch_facts m R g.one a b h f.1);
        level = g.level;
        least = λ r j c. g.least r (in_those (has_stretch m R a b) R r j (stretch_holds m R r (rw (from, to) at c)));
        low = omega arith;
        high = omega arith;
      }

  -- one cell
  at_source : (a b : ℕ) → 1 ≤ a → (s : Range) → In s (stretch_at m R a b) → Source m R s
  unfolding stretch_at
  at_source a b h s i = its_source a b h s (merged_facts a b (those (has_stretch m R a b) R) s i)

  pub at_piece : (a b : ℕ) (s : Range) → In s (stretch_at m R a b) → s ≡ piece a b s.z
  unfolding stretch_at
  at_piece a b s i = (merged_facts a b (those (has_stretch m R a b) R) s i).is

  pub at_single : (a b : ℕ) → FileOrder (stretch_at m R a b)
  unfolding stretch_at
  at_single a b = merged_single a b (those (has_stretch m R a b) R)

  -- the list of stretches
  pub stretches_facts : (s : Range) → In s (stretches m R) → Source m R s
  unfolding stretches
  stretches_facts s i = let c = in_grid m (stretch_at m R) s i in at_source c.a c.b c.positive s c.member

  pub stretches_ordered : FileOrder (stretches m R)
  unfolding stretches
  stretches_ordered =
      grid_ordered m (stretch_at m R)
      (record {
        single = at_single;
        from = λ a b s i. ap (λ (t : Range). t.from) (at_piece a b s i);
        to = λ a b s i. ap (λ (t : Range). t.to) (at_piece a b s i);
      })

  pub record InStretches (a b : ℕ) (r : Range) : Type 0 where
    pub it : Range
    pub member : In it (stretches m R)
    pub from : it.from ≡ a
    pub to : it.to ≡ b
    pub smaller : it.z ≤ r.z

  pub stretches_holds : {a b : ℕ} {r : Range} → In r R → StretchOf m R a b r → InStretches a b r
  unfolding stretches stretch_at
  stretches_holds {a} {b} {r} i c =
      let L = those (has_stretch m R a b) R in
      let j : In r L = in_those (has_stretch m R a b) R r i (stretch_holds m R r c) in
      let (s, k) = merged_holds a b L r j in
      let g = merged_facts a b L s k in
      record {
        it = s;
        member = grid_in m (stretch_at m R) s a b c.positive c.order c.small k;
        from = ap (λ (t : Range). t.from) g.is;
        to = ap (λ (t : Range). t.to) g.is;
        smaller = g.least r j;
      }
