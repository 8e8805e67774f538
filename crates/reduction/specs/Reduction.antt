-- The reduction of a family, in four steps: dead and live peptides, the stretches, the kept ones, and what is written.
-- Over the number of peptides m and the family's ranges R.
-- Every list goes by first peptide rising; at equal first peptide, by last peptide falling.
use Rattle.std.specs.Prelude.{ℕ, zero, suc, ◌+◌, ◌-◌, min, Bool, not, cond, ◌&&◌, ◌||◌, List, [], ◌∷◌, ◌++◌, map, leb, ltb, eqb}
use Rattle.reader.specs.Family.{Region, Family, family_of, file_of}
use Rattle.bounds.specs.Ranges.{Range, Peptides, ranges_of, has, card, count, some, those, inside}
use Rattle.bounds.specs.Bound.{total}

-- Lists over the numbers 1 to n.

-- f 1, then f 2, .., then f n
unfoldable pub rising : {A : Type 0} → ℕ → (ℕ → List A) → List A
rising zero f = []
rising (suc n) f = rising n f ++ f (suc n)

-- f n, then f (n - 1), .., then f 1
unfoldable pub falling : {A : Type 0} → ℕ → (ℕ → List A) → List A
falling zero f = []
falling (suc n) f = f (suc n) ++ falling n f

-- f a b for all a ≤ b of 1 to m, a rising, and for each a, b falling
unfoldable pub grid : ℕ → (ℕ → ℕ → List Range) → List Range
grid m f = rising m (λ a. falling m (λ b. cond (leb a b) (f a b) []))

-- the first, and the last, of the numbers 1 to n in the set; 0 if there is none
unfoldable pub first_of : ℕ → Peptides → ℕ
first_of zero X = 0
first_of (suc n) X =
    let f : ℕ = first_of n X in
    cond (eqb f 0) (cond (X (suc n)) (suc n) 0) f

unfoldable pub last_of : ℕ → Peptides → ℕ
last_of zero X = 0
last_of (suc n) X = cond (X (suc n)) (suc n) (last_of n X)

-- the peptides a to b, which are the key too
abbrev pub piece : ℕ → ℕ → ℕ → Range
piece a b z = record { from = a; to = b; low = a - 1; high = b; z = z }

-- 1. A peptide is dead if a region with z = 0 holds it, else live.

unfoldable pub dead : List Range → Peptides
dead R p = some (λ r. eqb r.z 0 && has r p) R

unfoldable pub live : List Range → Peptides
live R p = not (dead R p)

-- 2. Each region with z ≥ 1 and a live peptide becomes the stretch from its first to its last live peptide.
-- Stretches that coincide become one, with the smallest z.

unfoldable pub live_peptides : List Range → Range → Peptides
live_peptides R r p = has r p && live R p

-- a..b, with 1 ≤ a, is the stretch of r
unfoldable pub has_stretch : ℕ → List Range → ℕ → ℕ → Range → Bool
has_stretch m R a b r = ltb 0 r.z && eqb (first_of m (live_peptides R r)) a && eqb (last_of m (live_peptides R r)) b

-- the smallest of z and the z of the ranges
unfoldable pub smallest_z : ℕ → List Range → ℕ
smallest_z z [] = z
smallest_z z (r ∷ rs) = min r.z (smallest_z z rs)

-- one stretch a..b, with the smallest z, for all the ranges whose stretch it is; none if there is no such range
unfoldable pub merged : ℕ → ℕ → List Range → List Range
merged a b [] = []
merged a b (r ∷ rs) = piece a b (smallest_z r.z rs) ∷ []

unfoldable pub stretch_at : ℕ → List Range → ℕ → ℕ → List Range
stretch_at m R a b = merged a b (those (has_stretch m R a b) R)

unfoldable pub stretches : ℕ → List Range → List Range
stretches m R = grid m (stretch_at m R)

-- 3. The room of a stretch is the sum, over the stretches just inside it, of the smaller of z and room,
-- plus its live peptides in none of these. That is the inside total of the stretch, with the live peptides selected.
-- A stretch is kept exactly when its z is less than its room and every stretch around it has a larger z.
-- T is the list of the stretches, L the set of the live peptides.

unfoldable pub room : ℕ → List Range → Peptides → Range → ℕ
room m T L s = total m T L s

unfoldable pub is_kept : ℕ → List Range → Peptides → Range → Bool
is_kept m T L s = ltb s.z (room m T L s) && not (some (λ t. inside s t && leb t.z s.z) T)

-- 4. The reduced family has the kept stretches, and a region with z = 0 for each longest run of neighbouring dead peptides.

-- a..b has no live peptide, and the peptide before it and the one after it are live, if there are such
unfoldable pub is_dead_run : ℕ → List Range → ℕ → ℕ → Bool
is_dead_run m R a b =
    eqb (count m (live R) (piece a b 0)) 0 && (eqb a 1 || live R (a - 1)) && (eqb b m || live R (b + 1))

-- the run a..b or the kept stretch a..b, if it is one of these
unfoldable pub reduced_at : ℕ → List Range → List Range → ℕ → ℕ → List Range
reduced_at m R T a b = cond (is_dead_run m R a b) (piece a b 0 ∷ []) (those (is_kept m T (live R)) (stretch_at m R a b))

unfoldable pub reduced : ℕ → List Range → List Range
reduced m R = grid m (reduced_at m R (stretches m R))

-- A leaf ends just before each region's first peptide and at each region's last one, and at m; nowhere else.
-- This is asked of the peptides 1 to m, so before peptide 1 no leaf ends. Q is the list of the reduced ranges.
unfoldable pub ends_leaf : ℕ → List Range → Peptides
ends_leaf m Q p = eqb p m || some (λ q. eqb p q.low || eqb p q.high) Q

-- the leaf that ends at p begins just after the last leaf end before p
unfoldable pub leaf_lengths : ℕ → Peptides → List ℕ
leaf_lengths m ends = rising m (λ p. cond (ends p) ((p - last_of (p - 1) ends) ∷ []) [])

-- the leaf numbers of a range: its first leaf comes after the leaves that end up to its low end, its last leaf ends at its high end
unfoldable pub region_of : Peptides → Range → Region
region_of ends q = record { first = card q.low ends + 1; last = card q.high ends; z = q.z }

unfoldable pub written_family : ℕ → List Range → Family
written_family m Q =
    record { peptides = m; lengths = leaf_lengths m (ends_leaf m Q); regions = map (region_of (ends_leaf m Q)) Q }

unfoldable pub reduced_family : Family → Family
reduced_family F = written_family F.peptides (reduced F.peptides (ranges_of F))

unfoldable pub reduced_file : List ℕ → List ℕ
reduced_file s = file_of (reduced_family (family_of s))
