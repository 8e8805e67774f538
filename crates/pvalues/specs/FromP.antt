-- Bounds from p-values: the z of a region by its p-values, the family with these z, and the causes 20 to 22. p-values are whole
-- millionths.
use Rattle.std.specs.Prelude.{ℕ, ◌-◌, ◌*◌, ◌≤◌, Bool, true, not, ◌&&◌, ◌||◌, List, [], ◌∷◌, map, ◌≡◌, length, get_or, take, drop, eqb, leb, ltb}
use Rattle.reader.specs.Lists.{some_below}
use Rattle.reader.specs.Family.{Region, Family}
use Rattle.bounds.specs.Ranges.{In, range_of, those}
use Rattle.bounds.specs.Curves.{largest_up_to}

-- 1, in millionths
abbrev pub million : ℕ
million = 1000000

-- 1,000,000 less the threshold
unfoldable pub gap : ℕ → ℕ
gap threshold = million - threshold

-- how many of the p-values are over the threshold; one that is equal to it is not
unfoldable pub over : ℕ → List ℕ → ℕ
over threshold ps = length (those (λ p. ltb threshold p) ps)

-- The excess of v, at a threshold with this gap and so many p-values over it, is v times the gap, less 1,000,000 times that number.
-- Numbers here have no negatives: `no_excess` says that it is 0 or negative, and where it is not, `excess` is it.
unfoldable pub no_excess : ℕ → ℕ → ℕ → Bool
no_excess gap count v = leb (v * gap) (million * count)

unfoldable pub excess : ℕ → ℕ → ℕ → ℕ
excess gap count v = v * gap - million * count

-- v passes if the excess is 0 or negative, or if the square of the excess is at most the constant times v times 1,000,000.
-- The constant is the square of the deviation term of the source: by its (32) a region has at most v false peptides, at a risk of at
-- most λ, for the largest v with v (1 - t) <= N(t) + sqrt(v log(1/λ) / 2) at every t from 0 to under 1, where N(t) is how many of the
-- region's p-values are over t, and log is the natural logarithm. So `deviationSquared` is log(1/λ) / 2 in millionths, rounded up; its
-- root is what the source calls C, in (16), where λ is α / K for a risk of α over K regions.
unfoldable pub passes : ℕ → ℕ → ℕ → ℕ → Bool
passes deviationSquared gap count v =
    no_excess gap count v || leb (excess gap count v * excess gap count v) (deviationSquared * v * million)

-- v passes at a threshold, in a region with these p-values
unfoldable pub passes_at : ℕ → List ℕ → ℕ → ℕ → Bool
passes_at deviationSquared ps threshold v = passes deviationSquared (gap threshold) (over threshold ps) v

-- 0, and each p-value under 1,000,000
unfoldable pub thresholds : List ℕ → List ℕ
thresholds ps = 0 ∷ those (λ p. ltb p million) ps

-- every element passes the test
unfoldable pub every : (ℕ → Bool) → List ℕ → Bool
every t [] = true
every t (x ∷ xs) = t x && every t xs

-- the largest v from 0 to the number of p-values that passes at all thresholds
unfoldable pub z_of : ℕ → List ℕ → ℕ
z_of deviationSquared ps = largest_up_to (length ps) (λ v. every (λ t. passes_at deviationSquared ps t v) (thresholds ps))

-- z is the largest number from 0 to n that passes at all thresholds
pub record IsZ (deviationSquared : ℕ) (ps : List ℕ) (z : ℕ) : Type 0 where
  pub most : z ≤ length ps
  pub passes_all : (t : ℕ) → In t (thresholds ps) → passes_at deviationSquared ps t z ≡ true
  pub largest : (v : ℕ) → v ≤ length ps → ((t : ℕ) → In t (thresholds ps) → passes_at deviationSquared ps t v ≡ true) → v ≤ z

-- the p-values of a region's peptides; the first in the list is that of peptide 1
unfoldable pub region_p_values : Family → List ℕ → Region → List ℕ
region_p_values F ps r = take ((range_of F r).high - (range_of F r).low) (drop (range_of F r).low ps)

-- a region with its z from the p-values; its given z is not used
unfoldable pub bounded_region : Family → List ℕ → ℕ → Region → Region
bounded_region F ps deviationSquared r =
    record { first = r.first; last = r.last; z = z_of deviationSquared (region_p_values F ps r) }

-- the family with the given leaves and ranges, and the z from the p-values
unfoldable pub family_from_p : Family → List ℕ → ℕ → Family
family_from_p F ps deviationSquared =
    record { peptides = F.peptides; lengths = F.lengths; regions = map (bounded_region F ps deviationSquared) F.regions }

-- not m p-values
unfoldable pub cause20 : ℕ → List ℕ → Bool
cause20 m ps = not (eqb (length ps) m)

-- a p-value over 1,000,000
unfoldable pub cause21 : List ℕ → Bool
cause21 ps = some_below (length ps) (λ i. ltb million (get_or ps i 0))

-- the constant over 100,000,000
unfoldable pub cause22 : ℕ → Bool
cause22 deviationSquared = ltb 100000000 deviationSquared
