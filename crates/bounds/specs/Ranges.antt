-- Ranges of peptides, how they lie to each other, and how many peptides of a set they hold.
use Rattle.std.specs.Prelude.{ℕ, zero, suc, ◌+◌, ◌-◌, Bool, false, not, cond, ◌&&◌, ◌||◌, List, [], ◌∷◌, map, leb, ltb}
use Rattle.reader.specs.Family.{Region, Family, region, peptides_up_to}
pub use Rattle.reader.specs.Lists.{In}
unfoldable pub use Rattle.reader.specs.Lists.{those}

-- The peptides low + 1 to high, with the bound z. How it lies to another range is judged on its key, from and to:
-- of a region its leaf numbers, so that a leaf without a peptide is no special case.
pub record Range : Type 0 where
  pub from : ℕ
  pub to : ℕ
  pub low : ℕ
  pub high : ℕ
  pub z : ℕ

unfoldable pub range_of : Family → Region → Range
range_of F r =
    record { from = r.first; to = r.last; low = peptides_up_to F (r.first - 1); high = peptides_up_to F r.last; z = r.z }

-- the range of the k-th region, counted from 0
abbrev pub range_at : Family → ℕ → Range
range_at F k = range_of F (region F k)

-- the ranges of a family's regions, in file order
unfoldable pub ranges_of : Family → List Range
ranges_of F = map (range_of F) F.regions

-- Sets of peptides are tests on their numbers.
abbrev pub Peptides : Type 0
Peptides = ℕ → Bool

unfoldable pub has : Range → Peptides
has r p = ltb r.low p && leb p r.high

-- how many of the peptides 1 to m are in the set
unfoldable pub card : ℕ → Peptides → ℕ
card zero X = 0
card (suc m) X = card m X + cond (X (suc m)) 1 0

-- how many of the peptides of r are in the set
unfoldable pub count : ℕ → Peptides → Range → ℕ
count m X r = card m (λ p. has r p && X p)

-- some element passes the test
unfoldable pub some : {A : Type 0} → (A → Bool) → List A → Bool
some t [] = false
some t (x ∷ xs) = t x || some t xs

unfoldable pub sum_over : {A : Type 0} → (A → ℕ) → List A → ℕ
sum_over f [] = 0
sum_over f (x ∷ xs) = f x + sum_over f xs

-- every place of r's key is one of q's
unfoldable pub within : Range → Range → Bool
within r q = leb q.from r.from && leb r.to q.to

-- r is strictly inside q, and q around r
unfoldable pub inside : Range → Range → Bool
inside r q = within r q && not (within q r)

-- r is strictly inside q, with none of the ranges between them
unfoldable pub just_inside : List Range → Range → Range → Bool
just_inside R r q = inside r q && not (some (λ t. inside r t && inside t q) R)

-- the ranges just inside q
unfoldable pub parts : List Range → Range → List Range
parts R q = those (λ r. just_inside R r q) R

-- the ranges with none around them
unfoldable pub outermost : List Range → List Range
outermost R = those (λ r. not (some (λ q. inside r q) R)) R

-- the peptides in none of the ranges
unfoldable pub outside : List Range → Peptides
outside R p = not (some (λ r. has r p) R)
