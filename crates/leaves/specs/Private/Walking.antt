-- What the private functions that walk along the leaf lengths ask of each other and promise.
use Rattle.std.specs.Prelude.{◌≡◌, ℕ, zero, suc, ◌+◌, ◌*◌, ◌<◌, ◌≤◌, ◌⊎◌, List, drop}
use Rattle.reader.specs.Bytes.{number_at}
use Rattle.reader.specs.Family.{Family, family_of, leaves, leaf_after}

-- n numbers in a row from an offset, added up
unfoldable pub added : List ℕ → ℕ → ℕ → ℕ
added s at zero = 0
added s at (suc n) = added s at n + number_at s (at + 2 * n)

-- r is the sum, or else both are 65,535 or more
pub record Capped (sum r : ℕ) : Type 0 where
  pub most : r ≤ sum
  pub exact : r < 65535 → r ≡ sum

-- what is to be found after leaf j with p left of the peptide's number is r
abbrev pub FoundAfter : Family → ℕ → ℕ → ℕ → Type 0
FoundAfter F j p r = r ≡ leaf_after j (drop j F.lengths) p

-- After leaf i, with q left, the same is to be found as after leaf j with p left; and it is to be found among the next n leaves
-- if there are so many.
pub record Walked (s : List ℕ) (n j p i q : ℕ) : Type 0 where
  pub same : leaf_after j (drop j (family_of s).lengths) p ≡ leaf_after i (drop i (family_of s).lengths) q
  pub here : i + n ≤ leaves (family_of s) → q ≤ added s (16 + 2 * i) n

-- Of the i leaves after leaf j, whose lengths add to `sum`, those are counted up to which they add to less than p: they all are, or
-- the leaf that is looked for comes after them.
abbrev pub CountedTo : Family → ℕ → ℕ → ℕ → ℕ → ℕ → Type 0
CountedTo F j p i sum count = (((sum < p) ⊎ (i ≡ 0)) × (count ≡ i)) ⊎ ((p ≤ sum) × (count < i) × FoundAfter F j p (j + count + 1))
