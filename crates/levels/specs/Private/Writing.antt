-- What the private functions that write files promise each other.
use Rattle.std.specs.Prelude.{ℕ, suc, ◌+◌, ◌*◌, ◌<◌, List, [], ◌∷◌, ◌≡◌, length, get_or, take}
use Rattle.reader.specs.Lists.{tabulate, sum}
use Rattle.reader.specs.Bytes.{number_at}
use Rattle.reader.specs.Family.{Region}
use Rattle.sorting.specs.ByKey.{by_key, key_in}

-- the six numbers of a header, with the leaf lengths from that byte on
unfoldable pub header_numbers : ℕ → ℕ → ℕ → ℕ → List ℕ
header_numbers m n k start = m ∷ n ∷ k ∷ start ∷ (start + 2 * n) ∷ (start + 2 * n + 6 * k) ∷ []

-- n numbers in a row, from that byte on
unfoldable pub numbers_from : List ℕ → ℕ → ℕ → List ℕ
numbers_from s at n = tabulate n (λ j. number_at s (at + 2 * j))

-- the k-th of the regions that begin at that byte
unfoldable pub region_from : List ℕ → ℕ → ℕ → Region
region_from s at k = record { first = number_at s (at + 6 * k); last = number_at s (at + 6 * k + 2); z = number_at s (at + 6 * k + 4) }

-- the list has, at the number of each level, how many regions there are of the levels before it; at 0 it has 0
pub record LevelsBegin (counts starts : List ℕ) : Type 0 where
  pub long : length starts ≡ 65
  pub first : get_or starts 0 0 ≡ 0
  pub sums : (h : ℕ) → h < 64 → get_or starts (suc h) 0 ≡ sum (take h counts)

-- the regions with these levels, by rising level, those of one level as they stand
abbrev pub order_by_level : List ℕ → List ℕ
order_by_level levels = by_key 65 (key_in levels) (tabulate (length levels) (λ k. k))

-- at the number of each level where its regions begin among those by level
pub record Begun (levels starts : List ℕ) : Type 0 where
  pub long : length starts ≡ 65
  pub begun : (v : ℕ) → v < 65 → get_or starts v 0 ≡ length (by_key v (key_in levels) (tabulate (length levels) (λ k. k)))
