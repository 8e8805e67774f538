-- The Simes bound along a path, as taken slots: what the private functions of `slots` and `simes` promise each other.
use Rattle.std.specs.Prelude.{ℕ, ◌*◌, ◌<◌, ◌≤◌, min, Bool, true, false, not, ◌&&◌, List, ◌≡◌, length, get_or, take, eqb, leb, ltb}
use Rattle.bounds.specs.Ranges.{Peptides, card}
use Rattle.bounds.specs.Curves.{among, largest_up_to}
use Rattle.bounds.specs.Calls.{IsPath}
use Rattle.pvalues.specs.FromP.{million}
use Rattle.hybrid.specs.Hybrid.{counted_at, simes}

-- the last k up to m at which a peptide with p-value p is counted; it is counted at each k from 1 to this one, and at none from there to m
unfoldable pub last_counted : ℕ → ℕ → ℕ → ℕ
last_counted m level p = largest_up_to m (λ k. ltb (level * k) (p * m))

-- Slots 0 to 4,096. A slot is free if its own number stands in it.
unfoldable pub is_free : List ℕ → ℕ → Bool
is_free slots q = eqb (get_or slots q 0) q

-- In a slot that is taken stands the number of a lower one, and all slots above that one, up to this, are taken. So slot 0 is free.
pub record Slots (slots : List ℕ) : Type 0 where
  pub sized : length slots ≡ 4097
  pub falling : (q : ℕ) → get_or slots q 0 ≤ q
  pub between : (q r : ℕ) → q < 4097 → get_or slots q 0 < r → r ≤ q → is_free slots r ≡ false

-- the last free slot up to a number
pub record LastFree (slots : List ℕ) (last slot : ℕ) : Type 0 where
  pub most : slot ≤ last
  pub free : is_free slots slot ≡ true
  pub above : (q : ℕ) → slot < q → q ≤ last → is_free slots q ≡ false

-- the slot is found, and the same slots are free as before
pub record Searched (slots : List ℕ) (last : ℕ) (new : List ℕ) (slot : ℕ) : Type 0 where
  pub kept : Slots new
  pub same : (q : ℕ) → q < 4097 → is_free new q ≡ is_free slots q
  pub found : LastFree slots last slot

-- The last free slot up to a number, if it is not slot 0, is taken; got is true then.
pub record Taken (slots : List ℕ) (last : ℕ) (new : List ℕ) (got : Bool) : Type 0 where
  pub kept : Slots new
  pub slot : ℕ
  pub found : LastFree slots last slot
  pub others : (q : ℕ) → q < 4097 → (q ≡ slot → ⊥) → is_free new q ≡ is_free slots q
  pub taken : 0 < slot → is_free new slot ≡ false
  pub counted : got ≡ not (eqb slot 0)

-- how many of the slots from k to m are taken
unfoldable pub taken_from : ℕ → List ℕ → ℕ → ℕ
taken_from m slots k = card m (λ q. leb k q && not (is_free slots q))

-- how many of the selected peptides are counted at k
abbrev pub counted_of : ℕ → List ℕ → ℕ → Peptides → ℕ → ℕ
counted_of m ps level S k = card m (λ p. S p && counted_at m ps level k p)

-- Each peptide of S has been given the last slot that was free up to the last k at which it is counted, if there was one, and v have
-- got one. So from k on no more slots are taken than peptides are counted at k, and as many if k is free.
pub record Seated (m : ℕ) (ps : List ℕ) (level : ℕ) (S : Peptides) (slots : List ℕ) (v : ℕ) : Type 0 where
  pub kept : Slots slots
  pub number : v ≡ taken_from m slots 1
  pub most : (k : ℕ) → 0 < k → k ≤ m → taken_from m slots k ≤ counted_of m ps level S k
  pub equal : (k : ℕ) → 0 < k → k ≤ m → is_free slots k ≡ true → taken_from m slots k ≡ counted_of m ps level S k

-- a path, p-values and a level that are as they should be
pub record SimesInputs (m : ℕ) (path ps : List ℕ) (level : ℕ) : Type 0 where
  pub some : 0 < m
  pub few : m ≤ 4096
  pub is_path : IsPath m path
  pub values : length ps ≡ m
  pub most : (i : ℕ) → get_or ps i 0 ≤ million
  pub level_some : 0 < level

-- the smaller of a curve's value and of the Simes bound of the first t peptides
abbrev pub smaller_at : ℕ → List ℕ → ℕ → List ℕ → List ℕ → ℕ → ℕ
smaller_at m ps level path curve t = min (get_or curve t 0) (simes m ps level (among (take t path)))
