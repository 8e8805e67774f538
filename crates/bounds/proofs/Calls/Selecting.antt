-- Cause 14: what it says of the bytes of a selection.
use Prim.Native.Nat.{ℕ, ◌+◌, ◌<◌}
use mathlib.Core.Bool.{Bool, true, false, not, ◌||◌}
use mathlib.Core.List.{List}
use mathlib.Core.Path.{◌≡◌, ◌∙◌}
use native.Mathlib.Numerals.{add-one}
use lib.ListN.{length, get_or}
use lib.Dec.{eqb, ltb}
use borrow.Author.Tests.{eq-eqb, ne_eqb, eqb-true, not-false}
use Rattle.reader.specs.Lists.{some_below}
use Rattle.reader.proofs.Bools.{or_fails_l, or_fails_r}
use Rattle.reader.proofs.Below.{none_at}
use Rattle.bounds.specs.Selections.{cause14}

-- Cause 14.

-- the byte at place i is over 1
abbrev pub over_one : List ℕ → ℕ → Bool
over_one selection i = ltb 1 (get_or selection i 0)

-- of the first n bytes and one more
pub over_more : (selection : List ℕ) (n : ℕ) → some_below n (over_one selection) || over_one selection n ≡ some_below (n + 1) (over_one selection)
unfolding some_below
over_more selection n = rw (add-one n)

module _ (m : ℕ) (selection : List ℕ) where
  pub wrong_length : (length selection ≡ m → ⊥) → cause14 m selection ≡ true
  unfolding cause14
  wrong_length h = rw (ne_eqb (length selection) m h)

  pub by_bytes : length selection ≡ m → cause14 m selection ≡ some_below (length selection) (over_one selection)
  unfolding cause14
  by_bytes e = rw (eq-eqb (length selection) m e)

  pub right_selection : length selection ≡ m → some_below (length selection) (over_one selection) ≡ false → cause14 m selection ≡ false
  right_selection e h = by_bytes e ∙ h

  -- where it does not hold, the selection has m bytes
  pub right_length : cause14 m selection ≡ false → length selection ≡ m
  unfolding cause14
  right_length h =
      eqb-true (length selection) m
      (not-false (eqb (length selection) m) (or_fails_l (not (eqb (length selection) m)) (some_below (length selection) (over_one selection)) h))

  -- of which none is over 1
  pub right_byte : cause14 m selection ≡ false → (i : ℕ) → i < length selection → over_one selection i ≡ false
  unfolding cause14
  right_byte h i l =
      none_at (over_one selection) (length selection) i (or_fails_r (not (eqb (length selection) m)) (some_below (length selection) (over_one selection)) h) l
