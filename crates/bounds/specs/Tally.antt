-- What a list of selections is charged, and the running tally of the charges.
use Rattle.std.specs.Prelude.{ℕ, ◌+◌, Bool, cond, eqb, ltb}

-- the charge of a list of so many selections in a family of K regions: K when it has a selection, otherwise 0
unfoldable pub charge_of : ℕ → ℕ → ℕ
charge_of K count = cond (eqb count 0) 0 K

-- a tally with a charge added
unfoldable pub added : ℕ → ℕ → ℕ
added tally charge = tally + charge

-- the tally would pass 4,294,967,295
unfoldable pub cause25 : ℕ → ℕ → Bool
cause25 tally charge = ltb 4294967295 (added tally charge)
