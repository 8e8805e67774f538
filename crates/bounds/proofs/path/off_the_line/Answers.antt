use Prim.Native.Nat.{ℕ, ◌<◌}
use native.Mathlib.Omega.{arith}
use mathlib.Core.Bool.{Bool, true, false, ◌||◌}
use mathlib.Core.List.{List}
use mathlib.Core.Path.{◌≡◌, sym}
use lib.ListN.{length, get_or}
use lib.Dec.{eqb, ltb}
use borrow.Author.Rules.{rules}
use borrow.Author.Tests.{tests}
use Rattle.std.specs.List.{HoldsAt, AllWithin}
use Rattle.std.specs.Bool.{MatchBool}
use Rattle.std.proofs.lemmas.Iterator.{YieldsList-from_slice, cases_from_any}
use Rattle.reader.proofs.Below.{none_below, some_at}
use Rattle.bounds.specs.Curves.{cause12}
use Rattle.bounds.proofs.path.off_the_line.Goals as goal

-- a number that is on no peptide line
abbrev off : ℕ → ℕ → Bool
off m x = eqb x 0 || ltb m x

found : (m : ℕ) (path : List ℕ) (r : Bool)
    → MatchBool r ((k : ℕ) × (k < length path) × HoldsAt (λ x. off m x ≡ true) path k) (AllWithin (λ x. off m x ≡ false) path 0 (length path))
    → r ≡ cause12 m path
unfolding cause12
found m path true h = sym (some_at (λ i. off m (get_or path i 0)) (length path) h.0 h.1 (h.2 0))
found m path false h = sym (none_below (λ i. off m (get_or path i 0)) (length path) (λ k l. h k 0 (omega arith) l))

pub returns : goal.returns
returns c =
    found _ _ _
    (cases_from_any _ _ c.any.result (λ x. off c.args.peptides x ≡ true) (λ x. off c.args.peptides x ≡ false) c.any.ensures.ran (YieldsList-from_slice c.args.path.now cc)
    (λ x q k. search (rules, tests))
    (λ x q k. search (rules, tests)))
