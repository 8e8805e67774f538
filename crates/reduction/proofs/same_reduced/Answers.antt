-- The first bytes of each output are the reduced file.
use native.Mathlib.Omega.{arith}
use mathlib.Core.List.{List, [], ◌∷◌}
use Prim.Native.Nat.{ℕ}
use lib.Dec.{eqb}
use lib.Pointwise.{pointwise}
use mathlib.Core.Path.{◌≡◌, refl, ap₂, ◌∙◌}
use Rattle.reader.specs.Lists.{same_list}
use Rattle.reduction.proofs.Calls.ReduceCalls.{accepted_most, wrote_part}
use Rattle.reduction.proofs.same_reduced.Goals as goal

-- `==` on slices is the test that the promise is stated with
same_pointwise : (a b : List ℕ) → pointwise eqb a b ≡ same_list a b
unfolding same_list
same_pointwise [] [] = refl
same_pointwise [] (y ∷ b) = refl
same_pointwise (x ∷ a) [] = refl
same_pointwise (x ∷ a) (y ∷ b) = rw (same_pointwise a b) refl

pub reduce_accepted-first_size-requires-clause-file_in_bounds : goal.reduce_accepted-first_size-requires-clause-file_in_bounds
reduce_accepted-first_size-requires-clause-file_in_bounds c =
    omega (arith, accepted_most c.args.first.now c.requires.first_parented.accepted)

pub reduce_accepted-second_size-requires-clause-file_in_bounds : goal.reduce_accepted-second_size-requires-clause-file_in_bounds
reduce_accepted-second_size-requires-clause-file_in_bounds c =
    omega (arith, accepted_most c.args.second.now c.requires.second_parented.accepted)

pub returns : goal.returns
returns c =
    c.eq.ensures ∙ same_pointwise _ _ ∙ ap₂ same_list (wrote_part c.reduce_accepted-first_size.ensures) (wrote_part c.reduce_accepted-second_size.ensures)
