-- What the struct `Family` knows of its stretches. Any two proofs of it are equal, so it can be taken out of the struct's field.
use Prim.Native.Nat.{ℕ}
use Rattle.std.proofs.Math.Nat.{ℕ_set}
use Rattle.std.proofs.Math.Logic.{∥∥₁_elim, ∥∥₁_map}
use mathlib.Core.List.{List}
use Rattle.reader.specs.Family.{Family}
use Rattle.bounds.proofs.Basics.Known.{is_formed}
use Rattle.reduction.specs.Private.Keeping.{WithStretches}

pub is_known : {F : Family} {A B : List ℕ} → ∥ WithStretches F A B ∥₁ → WithStretches F A B
is_known {F} {A} {B} h = record {
  well_formed = is_formed (∥∥₁_map h (λ x. x.well_formed));
  firsts = λ k l. ∥∥₁_elim h (ℕ_set _ _) (λ x. x.firsts k l);
  lasts = λ k l. ∥∥₁_elim h (ℕ_set _ _) (λ x. x.lasts k l);
}
