-- Indirect proofs of inequalities.
use Prim.Native.Nat.{ℕ, ◌≤◌, ◌<◌}
use mathlib.Core.Logic.{⊎_elim}
use Rattle.bounds.proofs.Basics.Members.{le_or_lt}

pub le_unless : (a b : ℕ) → (b < a → ⊥) → a ≤ b
le_unless a b h = ⊎_elim (λ k. k) (λ k. absurd (h k)) (le_or_lt a b)

pub lt_unless : (a b : ℕ) → (b ≤ a → ⊥) → a < b
lt_unless a b h = ⊎_elim (λ k. absurd (h k)) (λ k. k) (le_or_lt b a)
