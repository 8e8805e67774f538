-- Ranges whose keys are their peptides. A tidy list of them, in file order and nested or disjoint, is laminar.
use Prim.Native.Nat.{ℕ, suc, ◌≤◌, ◌<◌}
use mathlib.Core.List.{List, [], ◌∷◌}
use mathlib.Core.Logic.{inl, inr}
use mathlib.Core.Path.{◌≡◌, refl}
use native.Mathlib.Omega.{arith}
use Rattle.bounds.specs.Ranges.{Range, In}
use Rattle.bounds.proofs.Theory.Laminar.{Fit, is_around, is_before, Fits, Laminar}
use Rattle.reduction.proofs.Basics.Grid.{Precedes, FileOrder}

-- the key is the peptides, which are some of 1 to m
pub record Plain (m : ℕ) (s : Range) : Type 0 where
  pub order : s.from ≤ s.to
  pub small : s.to ≤ m
  pub low : suc s.low ≡ s.from
  pub high : s.high ≡ s.to

-- keys nested or disjoint
pub data Nest (s t : Range) : Type 0 where
  apart : s.to < t.from → Nest s t
  apart' : t.to < s.from → Nest s t
  within : t.from ≤ s.from → s.to ≤ t.to → Nest s t
  around : s.from ≤ t.from → t.to ≤ s.to → Nest s t

pub nest_swap : {s t : Range} → Nest s t → Nest t s
nest_swap (apart h) = apart' h
nest_swap (apart' h) = apart h
nest_swap (within h k) = around h k
nest_swap (around h k) = within h k

pub record Tidy (m : ℕ) (T : List Range) : Type 0 where
  pub ordered : FileOrder T
  pub plain : (s : Range) → In s T → Plain m s
  pub nest : (s t : Range) → In s T → In t T → Nest s t

-- in file order the later of two is after the earlier one, or inside it
plain_fit : {m : ℕ} {s t : Range} → Plain m s → Plain m t → Nest s t → Precedes s t → Fit s t
plain_fit u v (apart h) b = is_before h (omega arith)
plain_fit u v (apart' h) (inl b) = absurd (omega arith)
plain_fit u v (apart' h) (inr b) = absurd (omega arith)
plain_fit u v (within h k) (inl b) = absurd (omega arith)
plain_fit u v (within h k) (inr b) = absurd (omega arith)
plain_fit u v (around h k) (inl b) = is_around (record { left = h; right = k; less = omega arith }) (omega arith) (omega arith)
plain_fit u v (around h k) (inr b) = is_around (record { left = h; right = k; less = omega arith }) (omega arith) (omega arith)

tidy_tail : {m : ℕ} {s : Range} {T : List Range} → Tidy m (s ∷ T) → Tidy m T
tidy_tail w = record { ordered = w.ordered.1; plain = λ t i. w.plain t (inr i); nest = λ t u i j. w.nest t u (inr i) (inr j) }

tidy_fits : {m : ℕ} (T : List Range) → Tidy m T → Fits T
tidy_fits [] w = tt
tidy_fits (s ∷ T) w =
    (λ t i. plain_fit (w.plain s (inl refl)) (w.plain t (inr i)) (w.nest s t (inl refl) (inr i)) (w.ordered.0 t i), tidy_fits T (tidy_tail w))

pub tidy_laminar : {m : ℕ} {T : List Range} → Tidy m T → Laminar m T
tidy_laminar {T = T} w = record { proper = λ s i. let p = w.plain s i in record { order = p.order; ends = omega arith }; fits = tidy_fits T w }
