-- A range of the reduced list is a run, which begins dead, or a stretch, which begins live. They are nested or disjoint.
use Prim.Native.Nat.{ℕ, ◌≤◌, ◌<◌}
use mathlib.Core.Bool.{true}
use mathlib.Core.List.{List}
use mathlib.Core.Logic.{⊎_elim}
use mathlib.Core.Path.{◌≡◌, refl}
use native.Mathlib.Omega.{arith}
use Rattle.bounds.specs.Ranges.{Range, Peptides, In}
use Rattle.bounds.proofs.Basics.Members.{clash, le_or_lt}
use Rattle.bounds.proofs.Theory.Laminar.{Laminar}
use Rattle.reduction.specs.Reduction.{live, reduced}
use Rattle.reduction.proofs.Basics.Unless.{lt_unless}
use Rattle.reduction.proofs.Basics.Plain.{Plain, Nest, apart, apart', within, nest_swap, Tidy}
use Rattle.reduction.proofs.Theory.Stretches.{Source, stretches_facts}
use Rattle.reduction.proofs.Theory.SameSets.{stretches_nest}
use Rattle.reduction.proofs.Theory.Runs.{DeadRun, run_begin, run_end}
use Rattle.reduction.proofs.Theory.Reduced.{Written, run, kept, reduced_facts, reduced_ordered}

pub data Kind (m : ℕ) (R : List Range) (x : Range) : Type 0 where
  a_run : DeadRun m (live R) x.from x.to → x.z ≡ 0 → Kind m R x
  a_stretch : Source m R x → Kind m R x

written_kind : {m : ℕ} {R : List Range} {x : Range} → Written m R x → Kind m R x
written_kind (run a b d e) = rw e (a_run d refl)
written_kind {m} {R} {x} (kept i k) = a_stretch (stretches_facts m R x i)

written_plain : {m : ℕ} {R : List Range} {x : Range} → Written m R x → Plain m x
written_plain (run a b d e) = rw e (record { order = d.order; small = d.small; low = omega (arith, d.positive); high = refl })
written_plain {m} {R} {x} (kept i k) =
    let c = stretches_facts m R x i in
    record { order = c.stretch.order; small = c.stretch.small; low = c.low; high = c.high }

-- Nested or disjoint.

two_runs : {m : ℕ} {L : Peptides} (x y : Range) → DeadRun m L x.from x.to → DeadRun m L y.from y.to → Nest x y
two_runs x y p q = ⊎_elim (λ h. ⊎_elim (equal h) apart' (le_or_lt x.from y.to)) apart (le_or_lt y.from x.to)
  where
    equal : y.from ≤ x.to → x.from ≤ y.to → Nest x y
    equal h k = within (run_begin q p h) (run_end q p k)

-- the ends of a stretch y are live, so each is before or after the run x
run_stretch : {m : ℕ} {L : Peptides} (x y : Range) → DeadRun m L x.from x.to → L y.from ≡ true → L y.to ≡ true → Nest x y
run_stretch x y d f g = ⊎_elim later earlier (le_or_lt x.from y.from)
  where
    later : x.from ≤ y.from → Nest x y
    later h = apart (lt_unless x.to y.from (λ k. clash f (d.dead y.from h k)))

    earlier : y.from < x.from → Nest x y
    earlier h = ⊎_elim ends_earlier (λ k. within (omega arith) (omega arith)) (le_or_lt y.to x.to)
      where
        ends_earlier : y.to ≤ x.to → Nest x y
        ends_earlier k = apart' (lt_unless y.to x.from (λ l. clash g (d.dead y.to l k)))

kind_nest : {m : ℕ} {R : List Range} {x y : Range} → Laminar m R → Kind m R x → Kind m R y → Nest x y
kind_nest {x = x} {y = y} l (a_run p z) (a_run q u) = two_runs x y p q
kind_nest {x = x} {y = y} l (a_run p z) (a_stretch c) = run_stretch x y p c.stretch.first_live c.stretch.last_live
kind_nest {x = x} {y = y} l (a_stretch c) (a_run q u) = nest_swap (run_stretch y x q c.stretch.first_live c.stretch.last_live)
kind_nest l (a_stretch c) (a_stretch d) = stretches_nest l c d

module _ (m : ℕ) (R : List Range) where
  pub plain : (x : Range) → In x (reduced m R) → Plain m x
  plain x i = written_plain (reduced_facts m R x i)

  pub kind : (x : Range) → In x (reduced m R) → Kind m R x
  kind x i = written_kind (reduced_facts m R x i)

  pub first : (x : Range) → In x (reduced m R) → 1 ≤ x.from
  first x i = let w = plain x i in omega arith

  pub reduced_tidy : Laminar m R → Tidy m (reduced m R)
  reduced_tidy l = record { ordered = reduced_ordered m R; plain = plain; nest = λ x y i j. kind_nest l (kind x i) (kind y j) }
