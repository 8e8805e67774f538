-- What the steps of the reduction hand on as lists, read place by place.
use Prim.Native.Nat.{ℕ, ◌-◌}
use mathlib.Core.Bool.{true, false, not, ◌||◌}
use mathlib.Core.List.{List}
use mathlib.Core.Path.{◌≡◌, sym, ◌∙◌, ap}
use native.Mathlib.Omega.{arith}
use lib.Dec.{eqb}
use borrow.Author.Tests.{not-true}
use Rattle.reader.specs.Bytes.{IsBytes}
use Rattle.reader.specs.Family.{Family, region, family_of}
use Rattle.reader.specs.Causes.{Accepted}
use Rattle.reader.proofs.Accepting.{well_formed_lem}
use Rattle.bounds.specs.Ranges.{Peptides, range_of, ranges_of}
use Rattle.bounds.specs.Bound.{total}
use Rattle.bounds.specs.Selections.{selected, totals_of}
use Rattle.bounds.proofs.Basics.Members.{and_l}
use Rattle.bounds.proofs.Basics.Counting.{SameSet}
use Rattle.bounds.proofs.Theory.Totals.{total_same}
use Rattle.reduction.specs.Reduction.{live}
use Rattle.reduction.specs.Private.Steps.{Begins, live_bytes, first_live, last_live, firsts_live, lasts_live, Parented, Stretched, Totalled}
use Rattle.reduction.specs.Private.Passes.{WithParents}
use Rattle.reduction.specs.Private.Keeping.{first_at, last_at, WithStretches, total_at, TotalsBelow, begins_run}
use Rattle.reduction.proofs.Basics.Selected.{selected_at, set_length, set_selected}
use Rattle.reduction.proofs.Stretching.ListFronts.{begins_at, ranges_at, known_parents}

module _ (s : List ℕ) (bytes : IsBytes s) (accepted : Accepted s) where
  pub known : (L A B : List ℕ) → Stretched s L A B → WithStretches (family_of s) A B
  unfolding first_at last_at firsts_live lasts_live
  known L A B t =
      record {
        well_formed = well_formed_lem s bytes accepted;
        firsts = λ k h. ranges_at (family_of s) (first_live (family_of s)) A t.firsts k h;
        lasts = λ k h. ranges_at (family_of s) (last_live (family_of s)) B t.lasts k h;
      }

-- The live bytes.

pub lives_same : (F : Family) (X : List ℕ) → Begins (live_bytes F) X → SameSet F.peptides (selected X) (live (ranges_of F))
unfolding live_bytes
lives_same F X b p l u =
    let L : Peptides = live (ranges_of F) in
    selected_at X p l
    ∙ ap (λ (x : ℕ). eqb x 1) (begins_at (live_bytes F) X b (p - 1) (omega (arith, set_length F.peptides L)))
    ∙ sym (selected_at (live_bytes F) p l)
    ∙ set_selected F.peptides L p l u

-- where a run begins
pub begins_dead : (X : Peptides) (p : ℕ) → begins_run X p ≡ true → X p ≡ false
unfolding begins_run
begins_dead X p e = not-true (X p) (and_l (not (X p)) (eqb p 1 || X (p - 1)) e)

-- The totals.

pub totals_at : (s T : List ℕ) → Totalled s T → TotalsBelow (family_of s) T
unfolding totals_of total_at live_bytes
totals_at s T t k h =
    let F = family_of s in
    let S = selected (live_bytes F) in
    ranges_at F (total F.peptides (ranges_of F) S) T t.totals k h
    ∙ total_same F.peptides (ranges_of F) S (live (ranges_of F)) (set_selected F.peptides (live (ranges_of F))) (range_of F (region F k))

-- The parents.

pub with_parents : (s P : List ℕ) → IsBytes s → Parented s P → WithParents (family_of s) P
with_parents s P bytes t = known_parents (family_of s) (well_formed_lem s bytes t.accepted) P t.parented
