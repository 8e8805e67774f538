-- The live peptides as a selection: m bytes, each 0 or 1, which the call for the inside totals takes.
use Prim.Native.Nat.{ℕ, ◌≤◌}
use mathlib.Core.Bool.{false}
use mathlib.Core.List.{List}
use mathlib.Core.Path.{◌≡◌, ap, ◌∙◌}
use native.Mathlib.Omega.{arith}
use lib.ListN.{length, take, drop}
use lib.Seq.{take_at}
use Rattle.reader.specs.Family.{Family, family_of}
use Rattle.reader.specs.Causes.{first_cause, Accepted}
use Rattle.reader.specs.Calls.{written}
use Rattle.reader.proofs.First.{writes}
use Rattle.reader.proofs.Accepting.{accepted_header, few_regions}
use Rattle.bounds.specs.Ranges.{ranges_of}
use Rattle.bounds.specs.Selections.{cause14, totals_of}
use Rattle.bounds.specs.Calls.{selection_causes}
use Rattle.bounds.proofs.Calls.SelectionCalls.{selection_clear}
use Rattle.reduction.specs.Reduction.{live}
use Rattle.reduction.specs.Private.Steps.{Begins, live_bytes, Totalled}
use Rattle.reduction.proofs.Basics.Selected.{set_length, set_selection}

live_length : (F : Family) → length (live_bytes F) ≡ F.peptides
unfolding live_bytes
live_length F = set_length F.peptides (live (ranges_of F))

live_selection : (F : Family) → cause14 F.peptides (live_bytes F) ≡ false
unfolding live_bytes
live_selection F = set_selection F.peptides (live (ranges_of F))

module _ (F : Family) (L : List ℕ) (begins : Begins (live_bytes F) L) where
  -- the selection is the first m bytes of the list
  pub live_part : (m : ℕ) → m ≡ F.peptides → take m L ≡ live_bytes F
  live_part m e = ap (take m) begins.1 ∙ take_at (live_bytes F) begins.0 m (omega (arith, live_length F))

module _ (s : List ℕ) (accepted : Accepted s) (old : List ℕ) (room : 8191 ≤ length old) where
  none_holds : first_cause (selection_causes s (live_bytes (family_of s)) old) ≡ 0
  none_holds =
      selection_clear s (live_bytes (family_of s)) (length old) accepted (live_selection (family_of s))
      (omega (arith, few_regions s (accepted_header s accepted)))

  -- so the inside totals are written
  pub live_totals_written : (new selection : List ℕ) → selection ≡ live_bytes (family_of s)
      → new ≡ written (selection_causes s selection old) (totals_of (family_of s) selection) old → Totalled s new
  live_totals_written new selection e w =
      let F = family_of s in
      let T = totals_of F (live_bytes F) in
      record {
        totals = (
          drop (length T) old,
          w
              ∙ ap (λ (l : List ℕ). written (selection_causes s l old) (totals_of F l) old) e
              ∙ writes (selection_causes s (live_bytes F) old) none_holds T old,
        );
      }
