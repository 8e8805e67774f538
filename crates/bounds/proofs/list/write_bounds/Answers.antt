use Prim.Native.Nat.{ℕ, ◌+◌, ◌*◌, ◌-◌, ◌≤◌, ◌<◌}
use native.Mathlib.Omega.{arith}
use mathlib.Core.List.{List, [], append-nil}
use mathlib.Core.Path.{◌≡◌, refl, sym, ap, ◌∙◌}
use lib.ListN.{length, take, drop, set, length-replicate, drop_of_length-le}
use Rattle.reader.specs.Family.{Family, family_of}
use Rattle.reader.proofs.Lists.{write_none, write_more}
use Rattle.bounds.specs.Selections.{bound_of}
use Rattle.bounds.specs.SelectionLists.{selection_at, list_bounds}
use Rattle.bounds.proofs.Calls.ListLaws.{selection_ends, selection_part, selection_whole}
use Rattle.bounds.proofs.list.write_bounds.Goals as goal
use Rattle.bounds.proofs.list.write_bounds.Goals.{In-loop-i}
use Rattle.bounds.proofs.list.write_bounds.Invariants.{bound_at}

pub loop-i-init : goal.loop-i-init
loop-i-init c =
    record { room = length-replicate {A = ℕ} 8191 0; written = write_none _ _ }

-- where a selection begins and ends, and what the part of the buffer between is
record Line (F : Family) (selections : List ℕ) (m i : ℕ) : Type 0 where
  ends : i * m + m ≤ length selections
  part : take (i * m + m - i * m) (drop (i * m) selections) ≡ selection_at F.peptides selections i
  whole : length (take (i * m + m - i * m) (drop (i * m) selections)) ≡ F.peptides

line : (F : Family) (selections : List ℕ) (count m i : ℕ) → length selections ≡ count * F.peptides → m ≡ F.peptides → i < count → Line F selections m i
line F selections count m i total known more =
    let all : length selections ≡ count * m = total ∙ ap (λ (n : ℕ). count * n) (sym known) in
    let part : take (i * m + m - i * m) (drop (i * m) selections) ≡ selection_at F.peptides selections i =
    selection_part m selections i (i * m) refl ∙ ap (λ (n : ℕ). selection_at n selections i) known in
    record {
      ends = selection_ends m selections i count (i * m) all more refl;
      part = part;
      whole = ap length part ∙ selection_whole F.peptides selections i count total more;
    }

line_here : (c : In-loop-i) → Line (family_of c.args.file.now) c.args.selections.now c.peptide_count-m.result c.loop-i.i
line_here c = line _ _ _ _ _ c.requires.whole c.peptide_count-m.ensures c.loop-i-test.true

pub loop-i-preserved : goal.loop-i-preserved
loop-i-preserved c =
    let inv = c.loop-i.invariant in
    let f : ℕ → ℕ = bound_at (family_of c.args.file.now) c.args.selections.now in
    let bound : c.line_value.result ≡ f c.loop-i.i = c.line_value.ensures.bound ∙ ap (bound_of (family_of c.args.file.now)) (line_here (goal.at.loop-i-preserved c).In-loop-i).part in
    record {
      room = c.line_value.auto.totals ∙ inv.room;
      written = ap (λ (l : List ℕ). set l c.loop-i.i c.line_value.result) inv.written
          ∙ write_more f c.args.values.now c.loop-i.i c.line_value.result c.loop-i-test.true bound;
    }

pub returns : goal.returns
unfolding list_bounds
returns c =
    let values = c.args.values.now in
    let end : c.loop-i.i ≡ length values = omega arith in
    let none : drop (length values) values ≡ [] = drop_of_length-le values (omega arith) in
    (rw end at c.loop-i.invariant.written) ∙ rw none (append-nil _)
