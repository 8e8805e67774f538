use Prim.Native.Nat.{ℕ, ◌+◌}
use native.Mathlib.Omega.{arith}
use mathlib.Core.Path.{◌≡◌, sym, subst}
use Rattle.reader.specs.Family.{family_of, peptides_up_to}
use Rattle.reader.proofs.Walk.{nothing_before}
use Rattle.reduction.specs.Private.Passes.{Begun}
use Rattle.reader.proofs.Walk.{up_to_leaf}
use Rattle.bounds.proofs.Theory.Family.{leaf_most}
use Rattle.reduction.proofs.Stretching.OpenRegions.{none_begun, none_open, new_innermost, same_innermost, ends_found}
use Rattle.reduction.proofs.stretch.find_ends.Goals as goal
use Rattle.reduction.proofs.stretch.find_ends.Goals.{After-leaf_length-peptide, then-begun-now_begun, else-begun-now_begun}

-- the last peptide of the next leaf
sums : (c : After-leaf_length-peptide) → c.loop-passed.peptide + c.leaf_length-peptide.result ≡ peptides_up_to (family_of c.args.file.now) (c.loop-passed.passed + 1)
sums c = omega (arith, c.loop-passed.invariant.sums, c.leaf_length-peptide.ensures, up_to_leaf (family_of c.args.file.now) c.loop-passed.passed)

pub loop-passed-init : goal.loop-passed-init
loop-passed-init c =
    let w = c.requires.formed in record { sums = sym (nothing_before _); begun = none_begun _ w _; opened = none_open _ w _ }

pub overflow_add-peptide : goal.overflow_add-peptide
overflow_add-peptide c =
    let w = c.requires.formed in
    omega (arith, sums (goal.at.overflow_add-peptide c).After-leaf_length-peptide, leaf_most w (c.loop-passed.passed + 1) (omega arith), w.peptides_most)

pub end_regions-inner-requires : goal.end_regions-inner-requires
end_regions-inner-requires c =
    let pre = c.requires in
    let inv = c.loop-passed.invariant in
    let now = c.begin_regions-now_begun.ensures in
    record {
      family = pre;
      sums = sums (goal.at.end_regions-inner-requires c).After-leaf_length-peptide;
      opened =
          elim c.if-begun-now_begun.branch [
            | then-begun-now_begun w ↦ rw w.inner-is (new_innermost _ pre.formed c.loop-passed.passed _ _ _ _ _ _ inv.begun now.begun w.if-begun-now_begun.true inv.opened)
            | else-begun-now_begun w ↦
                let same : c.loop-passed.begun ≡ c.begin_regions-now_begun.result = omega (arith, now.more, w.if-begun-now_begun.false) in
                rw w.inner-is (same_innermost _ pre.formed c.loop-passed.passed _ _ _ _ _ (subst (λ (k : ℕ). Begun (family_of c.args.file.now) c.loop-passed.passed k c.loop-passed.lows) same inv.begun) now.begun inv.opened)
          ];
    }

pub loop-passed-preserved : goal.loop-passed-preserved
loop-passed-preserved c =
    record { sums = sums (goal.at.loop-passed-preserved c).After-leaf_length-peptide; begun = c.begin_regions-now_begun.ensures.begun; opened = c.end_regions-inner.ensures }

pub returns : goal.returns
returns c =
    let inv = c.loop-passed.invariant in
    ends_found _ c.requires.formed c.loop-passed.passed _ _ _ _ (omega arith) inv.begun inv.opened
