use Rattle.std.proofs.Common.{◌+◌, refl, sym, ◌∙◌, arith}
use Rattle.reader.specs.Family.{family_of}
use Rattle.reduction.specs.Private.Keeping.{of_first, Passed}
use Rattle.reduction.proofs.Keeping.Known.{is_known}
use Rattle.reduction.proofs.Keeping.Gathering.{same_trans, gathers_start, passed_start, passed_skip, skip_region, stretch_passed, stretch_ahead, stretch_has_room, stretch_pushed, listed_all}
use Rattle.reduction.proofs.keep.Family.gather.Goals as goal
use Rattle.reduction.proofs.keep.Family.gather.Goals.{After-stretch_at-stretch, then-z-ne0, else-z-ne0}

passed : (c : After-stretch_at-stretch) → Passed (family_of c.args.self.now.file.now) c.args.kept.now (c.loop-k.k + 1) (c.stretch_at-stretch.result.first + 1)
passed c =
    let pre = c.requires in
    let e = c.stretch_at-stretch.ensures in
    stretch_passed (is_known c.args.self.now.with_stretches) c.args.kept.now pre.kept_marked c.loop-k.k _ _ _ (omega arith) c.nth-z.ensures c.if-z-ne0.true e.first e.last

pub loop-k-init : goal.loop-k-init
loop-k-init c =
    let pre = c.requires in
    let C = c.args.kept.now in record {
      whole = pre.whole;
      same_arrays = record { from = refl; to = refl; bounds = refl };
      passed = passed_start (is_known c.args.self.now.with_stretches).well_formed C pre.kept_marked;
      gathered = rw pre.none_yet (gathers_start (is_known c.args.self.now.with_stretches).well_formed C pre.kept_marked _ _ _);
    }

pub overflow_add-after : goal.overflow_add-after
overflow_add-after c = omega (arith, (passed (goal.at.overflow_add-after c).After-stretch_at-stretch).small, (is_known c.args.self.now.with_stretches).well_formed.peptides_most)

pub append_runs-requires-clause-runs_ahead : goal.append_runs-requires-clause-runs_ahead
append_runs-requires-clause-runs_ahead c =
    let pre = c.requires in
    let inv = c.loop-k.invariant.passed in
    let e = c.stretch_at-stretch.ensures in record {
      lives = pre.runs_ahead.lives;
      positive = inv.positive;
      order = stretch_ahead (is_known c.args.self.now.with_stretches) c.args.kept.now pre.kept_marked c.loop-k.k _ _ _ (omega arith) c.nth-z.ensures c.if-z-ne0.true e.first e.last c.loop-k.begin inv;
      small = (passed (goal.at.append_runs-requires-clause-runs_ahead c).After-stretch_at-stretch).small;
      few = pre.runs_ahead.few;
    }

pub push-requires-clause-few : goal.push-requires-clause-few
push-requires-clause-few c =
    let pre = c.requires in
    let C = c.args.kept.now in
    let k = c.loop-k.k in
    let e = c.stretch_at-stretch.ensures in
    omega (
      arith,
      pre.runs_ahead.few,
      stretch_has_room (is_known c.args.self.now.with_stretches) C pre.kept_marked k _ _ _ (omega arith) c.nth-z.ensures c.if-z-ne0.true e.first e.last c.append_runs.new.ranges
          (c.append_runs.ensures.gathered (of_first (family_of c.args.self.now.file.now) C k) c.loop-k.invariant.gathered),
    )

pub loop-k-preserved : goal.loop-k-preserved
loop-k-preserved c =
    let pre = c.requires in
    let F = family_of c.args.self.now.file.now in
    let C = c.args.kept.now in
    let k = c.loop-k.k in
    let inv = c.loop-k.invariant in
    let well = (is_known c.args.self.now.with_stretches).well_formed in
    elim c.if-z-ne0.branch [
      | then-z-ne0 w ↦
          let s = w.stretch_at-stretch.ensures in
          let a = w.append_runs.ensures in
          let e = w.push.ensures in
          record {
            whole = rw w.ranges-is e.whole;
            same_arrays = rw w.ranges-is (same_trans inv.same_arrays (same_trans a.same_arrays e.same_arrays));
            passed = rw w.begin-is (stretch_passed (is_known c.args.self.now.with_stretches) C pre.kept_marked k _ _ _ (omega arith) c.nth-z.ensures w.if-z-ne0.true s.first s.last);
            gathered =
                rw (w.begin-is, w.ranges-is, e.count, e.from, e.to, e.bounds)
                (stretch_pushed (is_known c.args.self.now.with_stretches) C pre.kept_marked k _ _ _ (omega arith) c.nth-z.ensures w.if-z-ne0.true s.first s.last w.append_runs.new.ranges (a.gathered (of_first F C k) inv.gathered) pre.runs_ahead.few a.whole);
          }
      | else-z-ne0 w ↦
          record {
            whole = rw w.ranges-is inv.whole;
            same_arrays = rw w.ranges-is inv.same_arrays;
            passed = rw w.begin-is (passed_skip well C pre.kept_marked k c.loop-k.begin inv.passed);
            gathered = rw (w.begin-is, w.ranges-is) (skip_region well C pre.kept_marked k c.loop-k.begin c.loop-k.ranges.count _ _ _ (omega arith) inv.gathered (sym c.nth-z.ensures ∙ w.if-z-ne0.false));
          }
    ]

pub returns-clause-listed : goal.returns-clause-listed
returns-clause-listed c =
    let pre = c.requires in
    let s = c.args.self.now.file.now in
    let C = c.args.kept.now in
    let inv = c.loop-k.invariant in
    let k = c.loop-k.k in
    listed_all s (is_known c.args.self.now.with_stretches).well_formed C pre.kept_marked k (c.peptide_count.result + 1) c.append_runs-2.new.ranges.count _ _ _
    (omega arith) (omega (arith, c.peptide_count.ensures)) (c.append_runs-2.ensures.gathered (of_first (family_of s) C k) inv.gathered)
