use Rattle.std.proofs.Common.{sym, ◌∙◌, arith}
use Rattle.reader.specs.Family.{family_of}
use Rattle.reduction.proofs.Keeping.Gathering.{same_trans, found_room, found_more, not_found}
use Rattle.reduction.proofs.keep.append_runs.Goals as goal
use Rattle.reduction.proofs.keep.append_runs.Goals.{then-begins_run, else-begins_run}

pub push-requires-clause-few : goal.push-requires-clause-few
push-requires-clause-few c =
    let pre = c.requires.runs_ahead in
    let (t, g) = c.requires.some_gathered in
    omega (
      arith,
      pre.few,
      found_room (family_of c.args.file.now) c.args.live.now pre.lives c.loop-p.p _ _ c.peptide_count-peptides.ensures (omega (arith, pre.positive)) (sym c.begins_run.ensures ∙ c.if-begins_run.true) c.run_end-last.ensures t c.loop-p.ranges (c.loop-p.invariant.gathered t g),
    )

pub loop-p-preserved : goal.loop-p-preserved
loop-p-preserved c =
    let F = family_of c.args.file.now in
    let L = c.args.live.now in
    let p = c.loop-p.p in
    let r = c.loop-p.ranges in
    let pre = c.requires.runs_ahead in
    let inv = c.loop-p.invariant in
    elim c.if-begins_run.branch [
      | then-begins_run w ↦ let e = w.push.ensures in record {
        whole = rw w.ranges-is e.whole;
        same_arrays = rw w.ranges-is (same_trans inv.same_arrays e.same_arrays);
        gathered = λ t g.
            rw (w.ranges-is, e.count, e.from, e.to, e.bounds)
            (found_more F L pre.lives p _ _ c.peptide_count-peptides.ensures (omega (arith, pre.positive)) (sym c.begins_run.ensures ∙ w.if-begins_run.true) w.run_end-last.ensures t r (inv.gathered t g) pre.few inv.whole);
      }
      | else-begins_run w ↦ record {
        whole = rw w.ranges-is inv.whole;
        same_arrays = rw w.ranges-is inv.same_arrays;
        gathered = λ t g. rw w.ranges-is (not_found F L pre.lives p t r (sym c.begins_run.ensures ∙ w.if-begins_run.false) (inv.gathered t g));
      }
    ]
