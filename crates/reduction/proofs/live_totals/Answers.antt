-- The live bytes are a selection, so the call of `bounds` writes the totals.
use native.Mathlib.Omega.{arith}
use lib.ListN.{take}
use Rattle.reader.specs.Family.{family_of}
use Rattle.reduction.proofs.Calls.LiveSelection.{live_part, live_totals_written}
use Rattle.reduction.proofs.Calls.ReduceCalls.{few_peptides}
use Rattle.reduction.proofs.live_totals.Goals as goal

pub shared_ref_as_front-inside_totals : goal.shared_ref_as_front-inside_totals
shared_ref_as_front-inside_totals c =
    omega (arith, few_peptides c.args.file.now c.requires.accepted, c.peptide_count-m.ensures)

pub returns : goal.returns
returns c =
    let s = c.args.file.now in
    let m = c.peptide_count-m.result in
    let L = c.args.live.now in
    live_totals_written s c.requires.accepted c.args.totals.now (omega arith) c.inside_totals.new.out (take m L)
    (live_part (family_of s) L c.requires.begins m c.peptide_count-m.ensures) c.inside_totals.ensures.totals_writes
