-- Each test is one of the facts of a header in which no cause after the first holds.
use native.Mathlib.Omega.{arith}
use mathlib.Core.Bool.{false}
use mathlib.Core.Path.{◌≡◌, sym, ◌∙◌}
use Rattle.reader.specs.Family.{family_of}
use Rattle.reader.specs.Causes.{cause2, cause3, cause4}
use Rattle.reader.proofs.Bools.{passes}
use Rattle.reader.proofs.Parsed.{peptides_read, leaves_read, regions_read}
use Rattle.reader.proofs.Judged.{peptides_counted, from_peptides_counted, leaves_counted, from_leaves_counted, regions_counted, from_regions_counted, layout_2, layout_3, layout_5}
use Rattle.reader.proofs.causes.check_layout.Goals as goal
use Rattle.reader.proofs.causes.check_layout.Goals.{Else-m-gt-MOST_PEPTIDES, Else-n-gt-MOST_LEAVES, Else-n-k, then-m-eq0-via-then-m-eq0, then-m-eq0-via-else-m-eq0+then-m-gt-MOST_PEPTIDES, then-n-eq0-via-then-n-eq0, then-n-eq0-via-else-n-eq0+then-n-gt-MOST_LEAVES}

no2 : (c : Else-m-gt-MOST_PEPTIDES) → cause2 (family_of c.args.file.now).peptides ≡ false
no2 c = let s = c.args.file.now in from_peptides_counted (family_of s).peptides (omega (arith, peptides_read s)) (omega (arith, peptides_read s))

no3 : (c : Else-n-gt-MOST_LEAVES) → cause3 (family_of c.args.file.now) ≡ false
no3 c =
    let s = c.args.file.now in
    from_leaves_counted (family_of s) (omega (arith, leaves_read s)) (omega (arith, leaves_read s))

no4 : (c : Else-n-k) → cause4 (family_of c.args.file.now) ≡ false
no4 c = let s = c.args.file.now in from_regions_counted (family_of s) (omega (arith, leaves_read s, regions_read s))

pub returns-then-m-eq0 : goal.returns-then-m-eq0
returns-then-m-eq0 c =
    let s = c.args.file.now in
    sym (layout_2 _ s (passes _ (λ f.
    let k = peptides_counted (family_of s).peptides f in
    elim c.then-m-eq0.branch [
      | then-m-eq0-via-then-m-eq0 w ↦ omega (arith, k, w.if-m-eq0.true, peptides_read s)
      | then-m-eq0-via-else-m-eq0+then-m-gt-MOST_PEPTIDES w ↦ omega (arith, k, w.if-m-gt-MOST_PEPTIDES.true, peptides_read s)
    ])))

pub returns-then-n-eq0 : goal.returns-then-n-eq0
returns-then-n-eq0 c =
    let s = c.args.file.now in
    sym (layout_3 _ s (no2 (goal.at.returns-then-n-eq0 c).Else-m-gt-MOST_PEPTIDES) (passes _ (λ f.
    let k = leaves_counted (family_of s) f in
    elim c.then-n-eq0.branch [
      | then-n-eq0-via-then-n-eq0 w ↦ omega (arith, k, w.if-n-eq0.true, leaves_read s)
      | then-n-eq0-via-else-n-eq0+then-n-gt-MOST_LEAVES w ↦ omega (arith, k, w.if-n-gt-MOST_LEAVES.true, leaves_read s)
    ])))

pub returns-then-n-k : goal.returns-then-n-k
returns-then-n-k c =
    let s = c.args.file.now in
    let holds = passes (cause4 (family_of s)) (λ f. omega (arith, regions_counted (family_of s) f, leaves_read s, regions_read s)) in
    sym (layout_5 _ s (no2 (goal.at.returns-then-n-k c).Else-m-gt-MOST_PEPTIDES) (no3 (goal.at.returns-then-n-k c).Else-n-gt-MOST_LEAVES) ∙ rw holds)

pub returns-then-bad_layout : goal.returns-then-bad_layout
returns-then-bad_layout c =
    let s = c.args.file.now in
    sym (layout_5 _ s (no2 (goal.at.returns-then-bad_layout c).Else-m-gt-MOST_PEPTIDES) (no3 (goal.at.returns-then-bad_layout c).Else-n-gt-MOST_LEAVES) ∙ rw (no4 (goal.at.returns-then-bad_layout c).Else-n-k, ← c.bad_layout.ensures, c.if-bad_layout.true))

pub returns-else-bad_layout : goal.returns-else-bad_layout
returns-else-bad_layout c =
    let s = c.args.file.now in
    sym (layout_5 _ s (no2 (goal.at.returns-else-bad_layout c).Else-m-gt-MOST_PEPTIDES) (no3 (goal.at.returns-else-bad_layout c).Else-n-gt-MOST_LEAVES) ∙ rw (no4 (goal.at.returns-else-bad_layout c).Else-n-k, ← c.bad_layout.ensures, c.if-bad_layout.false))
