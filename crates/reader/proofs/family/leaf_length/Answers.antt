-- Leaf 0 and leaves past the last have length 0; the others stand in the file.
use native.Mathlib.Omega.{arith}
use mathlib.Core.Path.{sym, ◌∙◌}
use Rattle.reader.proofs.Parsed.{leaves_read, length_none, length_past, length_at_lem}
use Rattle.reader.proofs.family.leaf_length.Goals as goal
use Rattle.reader.proofs.family.leaf_length.Goals.{then-j-eq0-via-then-j-eq0, then-j-eq0-via-else-j-eq0+then-leaf_count-j}

pub returns-then-j-eq0 : goal.returns-then-j-eq0
returns-then-j-eq0 c =
    elim c.then-j-eq0.branch [
      | then-j-eq0-via-then-j-eq0 w ↦ sym (length_none _ _ w.if-j-eq0.true)
      | then-j-eq0-via-else-j-eq0+then-leaf_count-j w ↦ sym (length_past _ _ (omega (arith, w.if-leaf_count-j.true, w.leaf_count.ensures)))
    ]

pub returns : goal.returns
returns c =
    let s = c.args.file.now in
    c.number_at.ensures ∙ sym (length_at_lem s _ c.if-j-eq0.false (omega (arith, leaves_read s, c.if-leaf_count-j.false, c.leaf_count.ensures)))
