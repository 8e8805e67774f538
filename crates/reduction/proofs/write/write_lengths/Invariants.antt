-- The loop has written the lengths of the leaves that end before p.
use Rattle.std.proofs.Common.{◌≡◌, ◌+◌, ◌*◌, ◌-◌}
use Rattle.reader.specs.Bytes.{with_numbers}
use Rattle.bounds.specs.Ranges.{card}
use Rattle.reduction.specs.Reduction.{last_of, leaf_lengths}
use Rattle.reduction.specs.Private.Writing.{marked_in}
use Rattle.reduction.proofs.write.write_lengths.Given as goal

abbrev pub invariant-loop-p : goal.invariant-loop-p
invariant-loop-p l = record {
  last : l.last ≡ last_of (l.p - 1) (marked_in l.borders);
  at : l.at ≡ 16 + 2 * card (l.p - 1) (marked_in l.borders);
  written : l.out ≡ with_numbers l.initial.out 16 (leaf_lengths (l.p - 1) (marked_in l.borders));
}
