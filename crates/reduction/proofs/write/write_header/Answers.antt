-- The mark, and the numbers after it.
use Rattle.std.proofs.Common.{◌≡◌, ◌++◌, ◌+◌, ◌≤◌, ℕ, List, length, drop, sym, ap, ◌∙◌, arith}
use Rattle.std.proofs.lemmas.List.Edits.{sets, sets-eq}
use Rattle.reader.specs.Bytes.{bytes_of, with_numbers}
use Rattle.reader.proofs.NumberRows.{sets_join}
use Rattle.reduction.specs.Private.Writing.{header_numbers}
use Rattle.reduction.proofs.write.write_header.Goals as goal

placed : (out mark : List ℕ) → length mark ≡ 4 → 4 ≤ length out → mark ++ drop 4 out ≡ sets out 0 mark
placed out mark e h =
    let four : 0 + length mark ≡ 4 = omega arith in
    sym (sets-eq mark out 0 (omega arith) ∙ ap (λ (k : ℕ). mark ++ drop k out) four)

pub returns-clause-written : goal.returns-clause-written
unfolding with_numbers
returns-clause-written c =
    let a = c.args in
    let numbers = bytes_of (header_numbers a.m a.leaves a.regions a.lengths_at) in
    c.put_numbers.ensures
    ∙ ap (λ (l : List ℕ). sets l 4 numbers) (rw c.copy_from_slice.ensures.after (placed a.out.now a.mark.now c.told-mark (omega (arith, c.requires.room))))
    ∙ sets_join a.out.now 0 a.mark.now numbers 4 (omega (arith, c.told-mark))
