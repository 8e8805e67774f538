-- Under 16 bytes, or the first four bytes are not the mark.
use mathlib.Core.Bool.{not}
use mathlib.Core.Path.{sym, ap, ◌∙◌}
use lib.ListN.{length, take}
use borrow.Author.Tests.{lt-ltb}
use Rattle.reader.specs.Causes.{cause1}
use Rattle.reader.proofs.Lists.{pointwise_swap}
use Rattle.reader.proofs.Judged.{marked_so}
use Rattle.reader.proofs.causes.lacks_mark.Goals as goal

pub returns-then-file-lt16 : goal.returns-then-file-lt16
unfolding cause1
returns-then-file-lt16 c = rw (lt-ltb (length c.args.file.now) 16 c.if-file-lt16.true)

pub returns-else-file-lt16 : goal.returns-else-file-lt16
returns-else-file-lt16 c =
    let s = c.args.file.now in
    ap not (rw c.told-mark at c.starts_with.ensures.value ∙ pointwise_swap c.args.mark.now (take 4 s)) ∙ sym (marked_so c.args.mark.now s c.if-file-lt16.false)
