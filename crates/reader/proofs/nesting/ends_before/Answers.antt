-- There is no region of the number 0; any other is the one before it in counting from 0.
use mathlib.Core.Path.{ap}
use Prim.Native.Nat.{ℕ, ◌-◌}
use lib.Dec.{ltb}
use borrow.Author.Tests.{ne_eqb}
use Rattle.reader.specs.Family.{family_of, region}
use Rattle.reader.specs.Private.Climb.{ends_before}
use Rattle.reader.proofs.Parsed.{held_last}
use Rattle.reader.proofs.nesting.ends_before.Goals as goal

pub returns-then-number-ne0 : goal.returns-then-number-ne0
unfolding ends_before
returns-then-number-ne0 c =
    let s = c.args.file.bytes.now in
    let k = c.args.number - 1 in
    rw (ne_eqb c.args.number 0 c.if-number-ne0.true) (ap (λ (l : ℕ). ltb l c.args.leaf.0) (held_last _ (region (family_of s) k) c.region.ensures))

pub returns-else-number-ne0 : goal.returns-else-number-ne0
unfolding ends_before
returns-else-number-ne0 c = rw c.if-number-ne0.false
