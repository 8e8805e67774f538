-- The one test of cause 6.
use Prim.Native.Nat.{ℕ}
use native.Mathlib.Omega.{arith}
use mathlib.Core.Bool.{not}
use mathlib.Core.Path.{◌≡◌, ap₂}
use lib.Dec.{eqb}
use Rattle.reader.specs.Lists.{sum}
use Rattle.reader.specs.Family.{family_of}
use Rattle.reader.specs.Causes.{cause6}
use Rattle.reader.proofs.Walk.{nothing_before, up_to_end}
use Rattle.reader.proofs.causes.bad_lengths.Goals as goal

pub returns : goal.returns
unfolding cause6
returns c =
    let F = family_of c.args.file.bytes.now in
    let all : c.added_lengths.result ≡ sum F.lengths = omega (arith, c.added_lengths.ensures, nothing_before F, up_to_end F c.leaf_count-leaves.result (omega (arith, c.leaf_count-leaves.ensures))) in
    ap₂ (λ (a b : ℕ). not (eqb a b)) all c.peptide_count.ensures
