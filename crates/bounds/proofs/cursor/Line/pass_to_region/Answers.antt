-- The next region begins after the leaf passed.
use Prim.Native.Nat.{ℕ, ◌-◌}
use native.Mathlib.Omega.{arith}
use mathlib.Core.Path.{◌≡◌, ap}
use Rattle.reader.specs.Family.{family_of, region}
use Rattle.reader.proofs.Parsed.{held_first}
use Rattle.bounds.proofs.Basics.Known.{is_ready}
use Rattle.bounds.proofs.Summing.RowWalk.{passed_to}
use Rattle.bounds.proofs.cursor.Line.pass_to_region.Goals as goal
use Rattle.bounds.proofs.cursor.Line.pass_to_region.Goals.{Start}

first_read : (c : Start) → c.args.next.first.0 ≡ (region (family_of c.args.self.now.file.now) c.args.from.region).first
first_read c = held_first _ _ c.requires.next_value

pub overflow_sub-next : goal.overflow_sub-next
overflow_sub-next c =
    omega (arith, first_read (goal.at.overflow_sub-next c).Start, c.requires.ahead)

pub pass-requires-clause-forward : goal.pass-requires-clause-forward
pass-requires-clause-forward c =
    omega (arith, first_read (goal.at.pass-requires-clause-forward c).Start, c.requires.ahead)

pub pass-requires-clause-on_line : goal.pass-requires-clause-on_line
pass-requires-clause-on_line c =
    let o = (is_ready c.args.self.now.ready).formed.ordered in
    let k = c.args.from.region in
    let some = c.requires.some_region in
    omega (arith, first_read (goal.at.pass-requires-clause-on_line c).Start, o.first_last k some, o.last_leaf k some)

pub returns : goal.returns
returns c =
    passed_to (ap (λ (n : ℕ). n - 1) (first_read (goal.at.returns c).Start)) c.pass.ensures
