-- No more bytes count than were read.
use Rattle.std.proofs.Common.{arith, ◌≤◌, length, ℕ, ◌-◌}
use Rattle.std.specs.Prelude.{Result, Ok, Err}
use borrow.Rule.Slice.PartMut.{put_mid, same_len_mid}
use Rattle.curve.specs.Private.Reading.{counted}
use Rattle.curve.proofs.buffer.read_all.Goals as goal

few : {E : Type 0} (done : ℕ) (got : Result ℕ E) → counted done got ≤ done
few done (Ok k) = omega arith
few done (Err e) = omega arith

pub returns-in_default : goal.returns-in_default
returns-in_default g c =
    let l = c.loop-done in
    let less : c.ending.result ≤ l.done = rw c.ending.ensures (few _ _) in
    let kept = same_len_mid l.done (length l.bytes - l.done) l.bytes c.read.new.buf c.read.auto.buf in
    let fits : c.ending.result ≤ length (put_mid l.done (length l.bytes - l.done) l.bytes c.read.new.buf) = omega (arith, less, kept, l.invariant) in
    fits
