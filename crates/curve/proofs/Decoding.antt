-- The numbers of the path file, stored one by one.
use Prim.Native.Nat.{ℕ, ◌+◌, ◌*◌, ◌/◌, ◌<◌, ◌≤◌}
use native.Mathlib.Nat.{eq-or-lt_of_le}
use native.Mathlib.Omega.{arith}
use mathlib.Core.List.{List}
use mathlib.Core.Path.{◌≡◌, sym, ◌∙◌}
use mathlib.Core.Logic.{⊎_elim}
use lib.ListN.{length, get_or, take, set}
use lib.Seq.{ext_get_or, get_or-take, get_or-set_same, get_or-set_other, length-take-le}
use Rattle.reader.specs.Lists.{tabulate}
use Rattle.reader.specs.Bytes.{number_at}
use Rattle.reader.proofs.Lists.{length_tabulate, get_d_tabulate}
use Rattle.curve.specs.Program.{path_of}

-- the list holds f 0 to f (i - 1)
abbrev pub Holds : List ℕ → (ℕ → ℕ) → ℕ → Type 0
Holds l f i = (k : ℕ) → k < i → get_or l k 0 ≡ f k

pub holds_more : (l : List ℕ) (f : ℕ → ℕ) (i x : ℕ) → Holds l f i → i < length l → x ≡ f i → Holds (set l i x) f (i + 1)
holds_more l f i x old room e k h =
    ⊎_elim
    (λ q. rw q (get_or-set_same l i x 0 room ∙ e))
    (λ b. get_or-set_other l i k x 0 (λ q. omega arith) ∙ old k b)
    (eq-or-lt_of_le {m = i} (omega arith))

pub path_held : (bytes l : List ℕ) → Holds l (λ i. number_at bytes (2 * i)) (length bytes / 2) → length bytes / 2 ≤ length l → take (length bytes / 2) l ≡ path_of bytes
unfolding path_of
path_held bytes l h room =
    let n : ℕ = length bytes / 2 in
    let f : ℕ → ℕ = λ i. number_at bytes (2 * i) in
    ext_get_or 0 (take n l) (tabulate n f) (length-take-le n l room ∙ sym (length_tabulate n f))
    (λ k lk.
    let k-less : k < n = omega (arith, length-take-le n l room) in
    get_or-take n l k 0 k-less ∙ h k k-less ∙ sym (get_d_tabulate n f 0 k k-less))
