-- The bound along a path: the peptides that the greedy walk marks at each prefix.
use Prim.Native.Nat.{ℕ, suc, ◌+◌, ◌≤◌, ◌<◌}
use mathlib.Core.Bool.{false, not}
use mathlib.Core.List.{List, [], ◌∷◌, ◌++◌}
use mathlib.Core.Logic.{⊎_elim}
use mathlib.Core.Path.{◌≡◌, refl}
use native.Mathlib.Omega.{arith}
use lib.ListN.{length, get_or, take}
use lib.Seq.{take-suc}
use Rattle.bounds.specs.Ranges.{Range, card}
use Rattle.bounds.specs.Bound.{bound, Admissible}
use Rattle.bounds.proofs.Basics.Members.{clash, refuted, bit}
use Rattle.bounds.proofs.Basics.Counting.{Subset, none}
use Rattle.bounds.proofs.Theory.Laminar.{Laminar}
use Rattle.bounds.specs.Curves.{among}
use Rattle.bounds.proofs.Theory.Greedy.{respects_holds, respects_none, blocked, mark_card, among_holds, greedy, greedy_snoc, greedy_new, walked}
use Rattle.bounds.proofs.Theory.Formula.{walked_bound}

-- a walk from no peptide marks only peptides of the path
marks_among : (m : ℕ) (R : List Range) (ps : List ℕ) → Subset m (greedy m R none ps) (among ps)
marks_among m R ps p l u e = ⊎_elim (λ i. among_holds ps p i) (λ h. absurd (clash h refl)) (greedy_new m R none ps p e)

-- The peptides marked along a path are admissible,
pub path_admissible : (m : ℕ) (R : List Range) (ps : List ℕ) → Admissible m R (greedy m R none ps)
path_admissible m R ps = respects_holds m R (greedy m R none ps) (walked m R none ps (respects_none m R)).respects

-- they are as many as the bound of the path,
pub path_bound : {m : ℕ} {R : List Range} → Laminar m R → (ps : List ℕ) → card m (greedy m R none ps) ≡ bound m R (among ps)
path_bound {m} {R} l ps = walked_bound l (walked m R none ps (respects_none m R)) (marks_among m R ps)

-- and a next peptide, new to the path, is marked exactly if the bound grows.
pub path_step : {m : ℕ} {R : List Range} → Laminar m R → (ps : List ℕ) (p : ℕ) → 0 < p → p ≤ m → among ps p ≡ false
    → bound m R (among (ps ++ p ∷ [])) ≡ bound m R (among ps) + bit (not (blocked m R (greedy m R none ps) p))
path_step {m} {R} l ps p a b e =
    let G = greedy m R none ps in
    let fresh : G p ≡ false = refuted (G p) (λ h. clash (marks_among m R ps p a b h) e) in
    omega (arith, path_bound l ps, mark_card m R G p a b fresh, rw (greedy_snoc m R none ps p) at (path_bound l (ps ++ p ∷ [])))

-- The same by the place t on the path: entry t + 1 against entry t.
pub entry_step : {m : ℕ} {R : List Range} → Laminar m R → (ps : List ℕ) (t : ℕ) → t < length ps
    → 0 < get_or ps t 0 → get_or ps t 0 ≤ m → among (take t ps) (get_or ps t 0) ≡ false
    → bound m R (among (take (suc t) ps)) ≡ bound m R (among (take t ps)) + bit (not (blocked m R (greedy m R none (take t ps)) (get_or ps t 0)))
entry_step l ps t h a b e = rw (take-suc ps t 0 h) (path_step l (take t ps) (get_or ps t 0) a b e)
