-- The leaves of the reduced family: their number, their lengths, and the peptides up to a leaf.
use Prim.Native.Nat.{ℕ, zero, suc, ◌+◌, ◌-◌, ◌≤◌, ◌<◌}
use mathlib.Core.Bool.{Bool, true, false, cond}
use mathlib.Core.List.{List, [], ◌∷◌, ◌++◌, append-nil}
use mathlib.Core.Logic.{◌⊎◌, inl, inr, ⊎_elim}
use mathlib.Core.Path.{◌≡◌, refl}
use native.Mathlib.Omega.{arith}
use native.Mathlib.Nat.{eq-or-lt_of_le, eq-zero-or-pos}
use lib.ListN.{length, take, length-append}
use lib.Seq.{take_all, take-append-le}
use Rattle.reader.specs.Lists.{sum}
use Rattle.bounds.specs.Ranges.{Peptides, card, In}
use Rattle.bounds.proofs.Basics.Members.{test}
use Rattle.reduction.specs.Reduction.{rising, last_of, leaf_lengths}
use Rattle.reduction.proofs.Basics.Counts.{card_up}
use Rattle.reduction.proofs.Basics.FirstLast.{last_of_small, last_of_is}
use Rattle.reduction.proofs.Basics.Grid.{in_rising}

sum_append : (L M : List ℕ) → sum (L ++ M) ≡ sum L + sum M
unfolding sum
sum_append [] M = omega arith
sum_append (n ∷ L) M = omega (arith, sum_append L M)

-- What the number after p adds: nothing, or the leaf that ends there.
data Next (ends : Peptides) (p : ℕ) : Type 0 where
  same : ends (suc p) ≡ false → leaf_lengths (suc p) ends ≡ leaf_lengths p ends → card (suc p) ends ≡ card p ends
      → last_of (suc p) ends ≡ last_of p ends → Next ends p
  leaf : ends (suc p) ≡ true → leaf_lengths (suc p) ends ≡ leaf_lengths p ends ++ (suc p - last_of p ends) ∷ []
      → card (suc p) ends ≡ suc (card p ends) → last_of (suc p) ends ≡ suc p → Next ends p

next : (ends : Peptides) (p : ℕ) → Next ends p
unfolding leaf_lengths rising card last_of
next ends p =
    let down : suc p - 1 ≡ p = omega arith in
    ⊎_elim (λ t. leaf t (rw (t, down)) (rw t (omega arith)) (rw t)) (λ t. same t (rw t (append-nil _)) (rw t (omega arith)) (rw t))
    (test (ends (suc p)))

-- as many leaves as leaf ends
pub leaves_count : (ends : Peptides) (p : ℕ) → length (leaf_lengths p ends) ≡ card p ends
unfolding leaf_lengths rising card
leaves_count ends zero = refl
leaves_count ends (suc p) = go (next ends p) (leaves_count ends p)
  where
    go : Next ends p → length (leaf_lengths p ends) ≡ card p ends → length (leaf_lengths (suc p) ends) ≡ card (suc p) ends
    go (same t l c e) h = rw (l, c) h
    go (leaf t l c e) h = rw (l, c, length-append) (omega arith)

-- the leaves that end up to p have the peptides up to the last leaf end
leaves_sum : (ends : Peptides) (p : ℕ) → sum (leaf_lengths p ends) ≡ last_of p ends
unfolding leaf_lengths rising last_of sum
leaves_sum ends zero = refl
leaves_sum ends (suc p) = go (next ends p) (leaves_sum ends p)
  where
    go : Next ends p → sum (leaf_lengths p ends) ≡ last_of p ends → sum (leaf_lengths (suc p) ends) ≡ last_of (suc p) ends
    go (same t l c e) h = rw (l, e) h
    go (leaf t l c e) h = rw (l, e, sum_append) (omega (arith, last_of_small p ends))

-- the leaves that end up to p are the first ones
leaves_whole : (ends : Peptides) (p : ℕ) → take (card p ends) (leaf_lengths p ends) ≡ leaf_lengths p ends
leaves_whole ends p = take_all (card p ends) (leaf_lengths p ends) (omega (arith, leaves_count ends p))

leaves_prefix : (ends : Peptides) (p m : ℕ) → p ≤ m → take (card p ends) (leaf_lengths m ends) ≡ leaf_lengths p ends
leaves_prefix ends p zero h =
    let e : p ≡ 0 = omega arith in
    rw e (leaves_whole ends 0)
leaves_prefix ends p (suc m) h =
    ⊎_elim (λ e. rw e (leaves_whole ends (suc m))) (λ l. go l (next ends m) (leaves_prefix ends p m (omega arith))) (eq-or-lt_of_le h)
  where
    go : p < suc m → Next ends m → take (card p ends) (leaf_lengths m ends) ≡ leaf_lengths p ends
        → take (card p ends) (leaf_lengths (suc m) ends) ≡ leaf_lengths p ends
    go k (same t l c e) h = rw l h
    go k (leaf t l c e) h =
        let fits : card p ends ≤ length (leaf_lengths m ends) = omega (arith, leaves_count ends m, card_up ends p m (omega arith)) in
        rw (l, take-append-le) h

-- No leaf is empty.

leaf_positive : (ends : Peptides) (p l : ℕ) → 1 ≤ p → In l (cond (ends p) ((p - last_of (p - 1) ends) ∷ []) []) → 1 ≤ l
leaf_positive ends p l h i = go (ends p) i
  where
    go : (b : Bool) → In l (cond b ((p - last_of (p - 1) ends) ∷ []) []) → 1 ≤ l
    go true (inl e) = omega (arith, last_of_small (p - 1) ends)
    go true (inr j) = absurd j
    go false j = absurd j

pub leaves_positive : (ends : Peptides) (m l : ℕ) → In l (leaf_lengths m ends) → 1 ≤ l
unfolding leaf_lengths
leaves_positive ends m l i =
    let c = in_rising m (λ q. cond (ends q) ((q - last_of (q - 1) ends) ∷ []) []) l i in
    leaf_positive ends c.place l c.positive c.member

-- Peptide p is 0 or a leaf end: the leaves that end up to p have exactly the peptides 1 to p.
pub peptides_up_to_end : (ends : Peptides) (p m : ℕ) → p ≤ m → (p ≡ 0) ⊎ (ends p ≡ true) → sum (take (card p ends) (leaf_lengths m ends)) ≡ p
peptides_up_to_end ends p m h c = rw (leaves_prefix ends p m h, leaves_sum ends p) (⊎_elim none last c)
  where
    none : p ≡ 0 → last_of p ends ≡ p
    none e = omega (arith, last_of_small p ends)

    last : ends p ≡ true → last_of p ends ≡ p
    last t = ⊎_elim none (λ k. last_of_is p ends p k (omega arith) t (λ q l u v. u)) (eq-zero-or-pos p)
