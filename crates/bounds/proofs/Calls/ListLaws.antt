-- Lists of selections: where each stands in the buffer, what cause 14 of a list says of each, buffers that are joined of selections, and
-- what is charged.
use Prim.Native.Nat.{ℕ, zero, suc, ◌+◌, ◌-◌, ◌*◌, ◌/◌, ◌%◌, ◌≤◌, ◌<◌}
use mathlib.Core.Bool.{Bool, true, false, cond}
use mathlib.Core.List.{List, [], ◌∷◌, ◌++◌, flatten}
use mathlib.Core.Path.{◌≡◌, refl, sym, ap, ◌∙◌}
use native.Mathlib.Nat.{add-sub_cancel_left, mul-le-mul_right, add-mul, suc-mul, zero-mul, mul-zero, add_comm, mod-lt, div-add-mod', div-lt_iff_lt-mul}
use native.Mathlib.Omega.{arith}
use lib.Dec.{eqb, ltb}
use lib.ListN.{length, get_or, take, drop, length-drop, length-append}
use lib.Seq.{length-take-le, get_or-take, get_or-drop, drop-drop, take-append-le, drop-append-le, drop-append-add, take_at, drop_at}
use borrow.Author.Tests.{le-ltb, ne_eqb}
use Rattle.reader.proofs.Bools.{passes, clash}
use Rattle.reader.proofs.Below.{none_below}
use Rattle.bounds.specs.Selections.{cause14}
use Rattle.bounds.specs.SelectionLists.{selection_at, list_cause14, EachOf}
use Rattle.bounds.specs.Tally.{charge_of, added, cause25}
use Rattle.bounds.proofs.Calls.Selecting.{over_one, wrong_length, right_length, right_byte, right_selection}

-- The bytes of each selection.

factor_some : (n m : ℕ) {k : ℕ} → k < n * m → 0 < m
factor_some n zero l = omega (arith, mul-zero n)
factor_some n (suc m) l = omega arith

-- the places of selection i are among those of all
places : (m : ℕ) {i count : ℕ} → i < count → i * m + m ≤ count * m
places m {i} {count} l = omega (arith, suc-mul i m, mul-le-mul_right m l)

module _ (m : ℕ) (selections : List ℕ) where
  pub selection_whole : (i count : ℕ) → length selections ≡ count * m → i < count → length (selection_at m selections i) ≡ m
  unfolding selection_at
  selection_whole i count e l = length-take-le m (drop (i * m) selections) (omega (arith, places m l, length-drop (i * m) selections))

  -- the part of the buffer that begins after the selections before it
  pub selection_part : (i start : ℕ) → start ≡ i * m → take (start + m - start) (drop start selections) ≡ selection_at m selections i
  unfolding selection_at
  selection_part i start e = rw (e, add-sub_cancel_left (i * m) m)

  pub selection_ends : (i count start : ℕ) → length selections ≡ count * m → i < count → start ≡ i * m → start + m ≤ length selections
  selection_ends i count start whole l e = omega (arith, places m l)

  selection_byte : (i j : ℕ) → j < m → get_or (selection_at m selections i) j 0 ≡ get_or selections (i * m + j) 0
  unfolding selection_at
  selection_byte i j l = get_or-take m (drop (i * m) selections) j 0 l ∙ get_or-drop (i * m) selections j 0

  -- in a list for which cause 14 does not hold it holds for no selection
  pub each_selection : (i count : ℕ) → list_cause14 m selections count ≡ false → i < count → cause14 m (selection_at m selections i) ≡ false
  each_selection i count h l =
      let all : length selections ≡ count * m = right_length (count * m) selections h in
      let one : length (selection_at m selections i) ≡ m = selection_whole i count all l in
      right_selection m (selection_at m selections i) one
      (none_below (over_one (selection_at m selections i)) (length (selection_at m selections i))
      (λ j k. ap (ltb 1) (selection_byte i j (omega arith)) ∙ right_byte (count * m) selections h (i * m + j) (omega (arith, places m l))))

  -- and if it holds for none, it does not hold for the list
  list_if_each : (count : ℕ) → length selections ≡ count * m → ((i : ℕ) → i < count → cause14 m (selection_at m selections i) ≡ false)
      → list_cause14 m selections count ≡ false
  list_if_each count all each =
      right_selection (count * m) selections all (none_below (over_one selections) (length selections) (λ k l. at k (omega arith)))
    where
      at : (k : ℕ) → k < count * m → over_one selections k ≡ false
      at k l =
          let some : 0 < m = factor_some count m l in
          let i : k / m < count = (div-lt_iff_lt-mul some).1 l in
          let j : k % m < m = mod-lt k some in
          let one : length (selection_at m selections (k / m)) ≡ m = selection_whole (k / m) count all i in
          ap (λ (n : ℕ). over_one selections n) (sym (div-add-mod' k m))
          ∙ ap (ltb 1) (sym (selection_byte (k / m) (k % m) j))
          ∙ right_byte m (selection_at m selections (k / m)) (each (k / m) i) (k % m) (omega arith)

  -- if it holds for one, it holds for the list
  pub one_declines : (i count : ℕ) → i < count → cause14 m (selection_at m selections i) ≡ true → list_cause14 m selections count ≡ true
  one_declines i count l t = passes (list_cause14 m selections count) (λ f. clash t (each_selection i count f l))

-- a buffer of another length
pub wrong_buffer : (m : ℕ) (selections : List ℕ) (count : ℕ) → (length selections ≡ count * m → ⊥) → list_cause14 m selections count ≡ true
wrong_buffer m selections count h = wrong_length (count * m) selections h

-- The selections of two lists, the second after the first, are those of both together.
module _ (m n : ℕ) (front back : List ℕ) (whole : length front ≡ n * m) where
  pub front_selection : (i : ℕ) → i < n → selection_at m (front ++ back) i ≡ selection_at m front i
  unfolding selection_at
  front_selection i l =
      ap (take m) (drop-append-le (i * m) front back (omega (arith, places m l)))
      ∙ take-append-le m (drop (i * m) front) back (omega (arith, places m l, length-drop (i * m) front))

  pub back_selection : (j : ℕ) → selection_at m (front ++ back) (n + j) ≡ selection_at m back j
  unfolding selection_at
  back_selection j = rw (add-mul n j m, ← whole) (ap (take m) (drop-append-add front back (j * m)))

-- Selections that are joined to a list.

module _ (m : ℕ) where
  joined_length : (L : List (List ℕ)) → EachOf m L → length (flatten L) ≡ length L * m
  unfolding flatten
  joined_length [] all = sym (zero-mul m)
  joined_length (l ∷ L) all =
      omega
      (arith, length-append l (flatten L), all 0 (omega arith), joined_length L (λ i h. all (suc i) (omega arith)), suc-mul (length L) m)

  pub joined_at : (L : List (List ℕ)) → EachOf m L → (i : ℕ) → i < length L → selection_at m (flatten L) i ≡ get_or L i []
  unfolding flatten selection_at
  joined_at [] all i h = absurd (omega arith)
  joined_at (l ∷ L) all zero h = rw (zero-mul m) (take_at l (flatten L) m (all 0 h))
  joined_at (l ∷ L) all (suc i) h =
      rw (suc-mul i m, add_comm (i * m) m, ← drop-drop (i * m) m (l ++ flatten L), drop_at l (flatten L) m (all 0 (omega arith)))
      (joined_at L (λ k u. all (suc k) (omega arith)) i (omega arith))

  -- selections of which `bound` would decline none make a list for which cause 14 does not hold
  pub joined_list : (L : List (List ℕ)) → ((i : ℕ) → i < length L → cause14 m (get_or L i []) ≡ false) → list_cause14 m (flatten L) (length L) ≡ false
  joined_list L each =
      let all : EachOf m L = λ i l. right_length m (get_or L i []) (each i l) in
      list_if_each m (flatten L) (length L) (joined_length L all) (λ i l. ap (cause14 m) (joined_at L all i l) ∙ each i l)

-- What is charged.

pub charge_none : (K : ℕ) → charge_of K 0 ≡ 0
unfolding charge_of
charge_none K = refl

pub charge_some : (K count : ℕ) → 1 ≤ count → charge_of K count ≡ K
unfolding charge_of
charge_some K count h = rw (ne_eqb count 0 (λ e. omega arith))

pub charge_free : (count : ℕ) → charge_of 0 count ≡ 0
unfolding charge_of
charge_free count = go (eqb count 0)
  where
    go : (b : Bool) → ◌≡◌ {A = ℕ} (cond b 0 0) 0
    go true = refl
    go false = refl

-- a charge of 0 fits on every tally
pub nothing_added : (tally : ℕ) → tally ≤ 4294967295 → cause25 tally 0 ≡ false
unfolding cause25 added
nothing_added tally h = le-ltb 4294967295 (tally + 0) (omega arith)
