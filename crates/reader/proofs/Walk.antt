-- The leaf of a peptide: the walk along the leaf lengths, and what it finds.
use Prim.Native.Nat.{ℕ, zero, suc, ◌+◌, ◌-◌, ◌<◌, ◌≤◌, min}
use native.Mathlib.Omega.{arith}
use native.Mathlib.Nat.{eq-or-lt_of_le}
use native.Mathlib.Numerals.{add-one}
use mathlib.Core.Path.{◌≡◌, refl, sym, ap, ◌∙◌}
use mathlib.Core.Logic.{⊎_elim}
use lib.ListN.{get_or, drop}
use lib.Seq.{drop-cons, take_all}
use lib.Dec.{leb, ltb}
use borrow.Author.Tests.{ltb-true, ltb-false, leb-true, leb-false, le-leb, lt-leb}
use Rattle.reader.specs.Lists.{sum}
use Rattle.reader.specs.Family.{Family, leaves, leaf_length, leaf_after, leaf_of, peptides_up_to}
use Rattle.reader.proofs.Bools.{test}
use Rattle.reader.proofs.Lists.{sum_take_suc, sum_take}
use Rattle.reader.proofs.Parsed.{length_leaf}

module _ (F : Family) where
  pub walk_starts : (p : ℕ) → leaf_of F p ≡ leaf_after 0 (drop 0 F.lengths) p
  unfolding leaf_of
  walk_starts p = refl

  pub walk_stops : (j p : ℕ) → j < leaves F → p ≤ get_or F.lengths j 0 → leaf_after j (drop j F.lengths) p ≡ j + 1
  unfolding leaf_after
  walk_stops j p l h = rw (drop-cons F.lengths j 0 l, le-leb p (get_or F.lengths j 0) h)

  pub walk_goes_on :
      (j p : ℕ) → j < leaves F → get_or F.lengths j 0 < p
      → leaf_after j (drop j F.lengths) p ≡ leaf_after (j + 1) (drop (j + 1) F.lengths) (p - get_or F.lengths j 0)
  unfolding leaf_after
  walk_goes_on j p l h = rw (drop-cons F.lengths j 0 l, lt-leb p (get_or F.lengths j 0) h, add-one j)

-- r is the first leaf up to which the lengths add to at least the peptide's number.
pub record FirstReaching (F : Family) (p r : ℕ) : Type 0 where
  pub some : 1 ≤ r
  pub leaf : r ≤ leaves F
  pub reaches : p ≤ peptides_up_to F r
  pub first : (j : ℕ) → j < r → peptides_up_to F j < p

module _ (F : Family) where
  pub up_to_next : (j : ℕ) → peptides_up_to F (j + 1) ≡ peptides_up_to F j + get_or F.lengths j 0
  unfolding peptides_up_to
  up_to_next j = rw add-one (sum_take_suc F.lengths j)

  pub up_to_end : (j : ℕ) → leaves F ≤ j → peptides_up_to F j ≡ sum F.lengths
  unfolding peptides_up_to
  up_to_end j h = ap sum (take_all j F.lengths h)

  -- more leaves have no fewer peptides
  pub up_to_mono : (i j : ℕ) → i ≤ j → peptides_up_to F i ≤ peptides_up_to F j
  unfolding peptides_up_to
  up_to_mono i j h = sum_take i j F.lengths h

  -- the peptides of the leaves after one and up to j, and of the next one too
  pub between_more : (after j sum : ℕ) → after ≤ j → sum ≡ peptides_up_to F j - peptides_up_to F after → sum + get_or F.lengths j 0 ≡ peptides_up_to F (j + 1) - peptides_up_to F after
  between_more after j sum l e = omega (arith, up_to_next j, up_to_mono after j l)

  -- leaves from the last one on add nothing
  pub up_to_within : (j n : ℕ) → n ≡ min j (leaves F) → peptides_up_to F n ≡ peptides_up_to F j
  up_to_within j n e =
      ⊎_elim (λ t. ap (peptides_up_to F) (omega (arith, e, leb-true j (leaves F) t))) (λ f. up_to_end n (omega (arith, e, leb-false j (leaves F) f)) ∙ sym (up_to_end j (omega (arith, leb-false j (leaves F) f))))
      (test (leb j (leaves F)))

  -- one leaf more
  pub up_to_leaf : (j : ℕ) → peptides_up_to F (j + 1) ≡ peptides_up_to F j + leaf_length F (j + 1)
  up_to_leaf j = rw (add-one, length_leaf F j) (rw add-one at (up_to_next j))

  pub nothing_before : peptides_up_to F 0 ≡ 0
  unfolding peptides_up_to sum
  nothing_before = refl

  at_start_lem : {p : ℕ} → 1 ≤ p → (i : ℕ) → i ≤ 0 → peptides_up_to F i < p
  at_start_lem some zero h = omega (arith, nothing_before)
  at_start_lem some (suc i) h = absurd (omega arith)

  -- the walk from leaf j on, with n leaves left at most and q of the peptide's number
  walk_finds :
      (n p j q : ℕ) → leaves F ≤ j + n → p ≡ peptides_up_to F j + q → 1 ≤ q → p ≤ sum F.lengths
      → ((i : ℕ) → i ≤ j → peptides_up_to F i < p) → FirstReaching F p (leaf_after j (drop j F.lengths) q)
  walk_finds zero p j q few here some most before = absurd (omega (arith, up_to_end j (omega arith)))
  walk_finds (suc n) p j q few here some most before =
      ⊎_elim
      (λ t.
      let l : j < leaves F = ltb-true j (leaves F) t in
      ⊎_elim
      (λ u.
      rw (walk_stops F j q l (leb-true q (get_or F.lengths j 0) u))
      record {
        some = omega arith;
        leaf = omega arith;
        reaches = omega (arith, up_to_next j, leb-true q (get_or F.lengths j 0) u);
        first = λ i h. before i (omega arith);
      })
      (λ u.
      let over = leb-false q (get_or F.lengths j 0) u in
      let next = up_to_next j in
      rw (walk_goes_on F j q l over)
      (walk_finds n p (j + 1) (q - get_or F.lengths j 0) (omega arith) (omega arith) (omega arith) most
      (λ i h. ⊎_elim (λ e. rw e (omega arith)) (λ d. before i (omega arith)) (eq-or-lt_of_le h))))
      (test (leb q (get_or F.lengths j 0))))
      (λ f. absurd (omega (arith, up_to_end j (ltb-false j (leaves F) f))))
      (test (ltb j (leaves F)))

  -- the leaf of a peptide is the first one up to which the lengths add to at least the peptide's number
  pub leaf_found : (p : ℕ) → 1 ≤ p → p ≤ sum F.lengths → FirstReaching F p (leaf_of F p)
  leaf_found p some most =
      rw (walk_starts F p)
      (walk_finds (leaves F) p 0 p (omega arith) (omega (arith, nothing_before)) some most (at_start_lem some))

  -- and that leaf has a peptide
  pub leaf_not_empty : (p : ℕ) → 1 ≤ p → p ≤ sum F.lengths → 1 ≤ leaf_length F (leaf_of F p)
  leaf_not_empty p some most = go (leaf_of F p) (leaf_found p some most)
    where
      go : (r : ℕ) → FirstReaching F p r → 1 ≤ leaf_length F r
      go zero h = absurd (omega (arith, h.some))
      go (suc j) h = omega (arith, h.reaches, h.first j (omega arith), rw add-one at (up_to_next j), length_leaf F j)
