-- The walk along the leaf lengths: leaves passed at once, the lengths in a file, capped sums, and leaves counted.
use Rattle.std.proofs.Common.{◌≡◌, ℕ, zero, suc, ◌+◌, ◌-◌, ◌*◌, ◌/◌, ◌<◌, ◌≤◌, Bool, true, false, ltb, ◌⊎◌, List, length, get_or, set, drop, sum, min, sym, refl, ap, ◌∙◌, ap₂, inl, inr, ⊎_elim, add-one, arith, drop_of_length-le, ltb-false, ltb-true, le-ltb}
use Rattle.std.specs.Int.{from_bool}
use Rattle.std.proofs.Math.Nat.{mul-le-mul_left}
use Rattle.std.proofs.Math.ListN.{length-set}
use Rattle.std.proofs.Math.Seq.{get_or-set_same}
use Rattle.std.proofs.lemmas.List.Sums.{sum_by-set, get_or-le-sum_by}
use Rattle.reader.specs.Bytes.{number_at}
use Rattle.reader.specs.Family.{Family, family_of, leaves, leaf_after, leaf_of, peptides_up_to}
use Rattle.reader.proofs.Bools.{test}
use Rattle.reader.proofs.Parsed.{leaves_read, length_number}
use Rattle.reader.proofs.Walk.{walk_starts, walk_stops, walk_goes_on, up_to_next}
use Rattle.leaves.specs.Private.Walking.{added, Capped, Walked, FoundAfter, CountedTo}

module _ (F : Family) where
  pub walk_ends : (j p : ℕ) → leaves F ≤ j → leaf_after j (drop j F.lengths) p ≡ 0
  unfolding leaf_after
  walk_ends j p h = rw (drop_of_length-le F.lengths {i = j} h)

  -- n leaves that end before the peptide are passed at once; q is what they leave of its number
  pub walk_passes :
      (n j p q : ℕ) → j + n ≤ leaves F → p + peptides_up_to F j ≡ q + peptides_up_to F (j + n) → 1 ≤ q
      → leaf_after j (drop j F.lengths) p ≡ leaf_after (j + n) (drop (j + n) F.lengths) q
  walk_passes zero j p q l e some =
      let here : j ≡ j + 0 = omega arith in
      ap₂ (λ (i x : ℕ). leaf_after i (drop i F.lengths) x) here (omega (arith, e, ap (peptides_up_to F) here))
  walk_passes (suc n) j p q l e some =
      let length = get_or F.lengths (j + n) 0 in
      let next : j + n + 1 ≡ j + suc n = omega arith in
      let sums : peptides_up_to F (j + suc n) ≡ peptides_up_to F (j + n) + length = ap (peptides_up_to F) (sym next) ∙ up_to_next F (j + n) in
      walk_passes n j p (q + length) (omega arith) (omega (arith, e, sums)) (omega arith)
      ∙ walk_goes_on F (j + n) (q + length) (omega arith) (omega arith)
      ∙ ap₂ (λ (i x : ℕ). leaf_after i (drop i F.lengths) x) next (omega arith)

-- where two walks one after the other have come, the leaf of the peptide is to be found
pub walk_found : (s t u : List ℕ) {m n p i q j r a : ℕ} → t ≡ s → u ≡ t → Walked s m 0 p i q → Walked t n i q j r
    → FoundAfter (family_of u) j r a → a ≡ leaf_of (family_of s) p
walk_found s t u {p = p} e f w v h = (rw (f, e) at h) ∙ sym (walk_starts (family_of s) p ∙ w.same ∙ (rw e at v.same))

-- The lengths in a file.
module _ (s : List ℕ) where
  -- n lengths more
  pub added_more :
      (n j : ℕ) → j + n ≤ number_at s 6 → peptides_up_to (family_of s) (j + n) ≡ peptides_up_to (family_of s) j + added s (16 + 2 * j) n
  unfolding added
  added_more zero j l =
      let here : j + 0 ≡ j = omega arith in
      omega (arith, ap (peptides_up_to (family_of s)) here)
  added_more (suc n) j l =
      let next : j + suc n ≡ j + n + 1 = omega arith in
      let at : 16 + 2 * (j + n) ≡ 16 + 2 * j + 2 * n = omega arith in
      omega (
        arith,
        ap (peptides_up_to (family_of s)) next,
        up_to_next (family_of s) (j + n),
        length_number s (j + n) (omega arith),
        ap (number_at s) at,
        added_more n j (omega arith),
      )

  -- and n more after m of them
  pub added_on : (n at m : ℕ) → added s at (m + n) ≡ added s at m + added s (at + 2 * m) n
  unfolding added
  added_on zero at m = let here : m + 0 ≡ m = omega arith in omega (arith, ap (added s at) here)
  added_on (suc n) at m =
      let next : m + suc n ≡ suc (m + n) = omega arith in
      let there : at + 2 * (m + n) ≡ at + 2 * m + 2 * n = omega arith in
      ap (added s at) next ∙ omega (arith, added_on n at m, ap (number_at s) there)

  pub added_next : (at n : ℕ) → added s at (n + 1) ≡ added s at n + number_at s (at + 2 * n)
  unfolding added
  added_next at n = rw (add-one n) refl

  pub added_none : (at : ℕ) → added s at 0 ≡ 0
  unfolding added
  added_none at = refl

  -- one row of eight more
  pub row_more : (at row : ℕ) → added s at (8 * (row + 1)) ≡ added s at (8 * row) + added s (at + 16 * row) 8
  row_more at row =
      let next : 8 * (row + 1) ≡ 8 * row + 8 = omega arith in
      let there : at + 2 * (8 * row) ≡ at + 16 * row = omega arith in
      ap (added s at) next ∙ omega (arith, added_on 8 at (8 * row), ap (λ (o : ℕ). added s o 8) there)

-- Capped sums.

pub capped_as : {S T L R : ℕ} → S ≡ T → L ≡ R → Capped S L → Capped T R
capped_as e d h = record { most = omega (arith, h.most); exact = λ small. omega (arith, h.exact (omega arith)) }

pub capped_same : (S : ℕ) → Capped S S
capped_same S = record { most = omega arith; exact = λ _. refl }

-- one of the lanes takes a number, and stays at 65,535 where it would pass it
pub capped_lane : (lanes : List ℕ) (i x : ℕ) → i < length lanes
    → Capped (sum lanes + x) (sum (set lanes i (min (get_or lanes i 0 + x) 65535)))
capped_lane lanes i x l =
    let v : ℕ = min (get_or lanes i 0 + x) 65535 in
    let e : sum (set lanes i v) + get_or lanes i 0 ≡ sum lanes + v = sum_by-set (λ n. n) lanes i v 0 l in
    let here : get_or (set lanes i v) i 0 ≡ v = get_or-set_same lanes i v 0 l in
    let whole : v ≤ sum (set lanes i v) =
    omega (arith, here, get_or-le-sum_by (λ n. n) (set lanes i v) i 0 (omega (arith, length-set lanes i v))) in
    record { most = omega arith; exact = λ small. omega arith }

-- to a capped sum L of S the number X is added
pub capped_more : {S L R : ℕ} (X : ℕ) → Capped S L → Capped (L + X) R → Capped (S + X) R
capped_more X before here =
    record {
      most = omega (arith, before.most, here.most);
      exact = λ small. let sum = here.exact small in omega (arith, sum, before.exact (omega (arith, sum)));
    }

-- Blocks of w leaves, among x that are ahead.

pub blocks_ahead : (w x b : ℕ) → 1 ≤ w → b < x / w → w * (b + 1) ≤ x
blocks_ahead w x b some l = omega (arith, mul-le-mul_left w l)

pub bool_few : (b : Bool) → from_bool b ≤ 1
bool_few true = omega arith
bool_few false = omega arith

-- Counting the leaves up to which the lengths add to less than p.
module _ (s : List ℕ) (j p : ℕ) where
  abbrev F : Family
  F = family_of s

  -- the lengths of the i leaves after leaf j
  abbrev lengths : ℕ → ℕ
  lengths i = added s (16 + 2 * j) i

  pub counted_none : CountedTo F j p 0 (lengths 0) 0
  counted_none = inl (inr refl, refl)

  -- the leaf after i that do not reach p reaches it
  reached : (i : ℕ) → j + i < number_at s 6 → lengths i < p → p ≤ lengths (i + 1) → FoundAfter F j p (j + i + 1)
  reached i l less over =
      let at : 16 + 2 * (j + i) ≡ 16 + 2 * j + 2 * i = omega arith in
      let here = length_number s (j + i) l in
      let few = leaves_read s in
      sym
      (walk_passes F i j p (p - lengths i) (omega arith) (omega (arith, added_more s i j (omega arith))) (omega arith)
      ∙ walk_stops F (j + i) (p - lengths i) (omega arith) (omega (arith, here, ap (number_at s) at, added_next s (16 + 2 * j) i)))

  reached_first : (i : ℕ) → j + i < number_at s 6 → (lengths i < p) ⊎ (i ≡ 0) → p ≤ lengths (i + 1) → FoundAfter F j p (j + i + 1)
  unfolding added
  reached_first i l (inl less) over = reached i l less over
  reached_first i l (inr none) over =
      let start : lengths i ≡ 0 = ap lengths none in
      let few = leaves_read s in
      ⊎_elim
      (λ t. reached i l (omega (arith, start, ltb-true 0 p t)) over)
      (λ f.
      let here : j + i + 1 ≡ j + 1 = omega (arith, none) in
      here ∙ sym (walk_stops F j p (omega arith) (omega (arith, ltb-false 0 p f))))
      (test (ltb 0 p))

  pub counted_more :
      (i count one : ℕ) → j + i < number_at s 6 → one ≡ from_bool (ltb (lengths (i + 1)) p) → CountedTo F j p i (lengths i) count
      → CountedTo F j p (i + 1) (lengths (i + 1)) (count + one)
  counted_more i count one l o (inl (less, all)) =
      ⊎_elim
      (λ t.
      let counted : one ≡ 1 = o ∙ ap from_bool t in
      inl (inl (ltb-true (lengths (i + 1)) p t), omega (arith, counted, all)))
      (λ f.
      let over = ltb-false (lengths (i + 1)) p f in
      let none : one ≡ 0 = o ∙ ap from_bool f in
      let same : j + (count + one) + 1 ≡ j + i + 1 = omega (arith, none, all) in
      inr (over, omega (arith, none, all), same ∙ reached_first i l less over))
      (test (ltb (lengths (i + 1)) p))
  counted_more i count one l o (inr (over, few, found)) =
      let more : p ≤ lengths (i + 1) = omega (arith, over, added_next s (16 + 2 * j) i) in
      let none : one ≡ 0 = o ∙ ap from_bool (le-ltb (lengths (i + 1)) p more) in
      let same : j + (count + one) + 1 ≡ j + count + 1 = omega (arith, none) in
      inr (more, omega (arith, none, few), same ∙ found)

  -- where they add to p or more, the leaf is found
  pub counted_reached :
      (i count : ℕ) → 1 ≤ i → p ≤ lengths i → CountedTo F j p i (lengths i) count → (count < i) × FoundAfter F j p (j + count + 1)
  counted_reached i count some over (inl (inl less, all)) = absurd (omega (arith, less, over))
  counted_reached i count some over (inl (inr none, all)) = absurd (omega (arith, none, some))
  counted_reached i count some over (inr (reached, few, found)) = (few, found)

  -- where not all are counted, it is found too
  pub counted_some : (i count : ℕ) → count < i → CountedTo F j p i (lengths i) count → FoundAfter F j p (j + count + 1)
  counted_some i count fewer (inl (less, all)) = absurd (omega (arith, all, fewer))
  counted_some i count fewer (inr (reached, few, found)) = found

  -- and where all the last leaves are, there is none
  pub counted_last : (i count : ℕ) → j + i ≡ leaves F → count ≡ i → CountedTo F j p i (lengths i) count → FoundAfter F j p 0
  counted_last i count end all (inl (inl less, counted)) =
      let few = leaves_read s in
      sym
      (walk_passes F i j p (p - lengths i) (omega (arith, end)) (omega (arith, less, added_more s i j (omega (arith, end, few)))) (omega (arith, less))
      ∙ walk_ends F (j + i) (p - lengths i) (omega (arith, end)))
  counted_last i count end all (inl (inr none, counted)) = sym (walk_ends F j p (omega (arith, none, end)))
  counted_last i count end all (inr (reached, few, found)) = absurd (omega (arith, all, few))
