-- The taken bytes as they are found in file order, and the lists that the calls write.
use Prim.Native.Nat.{ℕ, zero, suc, ◌+◌, ◌-◌, ◌≤◌, ◌<◌}
use mathlib.Core.Bool.{Bool, true, false, cond}
use mathlib.Core.List.{List, ◌++◌}
use mathlib.Core.Logic.{◌⊎◌, inl, inr, ⊎_elim}
use mathlib.Core.Path.{◌≡◌, refl, sym, ap, ◌∙◌}
use native.Mathlib.Nat.{eq-or-lt_of_le, le_of_suc-le-suc}
use native.Mathlib.Numerals.{add-one}
use native.Mathlib.Omega.{arith}
use lib.Dec.{ltb}
use lib.ListN.{length, get_or, set, take, drop, length-map, length-drop, take-append-drop}
use lib.Seq.{ext_get_or, get_or-take, get_or-drop, length-take-le, take_all}
use borrow.Author.Tests.{ltb-true, lt-ltb}
use Rattle.reader.specs.Lists.{tabulate}
use Rattle.reader.specs.Family.{Family, region_count, region}
use Rattle.reader.specs.WellFormed.{WellFormed}
use Rattle.reader.proofs.Lists.{length_tabulate, get_d_tabulate, copy_more, tabulate_same}
use Rattle.bounds.specs.Ranges.{Range, Peptides, ranges_of, In, range_at}
use Rattle.bounds.specs.Bound.{total, full, is_taken, taken_bytes}
use Rattle.bounds.specs.Selections.{selected, taken_of, totals_of}
use Rattle.bounds.specs.Private.Rows.{Stored}
use Rattle.bounds.specs.Private.Takes.{takes, taken_until, taken_at, taken_along}
use Rattle.bounds.proofs.Basics.Members.{test, le_or_lt, clash, both_ways, and_l, and_r, and_both}
use Rattle.bounds.proofs.Basics.Nesting.{Inside, inside_trans, AtOrIn, widest}
use Rattle.bounds.proofs.Theory.Laminar.{line, line_around}
use Rattle.bounds.proofs.Theory.Taken.{Taken, taken_facts, taken_holds, full_facts, full_holds}
use Rattle.bounds.proofs.Theory.Family.{ranges_length, over_regions, range_z, of_region, range_in}
use Rattle.bounds.proofs.Summing.RowTotals.{inside_before, inside_block}

-- Lists written by their places.

-- a list whose first n elements are given, and the others as before
written_below : (n : ℕ) (g : ℕ → ℕ) (old new : List ℕ) → length new ≡ length old → n ≤ length old → ((k : ℕ) → k < n → get_or new k 0 ≡ g k)
    → ((k : ℕ) → n ≤ k → get_or new k 0 ≡ get_or old k 0) → new ≡ tabulate n g ++ drop n old
written_below n g old new e room front back = sym (take-append-drop n new) ∙ rw (fronts, backs)
  where
    fronts : take n new ≡ tabulate n g
    fronts =
        ext_get_or 0 (take n new) (tabulate n g) (length-take-le n new (omega arith) ∙ sym (length_tabulate n g))
        (λ k l. let h : k < n = omega (arith, length-take-le n new (omega arith)) in get_or-take n new k 0 h ∙ front k h ∙ sym (get_d_tabulate n g 0 k h))

    backs : drop n new ≡ drop n old
    backs =
        ext_get_or 0 (drop n new) (drop n old) (length-drop n new ∙ ap (λ (k : ℕ). k - n) e ∙ sym (length-drop n old))
        (λ k l. get_or-drop n new k 0 ∙ back (n + k) (omega arith) ∙ sym (get_or-drop n old k 0))

-- The inside totals as they are stored.
pub totals_written : (F : Family) (selection old new : List ℕ) → length new ≡ length old → region_count F ≤ length old
    → Stored F selection old new 0 (region_count F) → new ≡ totals_of F selection ++ drop (region_count F) old
unfolding totals_of
totals_written F selection old new e room s =
    let f = total F.peptides (ranges_of F) (selected selection) in
    written_below (region_count F) (λ k. f (range_at F k)) old new e room (λ k l. s.totals k (omega arith) l) (λ k h. s.others k (inr h))
    ∙ ap (λ (L : List ℕ). L ++ drop (region_count F) old) (sym (over_regions F f))

pub totals_length : (F : Family) (selection : List ℕ) → length (totals_of F selection) ≡ region_count F
unfolding totals_of
totals_length F selection = length-map (ranges_of F) (total F.peptides (ranges_of F) (selected selection)) ∙ ranges_length F

pub taken_length : (F : Family) (selection : List ℕ) → length (taken_of F selection) ≡ region_count F
unfolding taken_of taken_bytes
taken_length F selection =
    length-map (ranges_of F) (λ r. cond (is_taken F.peptides (ranges_of F) (selected selection) r) 1 0) ∙ ranges_length F

-- The taken regions in file order. T holds the inside totals.
module _ {F : Family} (w : WellFormed F) (S : Peptides) (T : List ℕ)
    (right : (k : ℕ) → k < region_count F → get_or T k 0 ≡ total F.peptides (ranges_of F) S (range_at F k)) where
  abbrev taken : ℕ → Bool
  taken k = is_taken F.peptides (ranges_of F) S (range_at F k)

  -- a full range is a taken region, or inside one
  full_in_taken : (q : Range) → In q (ranges_of F) → q.z < total F.peptides (ranges_of F) S q
      → (k : ℕ) × (k < region_count F) × (taken k ≡ true) × AtOrIn q (range_at F k)
  full_in_taken q i over =
      let m = F.peptides in
      let R = ranges_of F in
      let every = (line_around m R).every in
      let v = widest R (full m R S) (line m R) q i (full_holds m R S q over) (every q i) in
      let n = of_region F v.it v.member in
      let t : Taken m R S v.it =
      record { over = full_facts m R S v.it v.passes; outermost = λ x j n h. v.last x j (full_holds m R S x h) n (every x j) } in
      (n.at, n.few, rw n.is at (taken_holds t), rw n.is at v.around)

  -- what the last leaf of the latest taken region says of the first k
  record Until (k u : ℕ) : Type 0 where
    all : (i : ℕ) → i < k → taken i ≡ true → (region F i).last ≤ u
    latest : (u ≡ 0) ⊎ (i : ℕ) × (i < k) × (taken i ≡ true) × (u ≡ (region F i).last)

  module _ (k u : ℕ) (l : k < region_count F) (h : Until k u) where
    -- a region that begins after it is inside no full region,
    free : u < (region F k).first → (q : Range) → In q (ranges_of F) → Inside (range_at F k) q → q.z < total F.peptides (ranges_of F) S q → ⊥
    free less q i n over =
        let (t, lt, e, around) = full_in_taken q i over in
        let inner : Inside (range_at F k) (range_at F t) = ⊎_elim (λ same. rw same at n) (λ further. inside_trans n further) around in
        let (before, reach) = inside_before w k t l lt inner in
        omega (arith, h.all t before e)

    -- and one that begins no later is inside a taken one
    covered : (region F k).first ≤ u → taken k ≡ true → ⊥
    covered most e = ⊎_elim (λ z. omega (arith, w.ordered.first_some k l)) inner h.latest
      where
        inner : (i : ℕ) × (i < k) × (taken i ≡ true) × (u ≡ (region F i).last) → ⊥
        inner f =
            let i = f.0 in
            let own = taken_facts F.peptides (ranges_of F) S (range_at F i) f.2 in
            (taken_facts F.peptides (ranges_of F) S (range_at F k) e).outermost (range_at F i) (range_in F i (omega (arith, f.1)))
            (inside_block w k i f.1 l (omega (arith, f.3))) own.over

    begins : takes F k (get_or T k 0) u ≡ true → u < (region F k).first
    unfolding takes
    begins e = ltb-true u (region F k).first (and_l (ltb u (region F k).first) (ltb (region F k).z (get_or T k 0)) e)

    decides : takes F k (get_or T k 0) u ≡ taken k
    unfolding takes
    decides =
        both_ways (takes F k (get_or T k 0) u) (taken k)
        (λ e.
        let over = ltb-true (region F k).z (get_or T k 0) (and_r (ltb u (region F k).first) (ltb (region F k).z (get_or T k 0)) e) in
        taken_holds (record { over = omega (arith, right k l, range_z F k, over); outermost = free (begins e) }))
        (λ e.
        let t = taken_facts F.peptides (ranges_of F) S (range_at F k) e in
        and_both (ltb u (region F k).first) (ltb (region F k).z (get_or T k 0))
        (lt-ltb u (region F k).first (⊎_elim (λ most. absurd (covered most e)) (λ less. less) (le_or_lt (region F k).first u)))
        (lt-ltb (region F k).z (get_or T k 0) (omega (arith, right k l, range_z F k, t.over))))

    -- one region more
    until_more : Until (suc k) (cond (takes F k (get_or T k 0) u) (region F k).last u)
    until_more = ⊎_elim yes no (test (takes F k (get_or T k 0) u))
      where
        yes : takes F k (get_or T k 0) u ≡ true → Until (suc k) (cond (takes F k (get_or T k 0) u) (region F k).last u)
        yes e =
            rw e
            (record {
              all = λ i less t. ⊎_elim (λ q. rw q (omega arith)) (λ b. omega (arith, h.all i b t, begins e, w.ordered.first_last k l)) (eq-or-lt_of_le (le_of_suc-le-suc less));
              latest = inr (k, omega arith, sym decides ∙ e, refl);
            })

        no : takes F k (get_or T k 0) u ≡ false → Until (suc k) (cond (takes F k (get_or T k 0) u) (region F k).last u)
        no e =
            rw e
            (record {
              all = λ i less t. ⊎_elim (λ q. absurd (clash (rw q at t) (sym decides ∙ e))) (λ b. h.all i b t) (eq-or-lt_of_le (le_of_suc-le-suc less));
              latest = ⊎_elim inl (λ f. inr (f.0, omega (arith, f.1), f.2, f.3)) h.latest;
            })

  until_holds : (k : ℕ) → k ≤ region_count F → Until k (taken_until F T k)
  unfolding taken_until
  until_holds zero h = record { all = λ i l t. absurd (omega arith); latest = inl refl }
  until_holds (suc k) h = until_more k (taken_until F T k) h (until_holds k (omega arith))

  taken_at_lem : (k : ℕ) → k < region_count F → taken_at F T k ≡ cond (taken k) 1 0
  unfolding taken_at
  taken_at_lem k l = rw (decides k (taken_until F T k) l (until_holds k (omega arith)))

-- The bytes found along the file are the taken bytes.
pub taken_along_lem : {F : Family} → WellFormed F → (selection T : List ℕ)
    → ((k : ℕ) → k < region_count F → get_or T k 0 ≡ total F.peptides (ranges_of F) (selected selection) (range_at F k))
    → taken_along F T ≡ taken_of F selection
unfolding taken_along taken_of taken_bytes
taken_along_lem {F} w selection T right =
    let f : Range → ℕ = λ r. cond (is_taken F.peptides (ranges_of F) (selected selection) r) 1 0 in
    tabulate_same (region_count F) (taken_at F T) (λ k. f (range_at F k)) (taken_at_lem w (selected selection) T right) ∙ sym (over_regions F f)

-- One byte more.

pub until_next : (F : Family) (T : List ℕ) (k u : ℕ) → u ≡ cond (takes F k (get_or T k 0) (taken_until F T k)) (region F k).last (taken_until F T k)
    → u ≡ taken_until F T (k + 1)
unfolding taken_until
until_next F T k u e = rw add-one e

pub taken_next : (F : Family) (T old : List ℕ) (k b : ℕ) → k < region_count F → k < length old → b ≡ cond (takes F k (get_or T k 0) (taken_until F T k)) 1 0
    → set (take k (taken_along F T) ++ drop k old) k b ≡ take (k + 1) (taken_along F T) ++ drop (k + 1) old
unfolding taken_along taken_at
taken_next F T old k b l room e =
    let L = tabulate (region_count F) (taken_at F T) in
    rw (e ∙ sym (get_d_tabulate (region_count F) (taken_at F T) 0 k l)) (copy_more L old k (omega (arith, length_tabulate (region_count F) (taken_at F T))) room)

pub taken_all : (F : Family) (T : List ℕ) → take (region_count F) (taken_along F T) ≡ taken_along F T
unfolding taken_along
taken_all F T = take_all (region_count F) (tabulate (region_count F) (taken_at F T)) (omega (arith, length_tabulate (region_count F) (taken_at F T)))
