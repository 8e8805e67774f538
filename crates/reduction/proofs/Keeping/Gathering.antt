-- The list of the reduced ranges, while it is written: one run or one stretch more, and the end.
use Prim.Native.Nat.{ℕ, suc, ◌+◌, ◌-◌, ◌≤◌, ◌<◌}
use mathlib.Core.Bool.{Bool, true, false, not, cond, ◌&&◌, ◌||◌}
use mathlib.Core.List.{List, [], ◌∷◌, ◌++◌, map}
use mathlib.Core.Logic.{◌⊎◌, inl, inr, ⊎_elim}
use mathlib.Core.Path.{◌≡◌, refl, sym, ◌∙◌, ap, subst}
use native.Mathlib.Nat.{eq-or-lt_of_le}
use native.Mathlib.Omega.{arith}
use lib.Dec.{ltb, eqb}
use lib.ListN.{length, get_or, set, length-append}
use lib.Seq.{set_at, append_snoc}
use borrow.Author.Tests.{ltb-true, lt-ltb, eqb-true, eq-eqb}
use Rattle.reader.specs.Family.{Family, region_count, family_of}
use Rattle.reader.specs.WellFormed.{WellFormed}
use Rattle.reader.proofs.Bools.{not_passes}
use Rattle.reader.proofs.Below.{some_at, found}
use Rattle.bounds.specs.Ranges.{Range, Peptides, ranges_of, those, In}
use Rattle.bounds.specs.Selections.{selected}
use Rattle.bounds.proofs.Basics.Members.{test, clash, refuted, and_l, and_r, and_both, or_l, or_r, or_either, both_ways, in_append, in_those, those_in, those_same, le_or_lt}
use Rattle.bounds.proofs.Theory.Family.{ranges_length}
use Rattle.reduction.specs.declared.keep.Ranges.{Ranges}
use Rattle.reduction.specs.Reduction.{piece, live}
use Rattle.reduction.specs.Private.Steps.{Begins, live_bytes, reduced_ranges, Listed}
use Rattle.reduction.specs.Private.Keeping.{first_at, last_at, SameStretch, Keeps, KeptMarked, begins_run, RunTo, of_first, with_runs, Gathered, GatheredIn, Passed, WithStretches, Whole, SameArrays}
use Rattle.reduction.proofs.Basics.Unless.{lt_unless}
use Rattle.reduction.proofs.Basics.Grid.{Precedes, FileOrder, append_l, append_r, those_ordered, ordered_same}
use Rattle.reduction.proofs.Theory.Stretches.{stretches_facts}
use Rattle.reduction.proofs.Theory.Runs.{DeadRun, run_same, run_end}
use Rattle.reduction.proofs.Theory.Reduced.{Written, run, kept, reduced_facts, reduced_holds, reduced_ordered}
use Rattle.reduction.proofs.Theory.RunOrStretch.{plain, first}
use Rattle.reduction.proofs.Theory.Smallest.{reduced_count}
use Rattle.reduction.proofs.Keeping.HandedOn.{lives_same}
use Rattle.reduction.proofs.Keeping.StretchPlaces.{stretch_of, bound_some, stretch_order}
use Rattle.reduction.proofs.Keeping.Marking.{keeps_reduced, reduced_kept}

-- Arrays that stay the same.

pub same_trans : {a b c : Ranges} → SameArrays a b → SameArrays b c → SameArrays a c
same_trans h i = record { from = i.from ∙ h.from; to = i.to ∙ h.to; bounds = i.bounds ∙ h.bounds }

-- Lists.

snoc_ordered : (E : List Range) (x : Range) → FileOrder E → ((y : Range) → In y E → Precedes y x) → FileOrder (E ++ (x ∷ []))
snoc_ordered [] x o h = (λ y i. absurd i, tt)
snoc_ordered (u ∷ E) x o h =
    (λ y i. ⊎_elim (o.0 y) (λ j. ⊎_elim (λ e. rw e (h u (inl refl))) (λ k. absurd k) j) (in_append y E (x ∷ []) i), snoc_ordered E x o.1 (λ y i. h y (inr i)))

-- one element more of a list in file order passes, after all those that passed already
those_more : (t u : Range → Bool) (L : List Range) (x : Range) → FileOrder L → In x L → u x ≡ true
    → ((y : Range) → In y L → t y ≡ true → (u y ≡ true) × Precedes y x) → ((y : Range) → In y L → u y ≡ true → (t y ≡ true) ⊎ (y ≡ x))
    → those u L ≡ those t L ++ (x ∷ [])
those_more t u L x o i e old new =
    ordered_same (those u L) (those t L ++ (x ∷ [])) (those_ordered u L o)
    (snoc_ordered (those t L) x (those_ordered t L o) (λ y j. let f = those_in t L y j in (old y f.0 f.1).1)) there back
  where
    there : (y : Range) → In y (those u L) → In y (those t L ++ (x ∷ []))
    there y j =
        let f = those_in u L y j in
        ⊎_elim (λ d. append_l y (those t L) (x ∷ []) (in_those t L y f.0 d)) (λ d. append_r y (those t L) (x ∷ []) (inl d)) (new y f.0 f.1)

    back : (y : Range) → In y (those t L ++ (x ∷ [])) → In y (those u L)
    back y j =
        ⊎_elim (λ k. let f = those_in t L y k in in_those u L y f.0 (old y f.0 f.1).0) (λ k. ⊎_elim (λ d. rw d (in_those u L x i e)) (λ d. absurd d) k)
        (in_append y (those t L) (x ∷ []) j)

those_none : (t : Range → Bool) (L : List Range) → ((x : Range) → In x L → t x ≡ true → ⊥) → those t L ≡ []
unfolding those
those_none t [] h = refl
those_none t (x ∷ L) h = rw (refuted (t x) (h x (inl refl))) (those_none t L (λ y i. h y (inr i)))

those_all : (t : Range → Bool) (L : List Range) → ((x : Range) → In x L → t x ≡ true) → those t L ≡ L
unfolding those
those_all t [] h = refl
those_all t (x ∷ L) h = rw (h x (inl refl)) (ap (λ (M : List Range). x ∷ M) (those_all t L (λ y i. h y (inr i))))

those_short : (t : Range → Bool) (L : List Range) → length (those t L) ≤ length L
unfolding those
those_short t [] = omega arith
those_short t (x ∷ L) = go (t x) (those_short t L)
  where
    go : (b : Bool) → length (those t L) ≤ length L → length (cond b (x ∷ those t L) (those t L)) ≤ suc (length L)
    go true h = omega arith
    go false h = omega arith

map_snoc : (f : Range → ℕ) (E : List Range) (x : Range) → map f (E ++ (x ∷ [])) ≡ map f E ++ (f x ∷ [])
map_snoc f [] x = refl
map_snoc f (y ∷ E) x = ap (λ (l : List ℕ). f y ∷ l) (map_snoc f E x)

map_length : (f : Range → ℕ) (E : List Range) → length (map f E) ≡ length E
map_length f [] = refl
map_length f (y ∷ E) = ap suc (map_length f E)

-- one element more is written
begins_more : (L A : List ℕ) (n x : ℕ) → length L ≡ n → n < length A → Begins L A → Begins (L ++ (x ∷ [])) (set A n x)
begins_more L A n x e h b = go b.0 b.1
  where
    go : (rest : List ℕ) → A ≡ L ++ rest → Begins (L ++ (x ∷ [])) (set A n x)
    go [] q = absurd (omega (arith, ap length q, length-append L []))
    go (y ∷ rest) q = (rest, rw q (set_at L y rest x n e ∙ sym (append_snoc L x rest)))

module _ (F : Family) where
  -- The reduced ranges, with the tests that choose those listed.

  ordered : FileOrder (reduced_ranges F)
  unfolding reduced_ranges
  ordered = reduced_ordered F.peptides (ranges_of F)

  few : (t : Range → Bool) → length (those t (reduced_ranges F)) ≤ region_count F
  unfolding reduced_ranges
  few t = omega (arith, those_short t (reduced_ranges F), reduced_count F.peptides (ranges_of F), ranges_length F)

  starts : (x : Range) → In x (reduced_ranges F) → 1 ≤ x.from
  unfolding reduced_ranges
  starts x i = first F.peptides (ranges_of F) x i

  ends : (x : Range) → In x (reduced_ranges F) → x.from ≤ F.peptides
  unfolding reduced_ranges
  ends x i = let p = plain F.peptides (ranges_of F) x i in omega arith

  -- what begins dead is a run
  is_run : (x : Range) → In x (reduced_ranges F) → live (ranges_of F) x.from ≡ false → (e : ℕ) × DeadRun F.peptides (live (ranges_of F)) x.from e × (x ≡ piece x.from e 0)
  unfolding reduced_ranges
  is_run x i d = go (reduced_facts F.peptides (ranges_of F) x i)
    where
      go : Written F.peptides (ranges_of F) x → (e : ℕ) × DeadRun F.peptides (live (ranges_of F)) x.from e × (x ≡ piece x.from e 0)
      go (run a b r e) = (b, rw e r, rw e)
      go (kept j y) = absurd (clash (stretches_facts F.peptides (ranges_of F) x j).stretch.first_live d)

  run_in : (p e : ℕ) → DeadRun F.peptides (live (ranges_of F)) p e → In (piece p e 0) (reduced_ranges F)
  unfolding reduced_ranges
  run_in p e r = reduced_holds F.peptides (ranges_of F) (piece p e 0) (run p e r refl)

  module _ (t : Range → Bool) (q : ℕ) (x : Range) where
    of_run : live (ranges_of F) x.from ≡ false → with_runs F t q x ≡ ltb x.from q
    unfolding with_runs
    of_run e = rw e

    of_stretch : live (ranges_of F) x.from ≡ true → with_runs F t q x ≡ t x
    unfolding with_runs
    of_stretch e = rw e

  -- the same ranges, chosen by another test
  gathered_same : (t u : Range → Bool) (p q n : ℕ) (A B Z : List ℕ) → ((x : Range) → In x (reduced_ranges F) → with_runs F t p x ≡ with_runs F u q x)
      → ((x : Range) → In x (reduced_ranges F) → live (ranges_of F) x.from ≡ true → u x ≡ true → x.from < q)
      → Gathered F t p n A B Z → Gathered F u q n A B Z
  gathered_same t u p q n A B Z h k g =
      let e = those_same (with_runs F t p) (with_runs F u q) (reduced_ranges F) h in
      record { number = rw e at g.number; firsts = rw e at g.firsts; lasts = rw e at g.lasts; bounds = rw e at g.bounds; earlier = k }

  -- one range more is written
  module _ (t u : Range → Bool) (p q n : ℕ) (A B Z : List ℕ) (x : Range)
      (more : those (with_runs F u q) (reduced_ranges F) ≡ those (with_runs F t p) (reduced_ranges F) ++ (x ∷ [])) (g : Gathered F t p n A B Z) where
    one_more : length (those (with_runs F u q) (reduced_ranges F)) ≡ n + 1
    one_more = rw more (omega (arith, length-append (those (with_runs F t p) (reduced_ranges F)) (x ∷ []), g.number))

    room_more : n < region_count F
    room_more = omega (arith, one_more, few (with_runs F u q))

    column : (f : Range → ℕ) (C : List ℕ) → region_count F ≤ length C → Begins (map f (those (with_runs F t p) (reduced_ranges F))) C
        → Begins (map f (those (with_runs F u q) (reduced_ranges F))) (set C n (f x))
    column f C h b =
        rw (more, map_snoc f (those (with_runs F t p) (reduced_ranges F)) x)
        (begins_more (map f (those (with_runs F t p) (reduced_ranges F))) C n (f x) (map_length f (those (with_runs F t p) (reduced_ranges F)) ∙ sym g.number) (omega (arith, room_more)) b)

    gathered_more : region_count F ≤ length A → region_count F ≤ length B → region_count F ≤ length Z
        → ((y : Range) → In y (reduced_ranges F) → live (ranges_of F) y.from ≡ true → u y ≡ true → y.from < q)
        → Gathered F u q (n + 1) (set A n x.from) (set B n x.to) (set Z n x.z)
    gathered_more a b z k =
        record {
          number = sym one_more;
          firsts = column (λ y. y.from) A a g.firsts;
          lasts = column (λ y. y.to) B b g.lasts;
          bounds = column (λ y. y.z) Z z g.bounds;
          earlier = k;
        }

  -- One peptide more.

  module _ (t : Range → Bool) (p n : ℕ) (A B Z : List ℕ) (g : Gathered F t p n A B Z) where
    still : (x : Range) → In x (reduced_ranges F) → live (ranges_of F) x.from ≡ true → t x ≡ true → x.from < p + 1
    still x i l e = omega (arith, g.earlier x i l e)

    no_run : ((e : ℕ) → DeadRun F.peptides (live (ranges_of F)) p e → ⊥) → Gathered F t (p + 1) n A B Z
    no_run none = gathered_same t t p (p + 1) n A B Z (λ x i. ⊎_elim (λ l. of_stretch t p x l ∙ sym (of_stretch t (p + 1) x l)) (dead x i) (test (live (ranges_of F) x.from))) still g
      where
        dead : (x : Range) → In x (reduced_ranges F) → live (ranges_of F) x.from ≡ false → with_runs F t p x ≡ with_runs F t (p + 1) x
        dead x i l =
            let r = is_run x i l in
            of_run t p x l
            ∙ both_ways (ltb x.from p) (ltb x.from (p + 1)) (λ e. lt-ltb x.from (p + 1) (omega (arith, ltb-true x.from p e)))
            (λ e. lt-ltb x.from p (lt_unless x.from p (λ k. let q : x.from ≡ p = omega (arith, ltb-true x.from (p + 1) e) in none r.0 (subst (λ (a : ℕ). DeadRun F.peptides (live (ranges_of F)) a r.0) q r.1))))
            ∙ sym (of_run t (p + 1) x l)

    module _ (e : ℕ) (r : DeadRun F.peptides (live (ranges_of F)) p e) where
      begins_dead : live (ranges_of F) p ≡ false
      begins_dead = r.dead p (omega arith) r.order

      run_listed : those (with_runs F t (p + 1)) (reduced_ranges F) ≡ those (with_runs F t p) (reduced_ranges F) ++ (piece p e 0 ∷ [])
      run_listed =
          those_more (with_runs F t p) (with_runs F t (p + 1)) (reduced_ranges F) (piece p e 0) ordered (run_in p e r)
          (of_run t (p + 1) (piece p e 0) begins_dead ∙ lt-ltb p (p + 1) (omega arith)) old new
        where
          old : (y : Range) → In y (reduced_ranges F) → with_runs F t p y ≡ true → (with_runs F t (p + 1) y ≡ true) × Precedes y (piece p e 0)
          old y i d =
              ⊎_elim
              (λ l. let s = sym (of_stretch t p y l) ∙ d in (of_stretch t (p + 1) y l ∙ s, inl (g.earlier y i l s)))
              (λ l. let s = ltb-true y.from p (sym (of_run t p y l) ∙ d) in (of_run t (p + 1) y l ∙ lt-ltb y.from (p + 1) (omega arith), inl s))
              (test (live (ranges_of F) y.from))

          new : (y : Range) → In y (reduced_ranges F) → with_runs F t (p + 1) y ≡ true → (with_runs F t p y ≡ true) ⊎ (y ≡ piece p e 0)
          new y i d = ⊎_elim (λ l. inl (of_stretch t p y l ∙ (sym (of_stretch t (p + 1) y l) ∙ d))) dead (test (live (ranges_of F) y.from))
            where
              same : live (ranges_of F) y.from ≡ false → y.from ≡ p → y ≡ piece p e 0
              same l q =
                  let (b, c, is) = is_run y i l in
                  let s = subst (λ (a : ℕ). DeadRun F.peptides (live (ranges_of F)) a b) q c in
                  let end : b ≡ e = omega (arith, run_end r s r.order, run_end s r s.order) in
                  is ∙ (ap (λ (a : ℕ). piece a b 0) q ∙ ap (λ (a : ℕ). piece p a 0) end)

              dead : live (ranges_of F) y.from ≡ false → (with_runs F t p y ≡ true) ⊎ (y ≡ piece p e 0)
              dead l =
                  ⊎_elim (λ q. inr (same l q)) (λ k. inl (of_run t p y l ∙ lt-ltb y.from p k))
                  (eq-or-lt_of_le (omega (arith, ltb-true y.from (p + 1) (sym (of_run t (p + 1) y l) ∙ d))))

      run_room : n < region_count F
      run_room = room_more t t p (p + 1) n A B Z (piece p e 0) run_listed g

      run_more : region_count F ≤ length A → region_count F ≤ length B → region_count F ≤ length Z
          → Gathered F t (p + 1) (n + 1) (set A n p) (set B n e) (set Z n 0)
      run_more a b z = gathered_more t t p (p + 1) n A B Z (piece p e 0) run_listed g a b z still

-- The tests that the code makes.

run_begins : {m : ℕ} (X : Peptides) (p e : ℕ) → 1 ≤ p → begins_run X p ≡ true → RunTo m X p e → DeadRun m X p e
unfolding begins_run
run_begins X p e h b r =
    let left = or_either (eqb p 1) (X (p - 1)) (and_r (not (X p)) (eqb p 1 || X (p - 1)) b) in
    record { positive = h; order = r.order; small = r.small; dead = r.dead; left = ⊎_elim (λ t. inl (eqb-true p 1 t)) inr left; right = r.right }

begins_run_lem : {m : ℕ} (X : Peptides) (p e : ℕ) → begins_run X p ≡ false → DeadRun m X p e → ⊥
unfolding begins_run
begins_run_lem X p e b r =
    clash
    (and_both (not (X p)) (eqb p 1 || X (p - 1)) (not_passes (X p) (r.dead p (omega arith) r.order)) (⊎_elim (λ d. or_l (eqb p 1) (X (p - 1)) (eq-eqb p 1 d)) (or_r (eqb p 1) (X (p - 1))) r.left))
    b

-- as the live bytes say it
module _ (F : Family) (X : List ℕ) (b : Begins (live_bytes F) X) (p : ℕ) where
  no_run_here : begins_run (selected X) p ≡ false → (e : ℕ) → DeadRun F.peptides (live (ranges_of F)) p e → ⊥
  no_run_here t e r = begins_run_lem (selected X) p e t (run_same (live (ranges_of F)) (selected X) (λ q l u. sym (lives_same F X b q l u)) r)

  -- none begins here
  pub not_found : (t : Range → Bool) (r : Ranges) → begins_run (selected X) p ≡ false → GatheredIn F t p r → GatheredIn F t (p + 1) r
  not_found t r e g = no_run F t p r.count r.from.now r.to.now r.bounds.now g (no_run_here e)

  -- the one that begins here is found to end at e
  module _ (m e : ℕ) (i : m ≡ F.peptides) (h : 1 ≤ p) (begins : begins_run (selected X) p ≡ true) (d : RunTo m (selected X) p e) (t : Range → Bool) (r : Ranges) (g : GatheredIn F t p r) where
    its_run : DeadRun F.peptides (live (ranges_of F)) p e
    its_run =
        run_same (selected X) (live (ranges_of F)) (lives_same F X b)
        (run_begins (selected X) p e h begins (subst (λ (n : ℕ). RunTo n (selected X) p e) i d))

    pub found_room : r.count < region_count F
    found_room = run_room F t p r.count r.from.now r.to.now r.bounds.now g e its_run

    pub found_more : region_count F ≤ 8191 → Whole r → Gathered F t (p + 1) (r.count + 1) (set r.from.now r.count p) (set r.to.now r.count e) (set r.bounds.now r.count 0)
    found_more few w =
        run_more F t p r.count r.from.now r.to.now r.bounds.now g e its_run (omega (arith, w.from)) (omega (arith, w.to)) (omega (arith, w.bounds))

-- One region more.

module _ {F : Family} (w : WellFormed F) (C : List ℕ) (M : KeptMarked F C 0) where
  abbrev here : ℕ → Range → Bool
  here i x = ltb 0 (get_or C i 0) && (eqb (first_at F i) x.from && eqb (last_at F i) x.to)

  here_facts : (i : ℕ) (x : Range) → here i x ≡ true → (1 ≤ get_or C i 0) × (first_at F i ≡ x.from) × (last_at F i ≡ x.to)
  here_facts i x e =
      let b = and_r (ltb 0 (get_or C i 0)) (eqb (first_at F i) x.from && eqb (last_at F i) x.to) e in
      (ltb-true 0 (get_or C i 0) (and_l (ltb 0 (get_or C i 0)) _ e), eqb-true (first_at F i) x.from (and_l (eqb (first_at F i) x.from) _ b), eqb-true (last_at F i) x.to (and_r (eqb (first_at F i) x.from) _ b))

  here_holds : (i : ℕ) (x : Range) → 1 ≤ get_or C i 0 → first_at F i ≡ x.from → last_at F i ≡ x.to → here i x ≡ true
  here_holds i x h e f =
      and_both (ltb 0 (get_or C i 0)) _ (lt-ltb 0 (get_or C i 0) h) (and_both (eqb (first_at F i) x.from) _ (eq-eqb (first_at F i) x.from e) (eq-eqb (last_at F i) x.to f))

  -- the region of a stretch of the list
  stretch_place : (x : Range) → In x (reduced_ranges F) → live (ranges_of F) x.from ≡ true
      → (i : ℕ) × (i < region_count F) × (1 ≤ get_or C i 0) × (x ≡ piece (first_at F i) (last_at F i) (get_or C i 0))
  unfolding reduced_ranges
  stretch_place x i l =
      let c = reduced_kept w x i l in
      let z = M.every c.at x.z (omega arith) c.here c.keeps in
      (c.at, c.here, omega (arith, z, keeps_some c.at x.z c.here c.keeps), c.is ∙ ap (piece (first_at F c.at) (last_at F c.at)) (sym z))
    where
      keeps_some : (k v : ℕ) → k < region_count F → Keeps F k v → 1 ≤ v
      keeps_some k v h c =
          let (i, o, e, q) = c.reached in
          omega (arith, q, bound_some w i (omega (arith, e.0, c.some)))

  -- no two innermost regions have the same stretch
  one_place : (i k : ℕ) → i < region_count F → k < region_count F → 1 ≤ get_or C i 0 → 1 ≤ get_or C k 0 → SameStretch F i k → i ≡ k
  one_place i k a b c d e =
      ⊎_elim
      (λ l. ⊎_elim (λ q. q) (λ q. absurd ((M.kept i (omega arith) a c).innermost k q b (sym e.0, sym e.1))) (eq-or-lt_of_le l))
      (λ l. absurd ((M.kept k (omega arith) b d).innermost i l a e))
      (le_or_lt i k)

  -- the stretches of the kept regions in file order
  later_stretch : (i k : ℕ) → i < k → k < region_count F → 1 ≤ get_or C i 0 → 1 ≤ get_or C k 0
      → (first_at F i < first_at F k) ⊎ ((first_at F i ≡ first_at F k) × (last_at F k < last_at F i))
  later_stretch i k l h c d =
      let u = M.kept i (omega arith) (omega arith) c in
      let v = M.kept k (omega arith) h d in
      ⊎_elim inl (λ q. inr (q.0, lt_unless (last_at F k) (last_at F i) (λ m. u.innermost k l h (sym q.0, omega (arith, q.1))))) (stretch_order w i k l h u.some v.some)

  pub gathers_start : (A B Z : List ℕ) → Gathered F (of_first F C 0) 1 0 A B Z
  unfolding of_first
  gathers_start A B Z =
      let e = those_none (with_runs F (of_first F C 0) 1) (reduced_ranges F) none in
      record { number = rw e; firsts = rw e (A, refl); lasts = rw e (B, refl); bounds = rw e (Z, refl); earlier = λ x i l t. absurd (no x t) }
    where
      no : (x : Range) → of_first F C 0 x ≡ true → ⊥
      no x t = let f = found (λ i. here i x) 0 t in omega (arith, f.1)

      none : (x : Range) → In x (reduced_ranges F) → with_runs F (of_first F C 0) 1 x ≡ true → ⊥
      none x i t =
          ⊎_elim
          (λ l. no x (sym (of_stretch F (of_first F C 0) 1 x l) ∙ t))
          (λ l. omega (arith, starts F x i, ltb-true x.from 1 (sym (of_run F (of_first F C 0) 1 x l) ∙ t)))
          (test (live (ranges_of F) x.from))

  module _ (k q n : ℕ) (A B Z : List ℕ) (h : k < region_count F) (g : Gathered F (of_first F C k) q n A B Z) where
    -- the region is none of a kept stretch
    pub skip_region : get_or C k 0 ≡ 0 → Gathered F (of_first F C (k + 1)) q n A B Z
    unfolding of_first
    skip_region z =
        gathered_same F (of_first F C k) (of_first F C (k + 1)) q q n A B Z
        (λ x i. ⊎_elim (λ l. of_stretch F (of_first F C k) q x l ∙ (same x ∙ sym (of_stretch F (of_first F C (k + 1)) q x l))) (λ l. of_run F (of_first F C k) q x l ∙ sym (of_run F (of_first F C (k + 1)) q x l)) (test (live (ranges_of F) x.from)))
        (λ x i l t. g.earlier x i l (same x ∙ t)) g
      where
        same : (x : Range) → of_first F C k x ≡ of_first F C (k + 1) x
        same x =
            both_ways (of_first F C k x) (of_first F C (k + 1) x)
            (λ t. let f = found (λ i. here i x) k t in some_at (λ i. here i x) (k + 1) f.0 (omega (arith, f.1)) f.2)
            (λ t.
            let f = found (λ i. here i x) (k + 1) t in
            ⊎_elim (λ e. absurd (omega (arith, z, rw e at (here_facts f.0 x f.2).0))) (λ l. some_at (λ i. here i x) k f.0 l f.2) (eq-or-lt_of_le (omega (arith, f.1))))

  module _ (k n : ℕ) (A B Z : List ℕ) (h : k < region_count F) (c : 1 ≤ get_or C k 0) (g : Gathered F (of_first F C k) (first_at F k + 1) n A B Z) where
    abbrev it : Range
    it = piece (first_at F k) (last_at F k) (get_or C k 0)

    keeps : Keeps F k (get_or C k 0)
    keeps = M.kept k (omega arith) h c

    begins_live : live (ranges_of F) (first_at F k) ≡ true
    begins_live = (stretch_of w k keeps.some).first_live

    it_in : In (piece (first_at F k) (last_at F k) (get_or C k 0)) (reduced_ranges F)
    unfolding reduced_ranges
    it_in = keeps_reduced w k (get_or C k 0) h keeps

    up : (x : Range) → of_first F C k x ≡ true → of_first F C (k + 1) x ≡ true
    unfolding of_first
    up x t = let f = found (λ i. here i x) k t in some_at (λ i. here i x) (k + 1) f.0 (omega (arith, f.1)) f.2

    down : (x : Range) → of_first F C (k + 1) x ≡ true → (of_first F C k x ≡ true) ⊎ (here k x ≡ true)
    unfolding of_first
    down x t =
        let f = found (λ i. here i x) (k + 1) t in
        ⊎_elim (λ e. inr (rw e at f.2)) (λ l. inl (some_at (λ i. here i x) k f.0 l f.2)) (eq-or-lt_of_le (omega (arith, f.1)))

    passed_before : (x : Range) → of_first F C k x ≡ true → Precedes x (piece (first_at F k) (last_at F k) (get_or C k 0))
    unfolding of_first
    passed_before x t =
        let (i, l, e) = found (λ i. here i x) k t in
        let f = here_facts i x e in
        ⊎_elim (λ q. inl (omega (arith, f.1))) (λ q. inr (omega (arith, f.1, q.0), omega (arith, f.2, q.1))) (later_stretch i k l h f.0 c)

    it_passes : of_first F C (k + 1) (piece (first_at F k) (last_at F k) (get_or C k 0)) ≡ true
    unfolding of_first
    it_passes = some_at (λ i. here i it) (k + 1) k (omega arith) (here_holds k it c refl refl)

    only_it : (y : Range) → In y (reduced_ranges F) → live (ranges_of F) y.from ≡ true → here k y ≡ true → y ≡ piece (first_at F k) (last_at F k) (get_or C k 0)
    only_it y i l t =
        let (j, u, d, is) = stretch_place y i l in
        let f = here_facts k y t in
        let from : first_at F j ≡ first_at F k = sym (ap (λ (r : Range). r.from) is) ∙ sym f.1 in
        let to : last_at F j ≡ last_at F k = sym (ap (λ (r : Range). r.to) is) ∙ sym f.2 in
        let e = one_place j k u h d c (from, to) in
        is ∙ ap (λ (a : ℕ). piece (first_at F a) (last_at F a) (get_or C a 0)) e

    abbrev q : ℕ
    q = first_at F k + 1

    stretch_listed : those (with_runs F (of_first F C (k + 1)) (first_at F k + 1)) (reduced_ranges F)
        ≡ those (with_runs F (of_first F C k) (first_at F k + 1)) (reduced_ranges F) ++ (piece (first_at F k) (last_at F k) (get_or C k 0) ∷ [])
    stretch_listed =
        those_more (with_runs F (of_first F C k) q) (with_runs F (of_first F C (k + 1)) q) (reduced_ranges F) it (ordered F) it_in
        (of_stretch F (of_first F C (k + 1)) q it begins_live ∙ it_passes) old new
      where
        old : (y : Range) → In y (reduced_ranges F) → with_runs F (of_first F C k) q y ≡ true → (with_runs F (of_first F C (k + 1)) q y ≡ true) × Precedes y it
        old y i d =
            ⊎_elim
            (λ l. let s = sym (of_stretch F (of_first F C k) q y l) ∙ d in (of_stretch F (of_first F C (k + 1)) q y l ∙ up y s, passed_before y s))
            (λ l.
            let s = sym (of_run F (of_first F C k) q y l) ∙ d in
            let less = lt_unless y.from (first_at F k) (λ m. let e : y.from ≡ first_at F k = omega (arith, ltb-true y.from q s) in clash begins_live (rw e at l)) in
            (of_run F (of_first F C (k + 1)) q y l ∙ s, inl less))
            (test (live (ranges_of F) y.from))

        new : (y : Range) → In y (reduced_ranges F) → with_runs F (of_first F C (k + 1)) q y ≡ true → (with_runs F (of_first F C k) q y ≡ true) ⊎ (y ≡ it)
        new y i d =
            ⊎_elim
            (λ l. ⊎_elim (λ s. inl (of_stretch F (of_first F C k) q y l ∙ s)) (λ s. inr (only_it y i l s)) (down y (sym (of_stretch F (of_first F C (k + 1)) q y l) ∙ d)))
            (λ l. inl (of_run F (of_first F C k) q y l ∙ (sym (of_run F (of_first F C (k + 1)) q y l) ∙ d)))
            (test (live (ranges_of F) y.from))

    stretch_room : n < region_count F
    stretch_room = room_more F (of_first F C k) (of_first F C (k + 1)) q q n A B Z it stretch_listed g

    stretch_more : region_count F ≤ length A → region_count F ≤ length B → region_count F ≤ length Z
        → Gathered F (of_first F C (k + 1)) (first_at F k + 1) (n + 1) (set A n (first_at F k)) (set B n (last_at F k)) (set Z n (get_or C k 0))
    stretch_more a b z =
        gathered_more F (of_first F C k) (of_first F C (k + 1)) q q n A B Z it stretch_listed g a b z
        (λ y i l t. ⊎_elim (λ s. g.earlier y i l s) (λ s. omega (arith, (here_facts k y s).1)) (down y t))

  -- Where the next run is looked for.

  pub passed_start : Passed F C 0 1
  passed_start = record { positive = omega arith; small = omega arith; after = λ i l h c. omega arith }

  pub passed_skip : (k q : ℕ) → Passed F C k q → Passed F C (k + 1) q
  passed_skip k q p = record { positive = p.positive; small = p.small; after = λ i l h c. p.after i (omega arith) h c }

  passed_stretch : (k : ℕ) → k < region_count F → 1 ≤ get_or C k 0 → Passed F C (k + 1) (first_at F k + 1)
  passed_stretch k h c =
      let s = stretch_of w k (M.kept k (omega arith) h c).some in
      record {
        positive = omega arith;
        small = omega (arith, s.order, s.small);
        after = λ i l u d. ⊎_elim (λ q. omega arith) (λ q. omega (arith, q.0)) (later_stretch k i (omega arith) u c d);
      }

  -- All are listed.
  pub gathers_all : (s n : ℕ) (A B Z : List ℕ) → s ≡ F.peptides + 1 → Gathered F (of_first F C (region_count F)) s n A B Z
      → those (with_runs F (of_first F C (region_count F)) s) (reduced_ranges F) ≡ reduced_ranges F
  gathers_all s n A B Z e g = those_all (with_runs F (of_first F C (region_count F)) s) (reduced_ranges F) every
    where
      stretch : (x : Range) → In x (reduced_ranges F) → live (ranges_of F) x.from ≡ true → of_first F C (region_count F) x ≡ true
      stretch = unfold of_first in
          λ x i l.
          let (j, u, d, is) = stretch_place x i l in
          some_at (λ i. here i x) (region_count F) j u (here_holds j x d (sym (ap (λ (r : Range). r.from) is)) (sym (ap (λ (r : Range). r.to) is)))

      every : (x : Range) → In x (reduced_ranges F) → with_runs F (of_first F C (region_count F)) s x ≡ true
      every x i =
          ⊎_elim
          (λ l. of_stretch F (of_first F C (region_count F)) s x l ∙ stretch x i l)
          (λ l. of_run F (of_first F C (region_count F)) s x l ∙ lt-ltb x.from s (omega (arith, ends F x i)))
          (test (live (ranges_of F) x.from))

-- The k-th region as it is read: z is the bound of its stretch, which goes from x to y.
module _ {F : Family} {A B : List ℕ} (K : WithStretches F A B) (C : List ℕ) (M : KeptMarked F C 0) (k z x y : ℕ) (h : k < region_count F)
    (d : z ≡ get_or C k 0) (some : z ≡ 0 → ⊥) (a : x ≡ get_or A k 0) (b : y ≡ get_or B k 0) where
  is_kept : 1 ≤ get_or C k 0
  is_kept = omega (arith, d, some)

  is_first : x ≡ first_at F k
  is_first = a ∙ K.firsts k h

  pub stretch_passed : Passed F C (k + 1) (x + 1)
  stretch_passed = rw is_first (passed_stretch K.well_formed C M k h is_kept)

  pub stretch_ahead : (q : ℕ) → Passed F C k q → q ≤ x + 1
  stretch_ahead q p = omega (arith, p.after k (omega arith) h is_kept, is_first)

  -- the ranges up to its first peptide are listed
  module _ (r : Ranges) (g : GatheredIn F (of_first F C k) (x + 1) r) where
    there : GatheredIn F (of_first F C k) (first_at F k + 1) r
    there = subst (λ (i : ℕ). GatheredIn F (of_first F C k) (i + 1) r) is_first g

    pub stretch_has_room : r.count < region_count F
    stretch_has_room = stretch_room K.well_formed C M k r.count r.from.now r.to.now r.bounds.now h is_kept there

    pub stretch_pushed : region_count F ≤ 8191 → Whole r
        → Gathered F (of_first F C (k + 1)) (x + 1) (r.count + 1) (set r.from.now r.count x) (set r.to.now r.count y) (set r.bounds.now r.count z)
    stretch_pushed few w =
        rw (is_first, b ∙ K.lasts k h, d)
        (stretch_more K.well_formed C M k r.count r.from.now r.to.now r.bounds.now h is_kept there (omega (arith, w.from)) (omega (arith, w.to)) (omega (arith, w.bounds)))

pub listed_all : (s : List ℕ) (w : WellFormed (family_of s)) (C : List ℕ) → KeptMarked (family_of s) C 0 → (k q n : ℕ) (A B Z : List ℕ) → k ≡ region_count (family_of s)
    → q ≡ (family_of s).peptides + 1 → Gathered (family_of s) (of_first (family_of s) C k) q n A B Z → Listed s n A B Z
listed_all s w C M k q n A B Z a b g =
    let F = family_of s in
    let r : Gathered F (of_first F C (region_count F)) q n A B Z = subst (λ (i : ℕ). Gathered F (of_first F C i) q n A B Z) a g in
    let e = gathers_all w C M q n A B Z b r in
    record { number = rw e at r.number; firsts = rw e at r.firsts; lasts = rw e at r.lasts; bounds = rw e at r.bounds }

pub regions_few : {F : Family} → WellFormed F → region_count F ≤ 8191
regions_few w = omega (arith, w.regions_most, w.leaves_most, w.peptides_most, w.leaves_some)
