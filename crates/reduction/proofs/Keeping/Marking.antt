-- The innermost regions of the kept stretches: they give the stretches of the reduced list, each of them once.
use Prim.Native.Nat.{ℕ, zero, suc, ◌+◌, ◌-◌, ◌≤◌, ◌<◌}
use mathlib.Core.Bool.{true}
use mathlib.Core.List.{List}
use mathlib.Core.Logic.{◌⊎◌, inl, inr, ⊎_elim}
use mathlib.Core.Path.{◌≡◌, refl, sym, ◌∙◌, ap, subst}
use native.Mathlib.Nat.{eq-or-lt_of_le}
use native.Mathlib.Omega.{arith}
use lib.ListN.{length, get_or, set}
use lib.Seq.{get_or-set_same, get_or-set_other}
use Rattle.reader.specs.Family.{Family, region_count, region}
use Rattle.reader.specs.WellFormed.{WellFormed}
use Rattle.bounds.specs.Ranges.{Range, range_of, ranges_of, has, In, range_at}
use Rattle.bounds.specs.Bound.{total}
use Rattle.bounds.proofs.Basics.Members.{clash, le_or_lt}
use Rattle.bounds.proofs.Basics.Nesting.{Inside, has_facts, has_holds}
use Rattle.bounds.proofs.Theory.Laminar.{Laminar}
use Rattle.bounds.proofs.Theory.Family.{range_in, family_laminar}
use Rattle.reduction.specs.Reduction.{piece, live, stretches, room, reduced}
use Rattle.reduction.specs.Private.Keeping.{first_at, last_at, SameStretch, Outward, LastWithStretch, Weighed, total_at, Keeps, KeptMarked, NextStretch}
use Rattle.reduction.proofs.Basics.Unless.{lt_unless}
use Rattle.reduction.proofs.Theory.Kept.{Kept}
use Rattle.reduction.proofs.Theory.Stretches.{StretchOf, Source, stretches_facts, stretches_holds}
use Rattle.reduction.proofs.Theory.Room.{room_is}
use Rattle.reduction.proofs.Theory.Reduced.{Written, run, kept, reduced_facts, reduced_holds}
use Rattle.reduction.proofs.Theory.Regions.{region_place}
use Rattle.reduction.proofs.Keeping.StretchPlaces.{stretch_of, stretch_at_lem, inside_around, outward_wider, stretch_order, share}
use Rattle.reduction.proofs.Keeping.Weighing.{decide_same}

-- From the weights of a region.

pub weighed_keeps : {F : Family} {k v u : ℕ} → Weighed F k v u → 1 ≤ first_at F k → LastWithStretch F k → v < u → v < total_at F k → Keeps F k v
weighed_keeps d s n l t =
    record { some = s; innermost = n; least = d.least; reached = d.reached; larger = λ i o e. omega (arith, d.around i o e); less = t }

pub keeps_weighed : {F : Family} {k v x u : ℕ} → Keeps F k x → Weighed F k v u → (x ≡ v) × (v < 65535 → v < u)
keeps_weighed {F} {k} {v} {x} {u} c d = (same, λ l. ⊎_elim (λ e. omega arith) (λ f. let (i, o, n, q) = f in omega (arith, c.larger i o n, same)) d.met)
  where
    same : x ≡ v
    same =
        let (i, o, e, q) = d.reached in
        let (j, r, f, t) = c.reached in
        omega (arith, c.least i o e, d.least j r f)

same_stretch : {m : ℕ} {Q : List Range} {a b c d : ℕ} {r : Range} → a ≡ c → b ≡ d → StretchOf m Q a b r → StretchOf m Q c d r
same_stretch {m} {Q} {a} {b} {c} {d} {r} e f s = subst (λ (y : ℕ). StretchOf m Q c y r) f (subst (λ (x : ℕ). StretchOf m Q x b r) e s)

-- a range whose key is its peptides
piece_is : (s : Range) (a b : ℕ) → s.from ≡ a → s.to ≡ b → suc s.low ≡ s.from → s.high ≡ s.to → s ≡ piece a b s.z
piece_is s a b from to low high =
    let l : s.low ≡ a - 1 = omega arith in
    let h : s.high ≡ b = omega arith in
    λ i. record { from = from i; to = to i; low = l i; high = h i; z = s.z }

module _ {F : Family} (w : WellFormed F) where
  abbrev R : List Range
  R = ranges_of F

  abbrev T : List Range
  T = stretches F.peptides (ranges_of F)

  abbrev laminar : Laminar F.peptides (ranges_of F)
  laminar = family_laminar w

  -- The place of a range with a given stretch.
  record Stands (a b z : ℕ) : Type 0 where
    at : ℕ
    here : at < region_count F
    some : 1 ≤ first_at F at
    first : first_at F at ≡ a
    last : last_at F at ≡ b
    level : (region F at).z ≡ z

  source_place : {s : Range} → Source F.peptides R s → Stands s.from s.to s.z
  unfolding range_of
  source_place {s} c =
      let (k, l, e) = region_place F c.range c.member in
      let t = stretch_at_lem w k (rw e at c.stretch) in
      record {
        at = k;
        here = l;
        some = omega (arith, t.0, c.stretch.positive);
        first = t.0;
        last = t.1;
        level = sym (ap (λ (r : Range). r.z) e) ∙ c.level;
      }

  -- the stretch of the k-th region, in the list of stretches
  record Its (k : ℕ) : Type 0 where
    it : Range
    member : In it T
    from : it.from ≡ first_at F k
    to : it.to ≡ last_at F k
    smaller : it.z ≤ (region F k).z

  its : (k : ℕ) → k < region_count F → 1 ≤ first_at F k → Its k
  unfolding range_of
  its k h s =
      let c = stretches_holds F.peptides R (range_in F k h) (stretch_of w k s) in
      record { it = c.it; member = c.member; from = c.from; to = c.to; smaller = c.smaller }

  z_at_lem : (k : ℕ) → (range_at F k).z ≡ (region F k).z
  unfolding range_of
  z_at_lem k = refl

  -- The room of the stretch of an innermost region is its inside total.
  room_at : (k : ℕ) → k < region_count F → 1 ≤ first_at F k → LastWithStretch F k → (s : Range) → In s T → s.from ≡ first_at F k → s.to ≡ last_at F k
      → total F.peptides T (live R) s ≡ total_at F k
  unfolding room total_at
  room_at k h some inner s i from to =
      room_is laminar s i (range_at F k) (range_in F k h) (rw (from, to) (stretch_of w k some)) innermost
    where
      innermost : (q : Range) → In q R → Inside q (range_at F k) → StretchOf F.peptides R s.from s.to q → ⊥
      innermost q j n c =
          let (l, a, e) = region_place F q j in
          let t = stretch_at_lem w l (rw e at c) in
          inner l (inside_around w k l h a (rw e at n)).0 a (t.0 ∙ from, t.1 ∙ to)

  -- two regions that hold the stretch of the k-th one
  shared : (i k : ℕ) → i < region_count F → k < region_count F → 1 ≤ first_at F k → 1 ≤ first_at F i → first_at F i ≤ first_at F k → last_at F k ≤ last_at F i
      → Outward F i k ⊎ ((k < i) × ((region F i).last ≤ (region F k).last))
  shared i k a b s t first last =
      let c = stretch_of w k s in
      let d = stretch_of w i t in
      let f = has_facts (range_at F i) (first_at F i) d.first_in in
      let g = has_facts (range_at F i) (last_at F i) d.last_in in
      let in-i : has (range_at F i) (first_at F k) ≡ true = has_holds (record { above = omega arith; upto = omega (arith, c.order) }) in
      share w i k (first_at F k) a b in-i c.first_in

  -- The stretch of such a region is one of the reduced list.
  module _ (k v : ℕ) (h : k < region_count F) (c : Keeps F k v) where
    s : Its k
    s = its k h c.some

    d : Source F.peptides R s.it
    d = stretches_facts F.peptides R s.it s.member

    level : s.it.z ≡ v
    level = omega (arith, most, fewest)
      where
        most : s.it.z ≤ v
        most =
            let (i, o, e, q) = c.reached in
            let t = stretch_of w i (omega (arith, c.some)) in
            let l : i < region_count F = omega (arith, o.0) in
            omega (arith, q, z_at_lem i, d.least (range_at F i) (range_in F i l) (same_stretch (e.0 ∙ sym s.from) (e.1 ∙ sym s.to) t))

        fewest : v ≤ s.it.z
        fewest =
            let p = source_place d in
            let e : SameStretch F p.at k = (p.first ∙ s.from, p.last ∙ s.to) in
            ⊎_elim
            (λ o. omega (arith, c.least p.at o e, p.level))
            (λ o. absurd (c.innermost p.at o.0 p.here e))
            (shared p.at k p.here h c.some p.some (omega (arith, e.0)) (omega (arith, e.1)))

    around : (t : Range) → In t T → Inside s.it t → s.it.z < t.z
    around t i n =
        let p = source_place (stretches_facts F.peptides R t i) in
        let first : first_at F p.at ≤ first_at F k = omega (arith, p.first, s.from, n.left) in
        let last : last_at F k ≤ last_at F p.at = omega (arith, p.last, s.to, n.right) in
        ⊎_elim
        (λ o. omega (arith, level, p.level, c.larger p.at o (λ e. omega (arith, e.0, e.1, p.first, p.last, s.from, s.to, n.less))))
        (λ o. let u = outward_wider w k p.at (omega arith) p.here p.some in absurd (omega (arith, u.first, u.last, p.first, p.last, s.from, s.to, n.less)))
        (shared p.at k p.here h c.some p.some first last)

    pub keeps_reduced : In (piece (first_at F k) (last_at F k) v) (reduced F.peptides (ranges_of F))
    keeps_reduced =
        let less = room_at k h c.some c.innermost s.it s.member s.from s.to in
        let is : s.it ≡ piece (first_at F k) (last_at F k) v = piece_is s.it (first_at F k) (last_at F k) s.from s.to d.low d.high ∙ ap (piece (first_at F k) (last_at F k)) level in
        rw is at (reduced_holds F.peptides R s.it (kept s.member (record { less = omega (arith, less, level, c.less); larger = around })))

  -- The last region below n with the stretch of the k-th one.
  last_same : (k n : ℕ) → k < n → (i : ℕ) × (i < n) × SameStretch F i k × ((j : ℕ) → i < j → j < n → SameStretch F j k → ⊥)
  last_same k zero h = absurd (omega arith)
  last_same k (suc n) h = go (decide_same F n k) (last_same k n)
    where
      go : SameStretch F n k ⊎ (SameStretch F n k → ⊥) → (k < n → (i : ℕ) × (i < n) × SameStretch F i k × ((j : ℕ) → i < j → j < n → SameStretch F j k → ⊥))
          → (i : ℕ) × (i < suc n) × SameStretch F i k × ((j : ℕ) → i < j → j < suc n → SameStretch F j k → ⊥)
      go (inl e) ih = (n, omega arith, e, λ j a b. absurd (omega arith))
      go (inr f) ih =
          let here : k < n = lt_unless k n (λ l. f (rw (equal l) (refl, refl))) in
          let (i, l, e, g) = ih here in
          (i, omega arith, e, λ j a b d. ⊎_elim (λ q. f (rw q at d)) (λ q. g j a q d) (eq-or-lt_of_le (omega arith)))
        where
          equal : n ≤ k → n ≡ k
          equal l = omega arith

  -- Every stretch of the reduced list is that of such a region.
  pub record KeptAt (x : Range) : Type 0 where
    pub at : ℕ
    pub here : at < region_count F
    pub keeps : Keeps F at x.z
    pub is : x ≡ piece (first_at F at) (last_at F at) x.z

  kept_at : (x : Range) → In x T → Kept F.peptides T (live R) x → KeptAt x
  kept_at x i y = record { at = k; here = here; keeps = keeps; is = piece_is x (first_at F k) (last_at F k) (sym first) (sym last) c.low c.high }
    where
      c : Source F.peptides R x
      c = stretches_facts F.peptides R x i

      p : Stands x.from x.to x.z
      p = source_place c

      found : (i : ℕ) × (i < region_count F) × SameStretch F i p.at × ((j : ℕ) → i < j → j < region_count F → SameStretch F j p.at → ⊥)
      found = last_same p.at (region_count F) p.here

      k : ℕ
      k = found.0

      here : k < region_count F
      here = found.1

      first : first_at F k ≡ x.from
      first = found.2.0 ∙ p.first

      last : last_at F k ≡ x.to
      last = found.2.1 ∙ p.last

      some : 1 ≤ first_at F k
      some = omega (arith, found.2.0, p.some)

      inner : LastWithStretch F k
      inner j a b e = found.3 j a b (e.0 ∙ found.2.0, e.1 ∙ found.2.1)

      back : SameStretch F p.at k
      back = (sym found.2.0, sym found.2.1)

      outward : Outward F p.at k
      outward =
          ⊎_elim (λ o. o) (λ o. absurd (inner p.at o.0 p.here back))
          (shared p.at k p.here here some p.some (omega (arith, back.0)) (omega (arith, back.1)))

      least : (i : ℕ) → Outward F i k → SameStretch F i k → x.z ≤ (region F i).z
      least i o e =
          let l : i < region_count F = omega (arith, o.0, here) in
          let t = stretch_of w i (omega (arith, e.0, some)) in
          omega (arith, z_at_lem i, c.least (range_at F i) (range_in F i l) (same_stretch (e.0 ∙ first) (e.1 ∙ last) t))

      larger : (i : ℕ) → Outward F i k → (SameStretch F i k → ⊥) → x.z < (region F i).z
      larger i o n =
          let l : i < region_count F = omega (arith, o.0, here) in
          let u = outward_wider w i k o here some in
          let t = its i l u.some in
          let shorter = lt_unless (t.it.from + x.to) (x.from + t.it.to) (λ q. n (omega (arith, u.first, u.last, first, last, t.from, t.to), omega (arith, u.first, u.last, first, last, t.from, t.to))) in
          let inside : Inside x t.it = record { left = omega (arith, u.first, first, t.from); right = omega (arith, u.last, last, t.to); less = shorter } in
          omega (arith, y.larger t.it t.member inside, t.smaller)

      keeps : Keeps F k x.z
      keeps =
          record {
            some = some;
            innermost = inner;
            least = least;
            reached = (p.at, outward, back, sym p.level);
            larger = larger;
            less = omega (arith, y.less, room_at k here some inner x i (sym first) (sym last));
          }

  pub reduced_kept : (x : Range) → In x (reduced F.peptides (ranges_of F)) → live (ranges_of F) x.from ≡ true → KeptAt x
  reduced_kept x i e = go (reduced_facts F.peptides R x i)
    where
      go : Written F.peptides R x → KeptAt x
      go (run a b d q) = absurd (clash (rw q at e) (d.dead a (omega arith) d.order))
      go (kept j y) = kept_at x j y

  -- Which region is innermost, from the next region with a stretch.
  module _ (k c : ℕ) (h : k < region_count F) (s : 1 ≤ first_at F k) (n : NextStretch F (suc k) c) where
    pub inner_last : c ≡ 0 → LastWithStretch F k
    inner_last e i l u q = omega (arith, n.none e i l u, q.0)

    pub inner_other : (j : ℕ) → c ≡ suc j → (SameStretch F j k → ⊥) → LastWithStretch F k
    inner_other j e f i l u q = ⊎_elim (λ d. f (between d)) (λ d. omega (arith, n.first j e i l d, q.0)) (le_or_lt j i)
      where
        between : j ≤ i → SameStretch F j k
        between d =
            let t = n.later j e in
            ⊎_elim (λ m. rw m q)
            (λ m.
            ⊎_elim
            (λ a. absurd (⊎_elim (λ b. omega (arith, q.0)) (λ b. omega (arith, q.0, b.0)) (stretch_order w j i m u t.2 (omega (arith, q.0)))))
            (λ a. ⊎_elim (λ b. absurd (omega (arith, q.0, a.0))) (λ b. (omega (arith, a.0), omega (arith, a.1, b.1, q.1))) (stretch_order w j i m u t.2 (omega (arith, q.0))))
            (stretch_order w k j t.0 t.1 s t.2))
            (eq-or-lt_of_le d)

    pub not_inner : (j : ℕ) → c ≡ suc j → SameStretch F j k → LastWithStretch F k → ⊥
    not_inner j e q f = let t = n.later j e in f j t.0 t.1 q

-- one more region is marked
pub kept_marked_more :
    (F : Family) (C : List ℕ) (k v : ℕ) → k < length C → KeptMarked F C (suc k) → (1 ≤ v → Keeps F k v) → ((x : ℕ) → Keeps F k x → v ≡ x)
    → KeptMarked F (set C k v) k
kept_marked_more F C k v a old new all = record { kept = kept'; every = every }
  where
    value : (i : ℕ) → k ≤ i → ((i ≡ k) × (get_or (set C k v) i 0 ≡ v)) ⊎ ((suc k ≤ i) × (get_or (set C k v) i 0 ≡ get_or C i 0))
    value i l =
        ⊎_elim (λ e. inl (sym e, subst (λ (t : ℕ). get_or (set C k v) t 0 ≡ v) e (get_or-set_same C k v 0 a))) (λ d. inr (d, get_or-set_other C k i v 0 (λ e. omega arith)))
        (eq-or-lt_of_le l)

    kept' : (i : ℕ) → k ≤ i → i < region_count F → 1 ≤ get_or (set C k v) i 0 → Keeps F i (get_or (set C k v) i 0)
    kept' i l u s = ⊎_elim (λ d. rw (d.1, d.0) (new (omega (arith, d.1)))) (λ d. rw d.1 (old.kept i d.0 u (omega (arith, d.1)))) (value i l)

    every : (i x : ℕ) → k ≤ i → i < region_count F → Keeps F i x → get_or (set C k v) i 0 ≡ x
    every i x l u c = ⊎_elim (λ d. d.1 ∙ all x (rw d.0 at c)) (λ d. d.1 ∙ old.every i x d.0 u c) (value i l)

-- the first region from the k-th on with a stretch, one region earlier
pub next_here : (F : Family) (k : ℕ) → k < region_count F → 1 ≤ first_at F k → NextStretch F k (suc k)
next_here F k h s =
    record {
      none = λ e. absurd (omega arith);
      later = λ j e. let d : k ≡ j = omega arith in rw (← d) (omega arith, h, s);
      first = λ j e i a b. absurd (omega arith);
    }

pub next_past : (F : Family) (k c : ℕ) → first_at F k ≡ 0 → NextStretch F (suc k) c → NextStretch F k c
next_past F k c z n =
    record {
      none = λ e i l u. here i l (λ d. n.none e i d u);
      later = λ j e. let t = n.later j e in (omega (arith, t.0), t.1, t.2);
      first = λ j e i l u. here i l (λ d. n.first j e i d u);
    }
  where
    here : (i : ℕ) → k ≤ i → (suc k ≤ i → first_at F i ≡ 0) → first_at F i ≡ 0
    here i l f = ⊎_elim (λ e. subst (λ (t : ℕ). first_at F t ≡ 0) e z) f (eq-or-lt_of_le l)
