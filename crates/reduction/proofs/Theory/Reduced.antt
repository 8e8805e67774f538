-- The reduced list of ranges: its members, that it has the same admissible sets, and that the admissible sets determine it.
use Prim.Native.Nat.{ℕ, ◌≤◌}
use mathlib.Core.Bool.{Bool, true, false, cond}
use mathlib.Core.List.{List, [], ◌∷◌}
use mathlib.Core.Logic.{inl, inr}
use mathlib.Core.Path.{◌≡◌, refl, sym, ◌∙◌, ap}
use native.Mathlib.Omega.{arith}
use Rattle.reader.proofs.Bools.{passes}
use Rattle.bounds.specs.Ranges.{Range, Peptides, has, count, those, In}
use Rattle.bounds.proofs.Basics.Members.{in_those, those_in, clash, refuted}
use Rattle.bounds.proofs.Basics.Counting.{Subset, SameSet}
use Rattle.bounds.proofs.Theory.Laminar.{Laminar}
use Rattle.bounds.proofs.Theory.Totals.{total_same}
use Rattle.bounds.proofs.Theory.Greedy.{Respects}
use Rattle.reduction.specs.Reduction.{piece, live, stretch_at, stretches, is_kept, is_dead_run, reduced_at, reduced}
use Rattle.reduction.proofs.Basics.Unless.{le_unless}
use Rattle.reduction.proofs.Basics.Counts.{count_zero, count_one}
use Rattle.reduction.proofs.Basics.Grid.{in_grid, grid_in, FileOrder, grid_ordered, those_ordered, ordered_same}
use Rattle.reduction.proofs.Theory.Kept.{Stretches, Kept, kept_facts, kept_holds}
use Rattle.reduction.proofs.Theory.Suffice.{Breaks, kept_suffice}
use Rattle.reduction.proofs.Theory.Determined.{kept_same}
use Rattle.reduction.proofs.Theory.Live.{admissible_live, SameAdmissible, same_swap, same_live}
use Rattle.reduction.proofs.Theory.Stretches.{at_piece, at_single, stretches_facts}
use Rattle.reduction.proofs.Theory.SameSets.{stretches_good, ranges_stretches, stretches_ranges}
use Rattle.reduction.proofs.Theory.Runs.{DeadRun, piece_has, has_piece, run_facts, run_holds, run_same, RunOf, run_of}

-- A range of the reduced list: a longest run of dead peptides, or a kept stretch.
pub data Written (m : ℕ) (R : List Range) (x : Range) : Type 0 where
  run : (a b : ℕ) → DeadRun m (live R) a b → x ≡ piece a b 0 → Written m R x
  kept : In x (stretches m R) → Kept m (stretches m R) (live R) x → Written m R x

module _ (m : ℕ) (R : List Range) where
  -- the kept one of the stretch a..b, if it is one
  abbrev kept_at : ℕ → ℕ → List Range
  kept_at a b = those (is_kept m (stretches m R) (live R)) (stretch_at m R a b)

  -- One cell.

  cell_facts : (a b : ℕ) → 1 ≤ a → a ≤ b → b ≤ m → (x : Range) → In x (reduced_at m R (stretches m R) a b) → Written m R x
  unfolding reduced_at stretches
  cell_facts a b h k l x i = go (is_dead_run m R a b) refl i
    where
      go : (t : Bool) → is_dead_run m R a b ≡ t → In x (cond t (piece a b 0 ∷ []) (kept_at a b)) → Written m R x
      go true e (inl d) = run a b (run_facts m R a b h k l e) d
      go true e (inr j) = absurd j
      go false e j =
          let f = those_in (is_kept m (stretches m R) (live R)) (stretch_at m R a b) x j in
          kept (grid_in m (stretch_at m R) x a b h k l f.0) (kept_facts m (stretches m R) (live R) x f.1)

  cell_single : (a b : ℕ) → FileOrder (reduced_at m R (stretches m R) a b)
  unfolding reduced_at
  cell_single a b = go (is_dead_run m R a b)
    where
      go : (t : Bool) → FileOrder (cond t (piece a b 0 ∷ []) (kept_at a b))
      go true = (λ y i. absurd i, tt)
      go false = those_ordered (is_kept m (stretches m R) (live R)) (stretch_at m R a b) (at_single m R a b)

  cell_piece : (a b : ℕ) (x : Range) → In x (reduced_at m R (stretches m R) a b) → x ≡ piece a b x.z
  unfolding reduced_at
  cell_piece a b x i = go (is_dead_run m R a b) i
    where
      go : (t : Bool) → In x (cond t (piece a b 0 ∷ []) (kept_at a b)) → x ≡ piece a b x.z
      go true (inl e) = e ∙ ap (piece a b) (sym (ap (λ (t : Range). t.z) e))
      go true (inr j) = absurd j
      go false j = at_piece m R a b x (those_in (is_kept m (stretches m R) (live R)) (stretch_at m R a b) x j).0

  -- The list.

  pub reduced_facts : (x : Range) → In x (reduced m R) → Written m R x
  unfolding reduced
  reduced_facts x i =
      let c = in_grid m (reduced_at m R (stretches m R)) x i in
      cell_facts c.a c.b c.positive c.order c.small x c.member

  run_in : {a b : ℕ} → DeadRun m (live R) a b → In (piece a b 0) (reduced m R)
  unfolding reduced reduced_at
  run_in {a} {b} d =
      grid_in m (reduced_at m R (stretches m R)) (piece a b 0) a b d.positive d.order d.small (rw (run_holds m R a b d) (inl refl))

  -- a stretch begins live, so it is no run
  kept_in : (x : Range) → In x (stretches m R) → Kept m (stretches m R) (live R) x → In x (reduced m R)
  unfolding reduced reduced_at stretches
  kept_in x i k =
      let c = in_grid m (stretch_at m R) x i in
      let a = c.a in
      let b = c.b in
      let from : x.from ≡ a = ap (λ (t : Range). t.from) (at_piece m R a b x c.member) in
      let begins : live R a ≡ true = rw from at (stretches_facts m R x i).stretch.first_live in
      let norun : is_dead_run m R a b ≡ false =
      refuted (is_dead_run m R a b) (λ e. clash begins ((run_facts m R a b c.positive c.order c.small e).dead a (omega arith) c.order))
      in
      let passes = kept_holds m (stretches m R) (live R) x k in
      let here : In x (kept_at a b) = in_those (is_kept m (stretches m R) (live R)) (stretch_at m R a b) x c.member passes in
      grid_in m (reduced_at m R (stretches m R)) x a b c.positive c.order c.small (rw norun here)

  pub reduced_holds : (x : Range) → Written m R x → In x (reduced m R)
  reduced_holds x (run a b d e) = rw e (run_in d)
  reduced_holds x (kept i k) = kept_in x i k

  pub reduced_ordered : FileOrder (reduced m R)
  unfolding reduced
  reduced_ordered =
      grid_ordered m (reduced_at m R (stretches m R))
      (record {
        single = cell_single;
        from = λ a b x i. ap (λ (t : Range). t.from) (cell_piece a b x i);
        to = λ a b x i. ap (λ (t : Range). t.to) (cell_piece a b x i);
      })

  -- What the ranges allow, the reduced list allows: a run has only dead peptides, and a stretch allows what its range allows.
  ranges_reduced : (A : Peptides) → Respects m R A → Respects m (reduced m R) A
  ranges_reduced A h x i = go (reduced_facts x i)
    where
      go : Written m R x → count m A x ≤ x.z
      go (kept j k) = ranges_stretches m R A h x j
      go (run a b d e) = rw e (omega (arith, count_zero m A (piece a b 0) none))
        where
          none : (p : ℕ) → 1 ≤ p → p ≤ m → has (piece a b 0) p ≡ true → A p ≡ true → ⊥
          none p l u f t = let g = has_piece a b 0 p f in clash (admissible_live m R A h p l u t) (d.dead p g.0 g.1)

  -- A set that the reduced list allows has no dead peptide: each is in a run.
  reduced_live : (A : Peptides) → Respects m (reduced m R) A → Subset m A (live R)
  reduced_live A h p l u e = passes (live R p) (λ t. dead (run_of m (live R) p l u t))
    where
      dead : RunOf m (live R) p → ⊥
      dead c =
          let x = piece c.a c.b 0 in
          omega (arith, h x (run_in c.run), count_one m A x p l u (piece_has c.a c.b 0 p c.run.positive c.first c.last) e)

  -- It breaks no stretch, since it would break a kept one.
  reduced_ranges_lem : Laminar m R → (A : Peptides) → Respects m (reduced m R) A → Respects m R A
  reduced_ranges_lem l A h = stretches_ranges m R A sub (λ s i. le_unless (count m A s) s.z (broken s i))
    where
      sub : Subset m A (live R)
      sub = reduced_live A h

      broken : (s : Range) → In s (stretches m R) → Breaks m A s → ⊥
      broken s i b =
          let c = kept_suffice (stretches_good l) A sub s i b in
          omega (arith, c.broken, h c.it (kept_in c.it c.member c.kept))

  -- The reduced list has the same admissible sets.
  pub reduced_same : Laminar m R → SameAdmissible m R (reduced m R)
  reduced_same l = record { there = ranges_reduced; back = reduced_ranges_lem l }

-- Stretches and kept ones go by the live peptides of 1 to m alone.

stretches_over : {m : ℕ} {T : List Range} (L M : Peptides) → SameSet m L M → Stretches m L T → Stretches m M T
stretches_over L M h W =
    record {
      member = λ s i.
          let w = W.member s i in
          record {
            positive = w.positive;
            order = w.order;
            small = w.small;
            low = w.low;
            high = w.high;
            bound = w.bound;
            first = rw (← h s.from (omega arith) (omega arith)) w.first;
            last = rw (← h s.to (omega arith) (omega arith)) w.last;
          };
      laminar = W.laminar;
    }

kept_over : {m : ℕ} {T : List Range} {s : Range} (L M : Peptides) → SameSet m L M → Kept m T L s → Kept m T M s
kept_over {m} {T} {s} L M h k = record { less = rw (total_same m T L M h s) at k.less; larger = k.larger }

-- The reduced list is determined by the admissible sets.

module _ {m : ℕ} {Q R : List Range} (lQ : Laminar m Q) (lR : Laminar m R) (same : SameAdmissible m Q R) where
  lives : SameSet m (live Q) (live R)
  lives = same_live same

  -- over the live peptides of the one list, the stretches of both allow the same sets
  stretches_there : (A : Peptides) → Subset m A (live Q) → Respects m (stretches m Q) A → Respects m (stretches m R) A
  stretches_there A sub h = ranges_stretches m R A (same.there A (stretches_ranges m Q A sub h))

  stretches_back : (A : Peptides) → Subset m A (live Q) → Respects m (stretches m R) A → Respects m (stretches m Q) A
  stretches_back A sub h = ranges_stretches m Q A (same.back A (stretches_ranges m R A (λ p l u e. rw (lives p l u) at (sub p l u e)) h))

  written_there : (x : Range) → Written m Q x → Written m R x
  written_there x (run a b d e) = run a b (run_same (live Q) (live R) lives d) e
  written_there x (kept i k) =
      let W = stretches_over (live R) (live Q) (λ p l u. sym (lives p l u)) (stretches_good lR) in
      let c = kept_same (stretches_good lQ) W stretches_there stretches_back x i k in
      kept c.0 (kept_over (live Q) (live R) lives c.1)

pub reduced_equal : {m : ℕ} {Q R : List Range} → Laminar m Q → Laminar m R → SameAdmissible m Q R → reduced m Q ≡ reduced m R
reduced_equal {m} {Q} {R} lQ lR same =
    ordered_same (reduced m Q) (reduced m R) (reduced_ordered m Q) (reduced_ordered m R)
    (λ x i. reduced_holds m R x (written_there lQ lR same x (reduced_facts m Q x i)))
    (λ x i. reduced_holds m Q x (written_there lR lQ (same_swap same) x (reduced_facts m R x i)))
