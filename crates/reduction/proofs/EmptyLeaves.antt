-- Leaves without a peptide, and regions that have no other leaves, over all accepted files.
-- That no leaf of a reduced file is empty is a sentence of demand 3 (`DemandThree`).
use Prim.Native.Nat.{ℕ, ◌≤◌, ◌<◌}
use mathlib.Core.Bool.{Bool, true, false, not, and-false}
use mathlib.Core.List.{List, [], ◌∷◌}
use mathlib.Core.Logic.{⊎_elim}
use mathlib.Core.Path.{◌≡◌, refl, sym, ap, ◌∙◌}
use native.Mathlib.Omega.{arith}
use lib.ListN.{length, get_or, get_or-append}
use lib.Dec.{eqb}
use Rattle.reader.specs.Family.{Family, region_count, region, leaf_length, leaf_of, family_of, EmptyRegion}
use Rattle.reader.specs.Causes.{first_cause, AcceptedFile}
use Rattle.reader.proofs.Bools.{or_neither}
use Rattle.reader.proofs.Lists.{length_tabulate, get_d_tabulate}
use Rattle.reader.proofs.First.{writes}
use Rattle.reader.proofs.Walk.{leaf_not_empty}
use Rattle.reader.proofs.Accepting.{well_formed_lem}
use Rattle.bounds.specs.Ranges.{Range, Peptides, ranges_of, range_at, has, count, some}
use Rattle.bounds.specs.Bound.{is_taken, taken_bytes}
use Rattle.bounds.specs.Selections.{selected, taken_of}
use Rattle.bounds.specs.Calls.{selection_causes}
use Rattle.bounds.specs.AcceptedCalls.{BoundCall}
use Rattle.bounds.proofs.Basics.Members.{bit, clash}
use Rattle.bounds.proofs.Basics.Counting.{none, count_none, count_mono}
use Rattle.bounds.proofs.Theory.Greedy.{Respects}
use Rattle.bounds.proofs.Theory.Family.{accepted_laminar, over_regions, range_in}
use Rattle.bounds.proofs.Theory.EmptyRegions.{empty_holds_none, empty_not_taken}
use Rattle.bounds.proofs.Calls.SelectionCalls.{selection_clear}
use Rattle.reduction.specs.Reduction.{dead, live, reduced_file}
use Rattle.reduction.specs.Alike.{Alike, Covered}
use Rattle.reduction.proofs.Theory.Live.{SameAdmissible, same_live}
use Rattle.reduction.proofs.Theory.Regions.{region_place}
use Rattle.reduction.proofs.Theory.Curves.{admissible_alike}
use Rattle.reduction.proofs.DemandThree.{demand_three}

pub record EmptyLeaves : Type 0 where
  -- The leaf of a peptide is never an empty one.
  pub leaf_measured : (f : AcceptedFile) (p : ℕ) → 1 ≤ p → p ≤ (family_of f.file).peptides
      → 1 ≤ leaf_length (family_of f.file) (leaf_of (family_of f.file) p)
  -- A region none of whose leaves has a peptide holds none,
  pub holds_none : (f : AcceptedFile) (k : ℕ) → k < region_count (family_of f.file)
      → EmptyRegion (family_of f.file) (region (family_of f.file) k) → (p : ℕ) → has (range_at (family_of f.file) k) p ≡ false
  -- makes none dead, whatever its z (step 1 over that region alone),
  pub none_dead : (f : AcceptedFile) (k : ℕ) → k < region_count (family_of f.file)
      → EmptyRegion (family_of f.file) (region (family_of f.file) k) → (p : ℕ) → dead (range_at (family_of f.file) k ∷ []) p ≡ false
  -- and is never taken: `bound` leaves 0 in its byte.
  pub never_taken : (f : AcceptedFile) (b : BoundCall f) (k : ℕ) → k < region_count (family_of f.file)
      → EmptyRegion (family_of f.file) (region (family_of f.file) k) → get_or b.taken k 1 ≡ 0
  -- Two families whose other regions have the same peptides and the same z, on whatever leaves, have the same dead peptides,
  pub same_dead : (f g : AcceptedFile) → (family_of f.file).peptides ≡ (family_of g.file).peptides
      → Covered (family_of f.file) (family_of g.file) → Covered (family_of g.file) (family_of f.file)
      → (p : ℕ) → 1 ≤ p → p ≤ (family_of f.file).peptides → dead (ranges_of (family_of f.file)) p ≡ dead (ranges_of (family_of g.file)) p
  -- the same curves
  pub same_curves : (f g : AcceptedFile) → (family_of f.file).peptides ≡ (family_of g.file).peptides
      → Covered (family_of f.file) (family_of g.file) → Covered (family_of g.file) (family_of f.file)
      → Alike (family_of f.file) (family_of g.file)
  -- and the same reduced file: so empty leaves and empty regions can be left out.
  pub same_file : (f g : AcceptedFile) → (family_of f.file).peptides ≡ (family_of g.file).peptides
      → Covered (family_of f.file) (family_of g.file) → Covered (family_of g.file) (family_of f.file)
      → reduced_file f.file ≡ reduced_file g.file

-- An empty region.
none_held : (f : AcceptedFile) (k : ℕ) → k < region_count (family_of f.file)
    → EmptyRegion (family_of f.file) (region (family_of f.file) k) → (p : ℕ) → has (range_at (family_of f.file) k) p ≡ false
none_held f k few empty =
    let w = (well_formed_lem f.file f.bytes f.accepted).ordered in
    empty_holds_none (family_of f.file) (region (family_of f.file) k) (w.first_some k few) (w.first_last k few) empty

dead_none : (r : Range) (p : ℕ) → has r p ≡ false → dead (r ∷ []) p ≡ false
unfolding dead some
dead_none r p h = rw h (or_neither _ _ (and-false (eqb r.z 0)) refl)

taken_zero : (f : AcceptedFile) (b : BoundCall f) (k : ℕ) → k < region_count (family_of f.file)
    → EmptyRegion (family_of f.file) (region (family_of f.file) k) → get_or b.taken k 1 ≡ 0
unfolding taken_of taken_bytes
taken_zero f b k few empty =
    ap (λ (l : List ℕ). get_or l k 1) (b.writes_taken ∙ writes _ clear (taken_of F S) b.old_taken)
    ∙ get_or-append (taken_of F S) _ 1 k
    (omega (arith, ap length (over_regions F byte), length_tabulate (region_count F) (λ k. byte (range_at F k))))
    ∙ ap (λ (l : List ℕ). get_or l k 1) (over_regions F byte)
    ∙ get_d_tabulate (region_count F) (λ k. byte (range_at F k)) 1 k few
    ∙ ap bit (empty_not_taken (accepted_laminar f.file f.bytes f.accepted) (range_at F k) (range_in F k few) (none_held f k few empty) (selected S))
  where
    F : Family
    F = family_of f.file

    S : List ℕ
    S = b.selection

    byte : Range → ℕ
    byte r = bit (is_taken F.peptides (ranges_of F) (selected S) r)

    clear : first_cause (selection_causes f.file S b.old_taken) ≡ 0
    clear = selection_clear f.file S (length b.old_taken) f.accepted b.is_selection b.taken_room

-- Regions with the same peptides.

-- a range without a peptide has at most its z of any set
no_count : (m : ℕ) (A : Peptides) (x : Range) → ((p : ℕ) → has x p ≡ false) → count m A x ≤ x.z
no_count m A x empty = omega (arith, count_none m x, count_mono m A none x (λ p a b h e. absurd (clash h (empty p))))

count_ends : (m : ℕ) (A : Peptides) (r q : Range) → r.low ≡ q.low → r.high ≡ q.high → count m A r ≡ count m A q
unfolding count has
count_ends m A r q l h = rw (l, h)

respects_covered : (f : AcceptedFile) (G : Family) (m : ℕ) (A : Peptides) → Covered (family_of f.file) G
    → Respects m (ranges_of G) A → Respects m (ranges_of (family_of f.file)) A
respects_covered f G m A cover h r i =
    let F = family_of f.file in
    let (k, few, e) = region_place F r i in
    rw e
    (⊎_elim
    (λ empty. no_count m A (range_at F k) (none_held f k few empty))
    (λ c. let (j, l, low, high, z) = c in omega (arith, count_ends m A (range_at F k) (range_at G j) low high, z, h (range_at G j) (range_in G j l)))
    (cover k few))

not_same : (a b : Bool) → not a ≡ not b → a ≡ b
not_same true true e = refl
not_same false false e = refl
not_same true false e = sym e
not_same false true e = sym e

module _ (f g : AcceptedFile) where
  abbrev F : Family
  F = family_of f.file

  abbrev G : Family
  G = family_of g.file

  covered_admissible : Covered F G → Covered G F → SameAdmissible F.peptides (ranges_of F) (ranges_of G)
  covered_admissible there back =
      record { there = λ A. respects_covered g F F.peptides A back; back = λ A. respects_covered f G F.peptides A there }

  covered_dead : Covered F G → Covered G F → (p : ℕ) → 1 ≤ p → p ≤ F.peptides → dead (ranges_of F) p ≡ dead (ranges_of G) p
  unfolding live
  covered_dead there back p some most =
      not_same (dead (ranges_of F) p) (dead (ranges_of G) p) (same_live (covered_admissible there back) p some most)

  covered_alike : F.peptides ≡ G.peptides → Covered F G → Covered G F → Alike F G
  covered_alike e there back =
      admissible_alike F G (accepted_laminar f.file f.bytes f.accepted) (accepted_laminar g.file g.bytes g.accepted) e
      (covered_admissible there back)

pub empty_leaves : EmptyLeaves
empty_leaves =
    record {
      leaf_measured =
          λ f p some most.
          leaf_not_empty (family_of f.file) p some (rw (sym (well_formed_lem f.file f.bytes f.accepted).lengths_sum) at most);
      holds_none = none_held;
      none_dead = λ f k few empty p. dead_none (range_at (family_of f.file) k) p (none_held f k few empty p);
      never_taken = taken_zero;
      same_dead = λ f g e. covered_dead f g;
      same_curves = covered_alike;
      same_file = λ f g e there back. demand_three.equal_if_alike f g (covered_alike f g e there back);
    }
