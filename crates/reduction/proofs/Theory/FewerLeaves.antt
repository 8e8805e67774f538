-- The reduced family has no more leaves than the family: every leaf end of the reduced family is one of the family.
use Prim.Native.Nat.{ℕ, zero, suc, ◌-◌, ◌≤◌, ◌<◌}
use mathlib.Core.Bool.{true, false}
use mathlib.Core.Logic.{⊎_elim}
use mathlib.Core.Path.{◌≡◌, sym, ◌∙◌, ap}
use native.Mathlib.Omega.{arith}
use lib.Seq.{take-length}
use Rattle.reader.specs.Lists.{sum}
use Rattle.reader.specs.Family.{Family, leaves, region, peptides_up_to}
use Rattle.bounds.specs.Ranges.{Range, Peptides, card, range_of, ranges_of}
use Rattle.bounds.proofs.Basics.Members.{le_or_lt, refuted}
use Rattle.bounds.proofs.Theory.Laminar.{Laminar}
use Rattle.reader.proofs.Walk.{up_to_mono}
use Rattle.reduction.specs.Reduction.{reduced, ends_leaf, reduced_family}
use Rattle.reduction.proofs.Basics.Counts.{card_step}
use Rattle.reduction.proofs.Theory.Cuts.{Edge, cut_edge}
use Rattle.reduction.proofs.Theory.Regions.{region_place}
use Rattle.reduction.proofs.Theory.WrittenFamily.{written_leaves}

module _ (F : Family) (sums : sum F.lengths ≡ F.peptides) (l : Laminar F.peptides (ranges_of F)) where
  -- the leaf ends of the reduced family
  ends : Peptides
  ends = ends_leaf F.peptides (reduced F.peptides (ranges_of F))

  up_to_all : peptides_up_to F (leaves F) ≡ F.peptides
  unfolding peptides_up_to
  up_to_all = ap sum (take-length F.lengths) ∙ sums

  -- p is a leaf end of the family
  abbrev LeafEnd : ℕ → Type 0
  LeafEnd p = (j : ℕ) × (p ≡ peptides_up_to F j)

  edge_end : {p : ℕ} → Edge (ranges_of F) p → LeafEnd p
  unfolding range_of
  edge_end c =
      let (k, h, e) = region_place F c.range c.member in
      let r = region F k in
      ⊎_elim (λ d. (r.first - 1, d ∙ ap (λ (t : Range). t.low) e)) (λ d. (r.last, d ∙ ap (λ (t : Range). t.high) e)) c.side

  leaf_end : (p : ℕ) → 1 ≤ p → ends p ≡ true → LeafEnd p
  unfolding ends
  leaf_end p h e = ⊎_elim (λ d. (leaves F, d ∙ sym up_to_all)) edge_end (cut_edge l p h e)

  -- none lies strictly between two neighbouring leaf ends of the family
  between : (j x : ℕ) → peptides_up_to F j < x → x < peptides_up_to F (suc j) → LeafEnd x → ⊥
  between j x a b (i, e) = ⊎_elim (λ h. omega (arith, up_to_mono F i j h)) (λ h. omega (arith, up_to_mono F (suc j) i h)) (le_or_lt i j)

  none_between : (j x : ℕ) → peptides_up_to F j < x → x < peptides_up_to F (suc j) → ends x ≡ false
  none_between j x a b = refuted (ends x) (λ e. between j x a b (leaf_end x (omega arith) e))

  ends_most : (j : ℕ) → card (peptides_up_to F j) ends ≤ j
  ends_most zero = unfold peptides_up_to sum card in omega arith
  ends_most (suc j) =
      omega (arith, ends_most j, card_step ends (peptides_up_to F j) (peptides_up_to F (suc j)) (up_to_mono F j (suc j) (omega arith)) (none_between j))

  pub no_new_leaves : leaves (reduced_family F) ≤ leaves F
  unfolding reduced_family ends
  no_new_leaves =
      let m = F.peptides in
      omega (arith, written_leaves m (reduced m (ranges_of F)), ends_most (leaves F), ap (λ p. card p ends) up_to_all)
