-- The leaf of a peptide: what `leaf_of` finds in an accepted family, by its promise.
use Rattle.std.proofs.Common.{◌≡◌, ℕ, ◌+◌, ◌-◌, ◌<◌, ◌≤◌, ltb, refl, subst, ⊎_elim, arith, ltb-false, ltb-true}
use Rattle.reader.specs.Lists.{sum}
use Rattle.reader.specs.Family.{Family, family_of, leaves, leaf_length, leaf_of, peptides_up_to}
use Rattle.reader.specs.Causes.{AcceptedFile}
use Rattle.reader.proofs.Bools.{test}
use Rattle.reader.proofs.Accepting.{well_formed_lem}
use Rattle.reader.proofs.Walk.{FirstReaching, up_to_mono, up_to_leaf, leaf_found, leaf_not_empty}
use Rattle.leaves.specs.AcceptedCalls.{LeafCall, OfLeaf}

pub record LeafLaws : Type 0 where
  -- Of every peptide there is such a call. Of the leaf that it answers:
  pub every : (f : AcceptedFile) (p : ℕ) → 1 ≤ p → p ≤ (family_of f.file).peptides → (c : LeafCall f) × (c.peptide ≡ p)
  -- It is one of the N.
  pub a_leaf : (f : AcceptedFile) (c : LeafCall f) → (1 ≤ c.leaf) × (c.leaf ≤ leaves (family_of f.file))
  -- The lengths up to it add to at least the peptide's number,
  pub reaches : (f : AcceptedFile) (c : LeafCall f) → c.peptide ≤ peptides_up_to (family_of f.file) c.leaf
  -- and those up to the leaf before it to less, as do those up to any leaf before it: it is the first.
  pub less_before : (f : AcceptedFile) (c : LeafCall f) → peptides_up_to (family_of f.file) (c.leaf - 1) < c.peptide
  pub first : (f : AcceptedFile) (c : LeafCall f) (j : ℕ) → j < c.leaf → peptides_up_to (family_of f.file) j < c.peptide
  -- It has a peptide,
  pub not_empty : (f : AcceptedFile) (c : LeafCall f) → 1 ≤ leaf_length (family_of f.file) c.leaf
  -- this one is its own,
  pub own : (f : AcceptedFile) (c : LeafCall f) → OfLeaf (family_of f.file) c.leaf c.peptide
  -- and no other leaf's.
  pub only : (f : AcceptedFile) (c : LeafCall f) (j : ℕ) → 1 ≤ j → OfLeaf (family_of f.file) j c.peptide → j ≡ c.leaf

-- the peptides up to a leaf are those up to the leaf before, and its own
last_leaf : (F : Family) (j : ℕ) → 1 ≤ j → peptides_up_to F j ≡ peptides_up_to F (j - 1) + leaf_length F j
last_leaf F j some =
    let here : j - 1 + 1 ≡ j = omega arith in
    subst (λ (i : ℕ). peptides_up_to F i ≡ peptides_up_to F (j - 1) + leaf_length F i) here (up_to_leaf F (j - 1))

module _ (f : AcceptedFile) (c : LeafCall f) where
  abbrev F : Family
  F = family_of f.file

  most : c.peptide ≤ sum F.lengths
  most = omega (arith, c.most, (well_formed_lem f.file f.bytes f.accepted).lengths_sum)

  found : FirstReaching F c.peptide c.leaf
  found = rw c.promised (leaf_found F c.peptide c.some most)

  has_peptide : 1 ≤ leaf_length F c.leaf
  has_peptide = rw c.promised (leaf_not_empty F c.peptide c.some most)

  is_own : OfLeaf F c.leaf c.peptide
  is_own = record { after = found.first (c.leaf - 1) (omega (arith, found.some)); upto = omega (arith, found.reaches, last_leaf F c.leaf found.some) }

  no_other : (j : ℕ) → 1 ≤ j → OfLeaf F j c.peptide → j ≡ c.leaf
  no_other j some own =
      ⊎_elim
      (λ t. absurd (omega (arith, own.upto, last_leaf F j some, found.first j (ltb-true j c.leaf t))))
      (λ u.
      ⊎_elim
      (λ t. absurd (omega (arith, own.after, found.reaches, up_to_mono F c.leaf (j - 1) (omega (arith, ltb-true c.leaf j t)))))
      (λ v. omega (arith, ltb-false j c.leaf u, ltb-false c.leaf j v))
      (test (ltb c.leaf j)))
      (test (ltb j c.leaf))

pub leaf_laws : LeafLaws
leaf_laws =
    record {
      every = λ f p some most. (record { peptide = p; some = some; most = most; leaf = leaf_of (family_of f.file) p; promised = refl }, refl);
      a_leaf = λ f c. ((found f c).some, (found f c).leaf);
      reaches = λ f c. (found f c).reaches;
      less_before = λ f c. (is_own f c).after;
      first = λ f c. (found f c).first;
      not_empty = has_peptide;
      own = is_own;
      only = no_other;
    }
