-- A set grown by the greedy walk over all counted peptides, with the members inside q: it shows the inside total of q.
use Prim.Native.Nat.{ℕ, ◌≤◌}
use mathlib.Core.List.{List}
use mathlib.Core.Logic.{⊎_elim}
use Rattle.bounds.specs.Ranges.{Range, Peptides, count, In}
use Rattle.bounds.specs.Bound.{total}
use Rattle.bounds.proofs.Basics.Counting.{Subset}
use Rattle.bounds.proofs.Basics.Nesting.{Inside, inner, inner_facts, inner_holds}
use Rattle.bounds.proofs.Theory.Laminar.{Laminar, member_hosts}
use Rattle.bounds.proofs.Theory.Greedy.{Walked, greedy, greedy_old, greedy_new, walked, walked_less}
use Rattle.bounds.proofs.Theory.Formula.{walked_total}
use Rattle.reduction.proofs.Basics.Listing.{listing, listing_facts, listing_among}

-- G respects the members of M inside q
abbrev pub RespectsIn : ℕ → List Range → Range → Peptides → Type 0
RespectsIn m M q G = (r : Range) → In r M → Inside r q → count m G r ≤ r.z

pub record Grown (m : ℕ) (M : List Range) (S : Peptides) (q : Range) (G : Peptides) : Type 0 where
  pub set : Peptides
  pub above : Subset m G set
  pub counted : Subset m set S
  pub respects : RespectsIn m M q set
  pub reaches : total m M S q ≤ count m set q

-- from any set G of counted peptides that respects those members
pub grow : {m : ℕ} {M : List Range} → Laminar m M → (S : Peptides) (q : Range) → In q M → (G : Peptides) → Subset m G S → RespectsIn m M q G
    → Grown m M S q G
grow {m} {M} l S q i G sub fits =
    record {
      set = greedy m (inner M q) G ps;
      above = λ p a b e. greedy_old m (inner M q) G ps p e;
      counted = λ p a b e. ⊎_elim (λ j. (listing_facts m S p j).chosen) (sub p a b) (greedy_new m (inner M q) G ps p e);
      respects = λ r j n. walk.respects r (inner_holds M j n);
      reaches = walked_total l q (member_hosts l q i) walk;
    }
  where
    ps : List ℕ
    ps = listing m S

    walk : Walked m (inner M q) S (greedy m (inner M q) G ps)
    walk =
        walked_less S (λ p a b e. listing_among m S p (record { positive = a; small = b; chosen = e }))
        (walked m (inner M q) G ps (λ r j. let f = inner_facts M q r j in fits r f.0 f.1))
