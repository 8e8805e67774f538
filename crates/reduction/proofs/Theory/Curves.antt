-- Equal curves, equal admissible sets and equal bounds are the same thing.
use Prim.Native.Nat.{ℕ, ◌+◌, ◌≤◌, ◌<◌}
use mathlib.Core.Bool.{false, ◌&&◌}
use mathlib.Core.List.{List}
use mathlib.Core.Path.{◌≡◌, sym, ◌∙◌, ap, fun_ext}
use native.Mathlib.Omega.{arith}
use lib.ListN.{length, get_or, take}
use lib.Seq.{take-length}
use Rattle.reader.specs.Lists.{tabulate}
use Rattle.reader.specs.Family.{Family}
use Rattle.reader.proofs.Lists.{get_d_tabulate}
use Rattle.reader.proofs.Bools.{passes}
use Rattle.bounds.specs.Ranges.{Range, Peptides, ranges_of, card}
use Rattle.bounds.specs.Bound.{bound, IsLargest}
use Rattle.bounds.specs.Selections.{selected, bound_of}
use Rattle.bounds.specs.Curves.{among, entry, curve_values}
use Rattle.bounds.proofs.Basics.Members.{clash, and_l, and_r, and_both, refuted}
use Rattle.bounds.proofs.Basics.Counting.{Subset, card_mono, card_less, count_mono}
use Rattle.bounds.proofs.Theory.Laminar.{Laminar}
use Rattle.bounds.proofs.Theory.Greedy.{Respects, respects_facts}
use Rattle.bounds.proofs.Theory.Formula.{formula3, bound_most, bound_same}
use Rattle.bounds.specs.Calls.{IsPath}
use Rattle.reduction.specs.Alike.{Alike, SameBounds}
use Rattle.reduction.proofs.Basics.Selected.{set_bytes, set_selection, set_selected}
use Rattle.reduction.proofs.Basics.Listing.{listing, among_listing, listing_among, listing_path}
use Rattle.reduction.proofs.Theory.Live.{SameAdmissible}

-- With the same admissible sets every selection has the same bound.

bound_no_more : {m : ℕ} {Q R : List Range} → Laminar m Q → Laminar m R → ((A : Peptides) → Respects m Q A → Respects m R A)
    → (S : Peptides) → bound m Q S ≤ bound m R S
bound_no_more {m} {Q} lQ lR there S =
    let f = formula3 lQ S in
    omega (arith, f.reached, bound_most lR S f.witness (there f.witness (respects_facts m Q f.witness f.admissible)))

same_bounds : {m : ℕ} {Q R : List Range} → Laminar m Q → Laminar m R → SameAdmissible m Q R → (S : Peptides) → bound m Q S ≡ bound m R S
same_bounds lQ lR same S = omega (arith, bound_no_more lQ lR same.there S, bound_no_more lR lQ same.back S)

-- With bounds no smaller, along every path, every admissible set is admissible: the path of the set ends at the set's size,
-- so the largest admissible set on that path has all of it.

module _ {m : ℕ} {Q R : List Range} (lQ : Laminar m Q) (lR : Laminar m R)
    (less : (path : List ℕ) → IsPath m path → bound m Q (among path) ≤ bound m R (among path)) (A : Peptides) (h : Respects m Q A) where
  path : List ℕ
  path = listing m A

  largest : IsLargest m R (among path) (bound m R (among path))
  largest = formula3 lR (among path)

  abbrev W : Peptides
  W = largest.witness

  size : card m A ≤ card m (λ p. W p && among path p)
  unfolding path
  size =
      let on : Subset m A (λ p. A p && among path p) =
      λ p l u e. and_both (A p) (among path p) e (listing_among m A p (record { positive = l; small = u; chosen = e }))
      in
      omega (arith, card_mono m A (λ p. A p && among path p) on, bound_most lQ (among path) A h, less path (listing_path m A), largest.reached)

  all : Subset m A W
  unfolding path
  all p l u e = passes (W p) (λ t. omega (arith, size, fewer t))
    where
      fewer : W p ≡ false → card m (λ q. W q && among path q) < card m A
      fewer t =
          card_less m p (λ q. W q && among path q) A (λ q k v f. (among_listing m A q (and_r (W q) (among path q) f)).chosen) l u
          (refuted _ (λ f. clash (and_l (W p) (among path p) f) t)) e

  bounds_admissible : Respects m R A
  bounds_admissible r i = omega (arith, respects_facts m R W largest.admissible r i, count_mono m A W r (λ p l u k e. all p l u e))

-- Two families.

-- the last entry is the bound of the whole path
last_entry : (F : Family) (path : List ℕ) → get_or (curve_values F path) (length path) 0 ≡ bound F.peptides (ranges_of F) (among path)
unfolding curve_values entry
last_entry F path =
    get_d_tabulate (length path + 1) (entry F path) 0 (length path) (omega arith)
    ∙ ap (λ l. bound F.peptides (ranges_of F) (among l)) (take-length path)

module _ (F G : Family) (lF : Laminar F.peptides (ranges_of F)) (lG : Laminar G.peptides (ranges_of G)) where
  -- the set has the same bound in both
  abbrev Equal : Peptides → Type 0
  Equal S = bound F.peptides (ranges_of F) S ≡ bound G.peptides (ranges_of G) S

  paths_admissible : F.peptides ≡ G.peptides → ((path : List ℕ) → IsPath F.peptides path → Equal (among path))
      → SameAdmissible F.peptides (ranges_of F) (ranges_of G)
  paths_admissible e same =
      record {
        there = bounds_admissible lF l_g' (λ path h. omega (arith, last path h));
        back = bounds_admissible l_g' lF (λ path h. omega (arith, last path h));
      }
    where
      l_g' : Laminar F.peptides (ranges_of G)
      l_g' = rw e lG

      last : (path : List ℕ) → IsPath F.peptides path
          → bound F.peptides (ranges_of F) (among path) ≡ bound F.peptides (ranges_of G) (among path)
      last path h = same path h ∙ ap (λ n. bound n (ranges_of G) (among path)) (sym e)

  admissible_equal : F.peptides ≡ G.peptides → SameAdmissible F.peptides (ranges_of F) (ranges_of G) → (S : Peptides) → Equal S
  admissible_equal e same S = same_bounds lF (rw e lG) same S ∙ ap (λ n. bound n (ranges_of G) S) e

  -- Families with the same curves have the same admissible sets,
  pub alike_admissible : Alike F G → SameAdmissible F.peptides (ranges_of F) (ranges_of G)
  alike_admissible a =
      paths_admissible a.peptides
      (λ path h. sym (last_entry F path) ∙ ap (λ l. get_or l (length path) 0) (a.curves path h) ∙ last_entry G path)

  -- and families with the same admissible sets have the same curves.
  pub admissible_alike : F.peptides ≡ G.peptides → SameAdmissible F.peptides (ranges_of F) (ranges_of G) → Alike F G
  unfolding curve_values entry
  admissible_alike e same =
      record { peptides = e; curves = λ path h. ap (tabulate (length path + 1)) (fun_ext (λ t. admissible_equal e same (among (take t path)))) }

  -- Families with the same bounds have the same curves, since a set has the bound of its bytes,
  pub bounds_alike : SameBounds F G → Alike F G
  unfolding bound_of
  bounds_alike s = admissible_alike s.peptides (paths_admissible s.peptides (λ path h. all (among path)))
    where
      all : (S : Peptides) → Equal S
      all S =
          let m : ℕ = F.peptides in
          bound_same lF S (selected (set_bytes m S)) (λ p l u. sym (set_selected m S p l u))
          ∙ s.bounds (set_bytes m S) (set_selection m S)
          ∙ bound_same lG (selected (set_bytes m S)) S (λ p l u. set_selected m S p l (rw s.peptides u))

  -- and families with the same curves have the same bounds.
  pub alike_bounds : Alike F G → SameBounds F G
  unfolding bound_of
  alike_bounds a = record { peptides = a.peptides; bounds = λ selection h. admissible_equal a.peptides (alike_admissible a) (selected selection) }
