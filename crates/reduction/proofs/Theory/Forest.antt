-- Nested or disjoint ranges on n leaves, no two alike, are at most 2n - 1: of those that begin at one leaf, the shortest is counted
-- by that leaf, and each other one by the end of the next shorter one.
use Prim.Native.Nat.{ℕ, suc, ◌+◌, ◌*◌, ◌≤◌, ◌<◌}
use mathlib.Core.Bool.{Bool, true, ◌&&◌}
use mathlib.Core.List.{List, [], ◌∷◌}
use mathlib.Core.Logic.{◌⊎◌, inl, inr, ⊎_elim}
use mathlib.Core.Path.{◌≡◌, refl, sym}
use native.Mathlib.Omega.{arith}
use lib.Dec.{eqb, ltb}
use lib.ListN.{length}
use borrow.Author.Tests.{eqb-true, eqb-false, eq-eqb, ltb-true, lt-ltb}
use Rattle.bounds.specs.Ranges.{Range, Peptides, card, some, In}
use Rattle.bounds.proofs.Basics.Members.{some_in, some_found, test, and_l, and_r, and_both, refuted}
use Rattle.bounds.proofs.Basics.Counting.{card_mono, card_less, card_most}
use Rattle.reduction.proofs.Basics.Grid.{before_same, before_le, FileOrder}
use Rattle.reduction.proofs.Basics.Plain.{Nest, apart, apart', within, around}

-- a range on the leaves 1 to n
pub record KeyOnLeaves (n : ℕ) (r : Range) : Type 0 where
  pub starts : 1 ≤ r.from
  pub order : r.from ≤ r.to
  pub ends : r.to ≤ n

-- a list of them, in file order, nested or disjoint
pub record Planted (n : ℕ) (M : List Range) : Type 0 where
  pub ordered : FileOrder M
  pub on : (x : Range) → In x M → KeyOnLeaves n x
  pub nest : (x y : Range) → In x M → In y M → Nest x y

planted_tail : {n : ℕ} {r : Range} {M : List Range} → Planted n (r ∷ M) → Planted n M
planted_tail p = record { ordered = p.ordered.1; on = λ x i. p.on x (inr i); nest = λ x y i j. p.nest x y (inr i) (inr j) }

-- A range begins at leaf p.

begins : List Range → Peptides
begins M p = some (λ r. eqb r.from p) M

begins_holds : (M : List Range) (r : Range) → In r M → begins M r.from ≡ true
unfolding begins
begins_holds M r i = some_in (λ t. eqb t.from r.from) M r i (eq-eqb r.from r.from refl)

begins_more : (r : Range) (M : List Range) (p : ℕ) → begins M p ≡ true → begins (r ∷ M) p ≡ true
unfolding begins
begins_more r M p e = let f = some_found (λ t. eqb t.from p) M e in some_in (λ t. eqb t.from p) (r ∷ M) f.it (inr f.member) f.passes

-- A range ends at leaf p, and a longer one begins where it begins.

shorter : List Range → Range → Bool
shorter M t = some (λ r. eqb r.from t.from && ltb t.to r.to) M

ends : List Range → Peptides
ends M p = some (λ t. eqb t.to p && shorter M t) M

record Ends (M : List Range) (p : ℕ) : Type 0 where
  range : Range
  member : In range M
  longer : Range
  other : In longer M
  is : range.to ≡ p
  same : longer.from ≡ range.from
  less : range.to < longer.to

ends_facts : (M : List Range) (p : ℕ) → ends M p ≡ true → Ends M p
unfolding ends shorter
ends_facts M p e =
    let f = some_found (λ t. eqb t.to p && shorter M t) M e in
    let t = f.it in
    let g = some_found (λ r. eqb r.from t.from && ltb t.to r.to) M (and_r (eqb t.to p) (shorter M t) f.passes) in
    let r = g.it in
    record {
      range = t;
      member = f.member;
      longer = r;
      other = g.member;
      is = eqb-true t.to p (and_l _ (shorter M t) f.passes);
      same = eqb-true r.from t.from (and_l _ (ltb t.to r.to) g.passes);
      less = ltb-true t.to r.to (and_r (eqb r.from t.from) _ g.passes);
    }

ends_holds : (M : List Range) (p : ℕ) → Ends M p → ends M p ≡ true
unfolding ends shorter
ends_holds M p b =
    let t = b.range in
    let r = b.longer in
    let long = and_both (eqb r.from t.from) _ (eq-eqb r.from t.from b.same) (lt-ltb t.to r.to b.less) in
    let short : shorter M t ≡ true = some_in (λ r. eqb r.from t.from && ltb t.to r.to) M r b.other long in
    some_in (λ t. eqb t.to p && shorter M t) M t b.member (and_both (eqb t.to p) (shorter M t) (eq-eqb t.to p b.is) short)

ends_more : (r : Range) (M : List Range) (p : ℕ) → ends M p ≡ true → ends (r ∷ M) p ≡ true
ends_more r M p e =
    let b = ends_facts M p e in
    ends_holds (r ∷ M) p
    (record {
      range = b.range;
      member = inr b.member;
      longer = b.longer;
      other = inr b.other;
      is = b.is;
      same = b.same;
      less = b.less;
    })

-- One more range r in front.

-- it begins at a leaf of its own
new_begin : (n : ℕ) (r : Range) (M : List Range) → KeyOnLeaves n r → ((t : Range) → In t M → r.from < t.from)
    → card n (begins M) < card n (begins (r ∷ M))
unfolding begins
new_begin n r M o h =
    card_less n r.from (begins M) (begins (r ∷ M)) (λ p l u e. begins_more r M p e) o.starts (omega arith) (refuted (begins M r.from) old)
    (begins_holds (r ∷ M) r (inl refl))
  where
    old : begins M r.from ≡ true → ⊥
    old e =
        let f = some_found (λ t. eqb t.from r.from) M e in
        omega (arith, h f.it f.member, eqb-true f.it.from r.from f.passes)

-- nested or disjoint ranges do not cross
no_cross : (t v : Range) → Nest t v → t.from < v.from → v.from ≤ t.to → t.to < v.to → ⊥
no_cross t v (apart h) a b c = omega arith
no_cross t v (apart' h) a b c = omega arith
no_cross t v (within h k) a b c = omega arith
no_cross t v (around h k) a b c = omega arith

-- it begins where the next range t begins: the end of t is new, since no later range that ends with t is shorter than another
new_end : (n : ℕ) (r t : Range) (M : List Range) → Planted n (r ∷ t ∷ M) → r.from ≡ t.from → card n (ends (t ∷ M)) < card n (ends (r ∷ t ∷ M))
new_end n r t M p e =
    card_less n t.to (ends (t ∷ M)) (ends (r ∷ t ∷ M)) (λ x l u f. ends_more r (t ∷ M) x f) (omega (arith, here)) here.ends
    (refuted (ends (t ∷ M) t.to) (λ f. old (ends_facts (t ∷ M) t.to f)))
    (ends_holds (r ∷ t ∷ M) t.to
    (record {
      range = t;
      member = inr (inl refl);
      longer = r;
      other = inl refl;
      is = refl;
      same = e;
      less = before_same r t (p.ordered.0 t (inl refl)) e;
    }))
  where
    here : KeyOnLeaves n t
    here = p.on t (inr (inl refl))

    later : (x : Range) → In x (t ∷ M) → (t.from < x.from) ⊎ (x.to ≤ t.to)
    later x (inl d) = inr (rw d (omega arith))
    later x (inr i) = ⊎_elim inl (λ h. inr (omega (arith, h))) (p.ordered.1.0 x i)

    old : Ends (t ∷ M) t.to → ⊥
    old b = ⊎_elim cross (λ h. omega (arith, b.less, b.is)) (later b.longer b.other)
      where
        cross : t.from < b.longer.from → ⊥
        cross h =
            let meets : b.longer.from ≤ t.to = omega (arith, b.same, b.is, p.on b.range (inr b.member)) in
            no_cross t b.longer (p.nest t b.longer (inr (inl refl)) (inr b.other)) h meets (omega (arith, b.is, b.less))

-- if the next range begins later, all do
all_later : (r t : Range) (M : List Range) → FileOrder (r ∷ t ∷ M) → (t.from ≡ r.from → ⊥) → (x : Range) → In x (t ∷ M) → r.from < x.from
all_later r t M o n x (inl e) = rw e (omega (arith, n, before_le r t (o.0 t (inl refl))))
all_later r t M o n x (inr i) = omega (arith, n, before_le r t (o.0 t (inl refl)), before_le t x (o.1.0 x i))

count_forest : (n : ℕ) (M : List Range) → Planted n M → length M ≤ card n (begins M) + card n (ends M)
count_forest n [] p = omega arith
count_forest n (r ∷ []) p = omega (arith, new_begin n r [] (p.on r (inl refl)) (λ t i. absurd i))
count_forest n (r ∷ t ∷ M) p =
    let rest = count_forest n (t ∷ M) (planted_tail p) in
    let more-begins = card_mono n (begins (t ∷ M)) (begins (r ∷ t ∷ M)) (λ x l u e. begins_more r (t ∷ M) x e) in
    let more-ends = card_mono n (ends (t ∷ M)) (ends (r ∷ t ∷ M)) (λ x l u e. ends_more r (t ∷ M) x e) in
    ⊎_elim (λ e. omega (arith, new_end n r t M p (sym (eqb-true t.from r.from e))))
    (λ e. omega (arith, new_begin n r (t ∷ M) (p.on r (inl refl)) (all_later r t M p.ordered (eqb-false t.from r.from e))))
    (test (eqb t.from r.from))

-- At most 2n - 1 of them: no leaf is counted more than once in each way, and the last leaf is no end of a shorter range.
pub forest : (n : ℕ) (M : List Range) → 1 ≤ n → Planted n M → suc (length M) ≤ 2 * n
forest n M h p = omega (arith, count_forest n M p, card_most n (begins M), card_most n (λ x. true), fewer)
  where
    last : Ends M n → ⊥
    last b = omega (arith, b.is, b.less, (p.on b.longer b.other).ends)

    fewer : card n (ends M) < card n (λ x. true)
    fewer = card_less n n (ends M) (λ x. true) (λ x l u e. refl) h (omega arith) (refuted (ends M n) (λ e. last (ends_facts M n e))) refl
