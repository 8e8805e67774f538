-- The longest runs of dead peptides: the test in facts, the run that holds a given dead peptide, and how two runs lie.
use Prim.Native.Nat.{ℕ, suc, ◌+◌, ◌-◌, ◌≤◌, ◌<◌}
use mathlib.Core.Bool.{true, false, ◌&&◌, ◌||◌}
use mathlib.Core.List.{List}
use mathlib.Core.Logic.{◌⊎◌, inl, inr, ⊎_elim}
use mathlib.Core.Path.{◌≡◌, refl, sym}
use native.Mathlib.Nat.{eq-zero-or-pos, eq-or-lt_of_le}
use native.Mathlib.Omega.{arith}
use lib.Dec.{ltb, eqb}
use borrow.Author.Tests.{eqb-true, eq-eqb, ltb-true, lt-ltb}
use Rattle.bounds.specs.Ranges.{Range, Peptides, has, count}
use Rattle.bounds.proofs.Basics.Members.{clash, and_l, and_r, and_both, or_l, or_r, or_either, refuted, le_or_lt}
use Rattle.bounds.proofs.Basics.Counting.{SameSet}
use Rattle.bounds.proofs.Basics.Nesting.{has_facts, has_holds}
use Rattle.reduction.specs.Reduction.{piece, live, first_of, last_of, is_dead_run}
use Rattle.reduction.proofs.Basics.Unless.{le_unless}
use Rattle.reduction.proofs.Basics.Counts.{count_zero, count_one}
use Rattle.reduction.proofs.Basics.FirstLast.{first_of_small, first_of_member, first_of_at_most, last_of_small, last_of_member, last_of_at_least}

-- a..b is a longest run of peptides of 1 to m outside the set L of live ones
pub record DeadRun (m : ℕ) (L : Peptides) (a b : ℕ) : Type 0 where
  pub positive : 1 ≤ a
  pub order : a ≤ b
  pub small : b ≤ m
  pub dead : (p : ℕ) → a ≤ p → p ≤ b → L p ≡ false
  pub left : (a ≡ 1) ⊎ (L (a - 1) ≡ true)
  pub right : (b ≡ m) ⊎ (L (b + 1) ≡ true)

-- the peptides of a piece
pub piece_has : (a b z p : ℕ) → 1 ≤ a → a ≤ p → p ≤ b → has (piece a b z) p ≡ true
piece_has a b z p h l u = has_holds (record { above = omega arith; upto = u })

pub has_piece : (a b z p : ℕ) → has (piece a b z) p ≡ true → (a ≤ p) × (p ≤ b)
has_piece a b z p e = let f = has_facts (piece a b z) p e in omega arith

module _ (m : ℕ) (R : List Range) (a b : ℕ) where
  abbrev lives : ℕ
  lives = count m (live R) (piece a b 0)

  pub run_facts : 1 ≤ a → a ≤ b → b ≤ m → is_dead_run m R a b ≡ true → DeadRun m (live R) a b
  unfolding is_dead_run
  run_facts h k l e =
      let front = and_l (eqb lives 0 && (eqb a 1 || live R (a - 1))) (eqb b m || live R (b + 1)) e in
      let empty : lives ≡ 0 = eqb-true lives 0 (and_l (eqb lives 0) _ front) in
      let before = or_either (eqb a 1) (live R (a - 1)) (and_r (eqb lives 0) _ front) in
      let after = or_either (eqb b m) (live R (b + 1)) (and_r (eqb lives 0 && (eqb a 1 || live R (a - 1))) _ e) in
      record {
        positive = h;
        order = k;
        small = l;
        dead = λ p u v.
            refuted (live R p) (λ t. omega (arith, count_one m (live R) (piece a b 0) p (omega arith) (omega arith) (piece_has a b 0 p h u v) t));
        left = ⊎_elim (λ t. inl (eqb-true a 1 t)) inr before;
        right = ⊎_elim (λ t. inl (eqb-true b m t)) inr after;
      }

  pub run_holds : DeadRun m (live R) a b → is_dead_run m R a b ≡ true
  unfolding is_dead_run
  run_holds d =
      let empty : lives ≡ 0 = count_zero m (live R) (piece a b 0) (λ p l u h e. let f = has_piece a b 0 p h in clash e (d.dead p f.0 f.1)) in
      let before = ⊎_elim (λ e. or_l _ (live R (a - 1)) (eq-eqb a 1 e)) (or_r (eqb a 1) (live R (a - 1))) d.left in
      let after = ⊎_elim (λ e. or_l _ (live R (b + 1)) (eq-eqb b m e)) (or_r (eqb b m) (live R (b + 1))) d.right in
      and_both _ _ (and_both _ _ (eq-eqb lives 0 empty) before) after

-- runs go by the live peptides of 1 to m alone
pub run_same : {m : ℕ} {a b : ℕ} (L M : Peptides) → SameSet m L M → DeadRun m L a b → DeadRun m M a b
run_same {m} {a} {b} L M h d =
    record {
      positive = d.positive;
      order = d.order;
      small = d.small;
      dead = λ p u v. rw (← h p (omega (arith, d.positive)) (omega (arith, d.small))) (d.dead p u v);
      left = ⊎_elim (λ e. inl (sym e)) (λ k. ⊎_elim inl (before k) d.left) (eq-or-lt_of_le d.positive);
      right = ⊎_elim inl (λ k. ⊎_elim inl (after k) d.right) (eq-or-lt_of_le d.small);
    }
  where
    before : 1 < a → L (a - 1) ≡ true → (a ≡ 1) ⊎ (M (a - 1) ≡ true)
    before k t = inr (rw (← h (a - 1) (omega arith) (omega (arith, d.order, d.small))) t)

    after : b < m → L (b + 1) ≡ true → (b ≡ m) ⊎ (M (b + 1) ≡ true)
    after k t = inr (rw (← h (b + 1) (omega arith) (omega arith)) t)

-- How two runs lie: a longest run neither begins nor ends inside another.

pub run_begin : {m : ℕ} {L : Peptides} {a b c d : ℕ} → DeadRun m L a b → DeadRun m L c d → a ≤ d → a ≤ c
run_begin {L = L} {a = a} {c = c} p q h = le_unless a c (λ k. ⊎_elim (λ e. omega (arith, q.positive)) (inner k) p.left)
  where
    inner : c < a → L (a - 1) ≡ true → ⊥
    inner k t = clash t (q.dead (a - 1) (omega arith) (omega arith))

pub run_end : {m : ℕ} {L : Peptides} {a b c d : ℕ} → DeadRun m L a b → DeadRun m L c d → c ≤ b → d ≤ b
run_end {L = L} {b = b} {d = d} p q h = le_unless d b (λ k. ⊎_elim (λ e. omega (arith, q.small)) (inner k) p.right)
  where
    inner : b < d → L (b + 1) ≡ true → ⊥
    inner k t = clash t (q.dead (b + 1) (omega arith) (omega arith))

-- Every dead peptide p is in one: it begins after the last live peptide before p, and ends before the first live one after p.

pub record RunOf (m : ℕ) (L : Peptides) (p : ℕ) : Type 0 where
  pub a : ℕ
  pub b : ℕ
  pub run : DeadRun m L a b
  pub first : a ≤ p
  pub last : p ≤ b

module _ (m : ℕ) (L : Peptides) (p : ℕ) (h : 1 ≤ p) (k : p ≤ m) (dead : L p ≡ false) where
  -- the live peptides after p
  later : Peptides
  later q = ltb p q && L q

  later_facts : (q : ℕ) → later q ≡ true → (p < q) × (L q ≡ true)
  unfolding later
  later_facts q e = (ltb-true p q (and_l _ (L q) e), and_r (ltb p q) (L q) e)

  later_holds : (q : ℕ) → p < q → L q ≡ true → later q ≡ true
  unfolding later
  later_holds q l e = and_both (ltb p q) (L q) (lt-ltb p q l) e

  -- the last live peptide before p, or 0
  abbrev back : ℕ
  back = last_of (p - 1) L

  before_dead : (q : ℕ) → back < q → q ≤ p → L q ≡ false
  before_dead q l u = ⊎_elim (λ e. rw e dead) earlier (eq-or-lt_of_le u)
    where
      earlier : q < p → L q ≡ false
      earlier v = refuted (L q) (λ t. omega (arith, last_of_at_least (p - 1) L q (omega arith) (omega arith) t))

  before_end : (suc back ≡ 1) ⊎ (L (suc back - 1) ≡ true)
  before_end =
      let down : suc back - 1 ≡ back = omega arith in
      ⊎_elim (λ e. inl (omega arith)) (λ l. inr (rw down (last_of_member (p - 1) L l))) (eq-zero-or-pos back)

  -- the run up to b, where b is m or just before the first live peptide after p
  run_to : (b : ℕ) → p ≤ b → b ≤ m → ((q : ℕ) → p < q → q ≤ b → L q ≡ false) → (b ≡ m) ⊎ (L (b + 1) ≡ true) → RunOf m L p
  run_to b l u after end =
      let begins : suc back ≤ p = omega (arith, last_of_small (p - 1) L) in
      record {
        a = suc back;
        b = b;
        run =
            record {
              positive = omega arith;
              order = omega arith;
              small = u;
              dead = λ q v w. ⊎_elim (before_dead q v) (λ x. after q x w) (le_or_lt q p);
              left = before_end;
              right = end;
            };
        first = begins;
        last = l;
      }

  pub run_of : RunOf m L p
  run_of = ⊎_elim to_end to_live (eq-zero-or-pos next)
    where
      -- the first live peptide after p, or 0
      next : ℕ
      next = first_of m later

      none_before : (q : ℕ) → p < q → q ≤ m → L q ≡ true → (1 ≤ next) × (next ≤ q)
      none_before q l u t = first_of_at_most m later q (omega arith) u (later_holds q l t)

      to_end : next ≡ 0 → RunOf m L p
      to_end e = run_to m k (omega arith) (λ q l u. refuted (L q) (λ t. omega (arith, none_before q l u t))) (inl refl)

      to_live : 0 < next → RunOf m L p
      to_live l =
          let f = later_facts next (first_of_member m later l) in
          let s : next ≤ m = first_of_small m later in
          let up : next - 1 + 1 ≡ next = omega arith in
          let none : (q : ℕ) → p < q → q ≤ next - 1 → L q ≡ false = λ q v u. refuted (L q) (λ t. omega (arith, none_before q v (omega arith) t)) in
          run_to (next - 1) (omega arith) (omega arith) none (inr (rw up f.1))
