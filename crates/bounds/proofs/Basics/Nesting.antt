-- Ranges inside one another: the tests read as inequalities, the parts of a range, and the two ways to go, inward and outward.
--   Has                          p is one of r's peptides: above its low end, and not above its high end
--   has_facts, has_holds         the test `has`, read as that, and the way back
--   Inside                       the key of r lies in the key of q, and is shorter
--   inside_facts, inside_holds   the test `inside`, read as that, and the way back
--   inside_trans                 what is inside a range that is inside q is inside q
--   inside_self                  no range is inside itself
--   JustInside                   r is inside q, with no member of R between them
--   just_facts, just_holds       the test `just_inside`, read as that, and the way back
--   Part                         r is a part of q: a member of R that is just inside q
--   part_facts, part_holds       the members of the list `parts` are the parts
--   inner                        the list of the members of R inside q
--   inner_facts, inner_holds     what is in that list is a member of R and inside q, and the way back
--   deep                         how many members of R are inside q
--   deep_less                    fewer are inside a member inside q
--   deep_most                    they are at most as many as R has
--   Below                        P holds of every member inside q
--   inward                       what a range has as soon as the members inside it have it, every range has
--   AtOrIn                       t is it, or inside it
--   Widest                       of the members inside q that pass the test, one around t or t itself, with no other around it
--   widest                       there is such a one for every member t inside q that passes
--   part_around                  a member inside q is a part of q, or inside one
use Prim.Native.Nat.{ℕ, zero, suc, ◌+◌, ◌≤◌, ◌<◌}
use mathlib.Core.Bool.{Bool, true, false, not, ◌&&◌}
use mathlib.Core.List.{List}
use mathlib.Core.Logic.{◌⊎◌, inl, inr, ⊎_elim}
use mathlib.Core.Path.{◌≡◌, refl, ap}
use native.Mathlib.Omega.{arith}
use lib.ListN.{length}
use borrow.Author.Tests.{leb-true, le-leb, ltb-true, lt-ltb, not-true}
use Rattle.bounds.specs.Ranges.{Range, has, some, those, sum_over, within, inside, just_inside, parts, In}
use Rattle.bounds.proofs.Basics.Members.{le_or_lt, clash, refuted, and_l, and_r, and_both, ands, bit, bit_mono, Found, nowhere_facts, nowhere_holds, search_for, in_those, those_in, sum_mono, sum_less, sum_ones}

-- The tests as inequalities.

pub record Has (r : Range) (p : ℕ) : Type 0 where
  pub above : r.low < p
  pub upto : p ≤ r.high

pub has_facts : (r : Range) (p : ℕ) → has r p ≡ true → Has r p
unfolding has
has_facts r p e = record { above = ltb-true r.low p (search ands); upto = leb-true p r.high (search ands) }

pub has_holds : {r : Range} {p : ℕ} → Has r p → has r p ≡ true
unfolding has
has_holds h = search (ands, lt-ltb, le-leb)

pub record Inside (r q : Range) : Type 0 where
  pub left : q.from ≤ r.from
  pub right : r.to ≤ q.to
  pub less : q.from + r.to < r.from + q.to

within_facts : (r q : Range) → within r q ≡ true → (q.from ≤ r.from) × (r.to ≤ q.to)
unfolding within
within_facts r q e = (leb-true q.from r.from (search ands), leb-true r.to q.to (search ands))

within_holds : (r q : Range) → q.from ≤ r.from → r.to ≤ q.to → within r q ≡ true
unfolding within
within_holds r q l u = search (ands, le-leb)

pub inside_facts : (r q : Range) → inside r q ≡ true → Inside r q
unfolding inside
inside_facts r q e =
    let w = within_facts r q (and_l (within r q) (not (within q r)) e) in
    let back : within q r ≡ false = not-true (within q r) (and_r (within r q) (not (within q r)) e) in
    ⊎_elim (λ h. absurd (clash (within_holds q r (omega arith) (omega arith)) back)) (λ h. omega arith)
    (le_or_lt (r.from + q.to) (q.from + r.to))

pub inside_holds : {r q : Range} → Inside r q → inside r q ≡ true
unfolding inside
inside_holds {r} {q} i =
    let back : within q r ≡ false = refuted (within q r) (λ e. omega (arith, within_facts q r e)) in
    and_both (within r q) (not (within q r)) (within_holds r q i.left i.right) (ap not back)

pub inside_trans : {r t q : Range} → Inside r t → Inside t q → Inside r q
inside_trans i j = omega arith

pub inside_self : {r : Range} → Inside r r → ⊥
inside_self i = omega arith

pub record JustInside (R : List Range) (r q : Range) : Type 0 where
  pub inner : Inside r q
  pub next : (t : Range) → In t R → Inside r t → Inside t q → ⊥

pub just_facts : (R : List Range) (r q : Range) → just_inside R r q ≡ true → JustInside R r q
unfolding just_inside
just_facts R r q e =
    let free = nowhere_facts (λ t. inside r t && inside t q) R (search ands) in
    record { inner = inside_facts r q (search ands); next = λ t i rt tq. free t i (search (ands, inside_holds)) }

pub just_holds : {R : List Range} {r q : Range} → JustInside R r q → just_inside R r q ≡ true
unfolding just_inside
just_holds {R} {r} {q} j =
    let between : Range → Bool = λ t. inside r t && inside t q in
    let free = nowhere_holds between R (λ t i e. j.next t i (inside_facts r t (search ands)) (inside_facts t q (search ands))) in
    and_both (inside r q) (not (some between R)) (inside_holds j.inner) free

-- The parts of q, the members just inside it, and all members inside it.

pub record Part (R : List Range) (r q : Range) : Type 0 where
  pub member : In r R
  pub just : JustInside R r q

pub part_facts : (R : List Range) (q r : Range) → In r (parts R q) → Part R r q
unfolding parts
part_facts R q r i = let f = those_in (λ r. just_inside R r q) R r i in record { member = f.0; just = just_facts R r q f.1 }

pub part_holds : {R : List Range} {r q : Range} → Part R r q → In r (parts R q)
unfolding parts
part_holds {R} {r} {q} p = in_those (λ r. just_inside R r q) R r p.member (just_holds p.just)

unfoldable pub inner : List Range → Range → List Range
inner R q = those (λ t. inside t q) R

pub inner_facts : (R : List Range) (q t : Range) → In t (inner R q) → In t R × Inside t q
unfolding inner
inner_facts R q t i = let f = those_in (λ t. inside t q) R t i in (f.0, inside_facts t q f.1)

pub inner_holds : (R : List Range) {t q : Range} → In t R → Inside t q → In t (inner R q)
unfolding inner
inner_holds R {t} {q} i n = in_those (λ t. inside t q) R t i (inside_holds n)

-- Inward.

pub deep : List Range → Range → ℕ
deep R q = sum_over (λ t. bit (inside t q)) R

pub deep_less : (R : List Range) (r q : Range) → In r R → Inside r q → deep R r < deep R q
unfolding deep
deep_less R r q i n =
    let self : inside r r ≡ false = refuted (inside r r) (λ e. inside_self (inside_facts r r e)) in
    let own : bit (inside r r) < bit (inside r q) = omega (arith, ap bit self, ap bit (inside_holds n)) in
    sum_less (λ t. bit (inside t r)) (λ t. bit (inside t q)) R r i own
    (λ t j. bit_mono (inside t r) (inside t q) (λ e. inside_holds (inside_trans (inside_facts t r e) n)))

pub deep_most : (R : List Range) (q : Range) → deep R q ≤ length R
unfolding deep
deep_most R q = rw (← sum_ones R) (sum_mono (λ t. bit (inside t q)) (λ t. 1) R (λ t i. bit_mono (inside t q) true (λ e. refl)))

abbrev pub Below : List Range → (Range → Type 0) → Range → Type 0
Below R P q = (r : Range) → In r R → Inside r q → P r

pub inward : (R : List Range) (P : Range → Type 0) → ((q : Range) → Below R P q → P q) → (q : Range) → P q
inward R P step q = go (suc (deep R q)) q (omega arith)
  where
    go : (k : ℕ) (q : Range) → deep R q < k → P q
    go zero q h = absurd (omega arith)
    go (suc k) q h = step q (λ r i n. go k r (omega (arith, deep_less R r q i n)))

-- Outward.

abbrev pub AtOrIn : Range → Range → Type 0
AtOrIn t it = (t ≡ it) ⊎ Inside t it

pub record Widest (R : List Range) (good : Range → Bool) (q t : Range) : Type 0 where
  pub it : Range
  pub member : In it R
  pub passes : good it ≡ true
  pub inner : Inside it q
  pub around : AtOrIn t it
  pub last : (u : Range) → In u R → good u ≡ true → Inside it u → Inside u q → ⊥

module _ (R : List Range) (good : Range → Bool) (q : Range) where
  -- a member that passes, between t and q
  between : Range → Range → Bool
  between t u = good u && (inside t u && inside u q)

  between_facts : (t : Range) (f : Found (between t) R) → (good f.it ≡ true) × Inside t f.it × Inside f.it q
  unfolding between
  between_facts t f =
      let e = f.passes in
      (search ands, inside_facts t f.it (search ands), inside_facts f.it q (search ands))

  stop : (t : Range) → In t R → good t ≡ true → Inside t q → ((u : Range) → In u R → between t u ≡ true → ⊥) → Widest R good q t
  unfolding between
  stop t i e tq free =
      record { it = t; member = i; passes = e; inner = tq; around = inl refl; last = λ u j v tu uq. free u j (search (ands, inside_holds)) }

  wider : {t u : Range} → Inside t u → Widest R good q u → Widest R good q t
  wider tu w =
      let around = ⊎_elim (λ e. rw e at tu) (λ n. inside_trans tu n) w.around in
      record { it = w.it; member = w.member; passes = w.passes; inner = w.inner; around = inr around; last = w.last }

  -- n bounds how much longer the key of q is than the key of t
  climb : (n : ℕ) (t : Range) → t.from + q.to < n + (q.from + t.to) → In t R → good t ≡ true → Inside t q → Widest R good q t
  climb zero t h i e tq = absurd (omega arith)
  climb (suc n) t h i e tq =
      ⊎_elim (λ f. let (g, tu, uq) = between_facts t f in wider tu (climb n f.it (omega arith) f.member g uq)) (stop t i e tq)
      (search_for (between t) R)

  pub widest : (t : Range) → In t R → good t ≡ true → Inside t q → Widest R good q t
  widest t i e tq = climb (suc (t.from + q.to)) t (omega arith) i e tq

pub part_around : (R : List Range) (q t : Range) → In t R → Inside t q → (j : Range) × Part R j q × AtOrIn t j
part_around R q t i tq =
    let w = widest R (λ r. true) q t i refl tq in
    (w.it, record { member = w.member; just = record { inner = w.inner; next = λ u j iu uq. w.last u j refl iu uq } }, w.around)
