-- The kept stretches suffice: a set of counted peptides that breaks a stretch breaks a kept one.
-- The argument. Of the stretches that A breaks take s, with the smallest z, and of those the widest (`worst`). It is kept (`worst_kept`).
-- Around s every z is larger: a stretch there with no larger z would be broken too, and smaller or wider (`worst_larger`).
-- And z is less than the room of s, its inside total. If A breaks nothing inside s, A itself shows it (`calm`). Else let c be the widest
-- stretch inside s with more than z of A (`crowd`): z peptides of A in c, and an end of s that is not in c (`end`), show it (`crowded`):
-- inside s a stretch with this end has none of c (`far`, `fits_with`), one without it is unbroken, or its z is no smaller (`fits_without`).
use Prim.Native.Nat.{ℕ, suc, ◌+◌, ◌-◌, ◌≤◌, ◌<◌}
use mathlib.Core.Bool.{true, false, ◌&&◌}
use mathlib.Core.List.{List}
use mathlib.Core.Logic.{⊎_elim}
use mathlib.Core.Path.{◌≡◌, refl}
use native.Mathlib.Omega.{arith}
use Rattle.bounds.specs.Ranges.{Range, Peptides, has, count, In}
use Rattle.bounds.specs.Bound.{total}
use Rattle.bounds.proofs.Basics.Members.{test, clash, and_l, and_r, refuted, le_or_lt}
use Rattle.bounds.proofs.Basics.Counting.{Subset, none, adding, adding_either, card_none, card_adding, count_mono, count_adding_most, count_adding_other}
use Rattle.bounds.proofs.Basics.Nesting.{Inside, inner_facts}
use Rattle.bounds.proofs.Theory.Laminar.{meet, member_hosts}
use Rattle.bounds.proofs.Theory.Formula.{at_most_lem}
use Rattle.reduction.proofs.Basics.Unless.{le_unless, lt_unless}
use Rattle.reduction.proofs.Basics.Counts.{count_zero, count_card, card_in, count_all, count_wider}
use Rattle.reduction.proofs.Basics.Choices.{Decided, Such, choose, least, decide_lt, decide_inside, decide_both, Between, between}
use Rattle.reduction.proofs.Theory.Kept.{Stretch, stretch_has, has_stretch_lem, Stretches, Kept}

-- A has more than z peptides in r
abbrev pub Breaks : ℕ → Peptides → Range → Type 0
Breaks m A r = r.z < count m A r

pub record BreaksKept (m : ℕ) (T : List Range) (S A : Peptides) : Type 0 where
  pub it : Range
  pub member : In it T
  pub kept : Kept m T S it
  pub broken : Breaks m A it

-- how far a stretch is from the whole line
gap : ℕ → Range → ℕ
gap m s = s.from + (m - s.to)

-- an end of s that is not in c
record End (m : ℕ) (S : Peptides) (s c : Range) : Type 0 where
  number : ℕ
  positive : 0 < number
  small : number ≤ m
  counted : S number ≡ true
  inner : has s number ≡ true
  outer : has c number ≡ false

end : {m : ℕ} {S : Peptides} {s c : Range} → Stretch m S s → Stretch m S c → Inside c s → End m S s c
end {m} {S} {s} {c} v w n = ⊎_elim at_last at_first (le_or_lt c.from s.from)
  where
    at_last : c.from ≤ s.from → End m S s c
    at_last h =
        record {
          number = s.to;
          positive = omega arith;
          small = v.small;
          counted = v.last;
          inner = stretch_has v s.to (omega arith) (omega arith);
          outer = refuted (has c s.to) (λ e. omega (arith, has_stretch_lem w s.to e));
        }

    at_first : s.from < c.from → End m S s c
    at_first h =
        record {
          number = s.from;
          positive = omega arith;
          small = omega arith;
          counted = v.first;
          inner = stretch_has v s.from (omega arith) (omega arith);
          outer = refuted (has c s.from) (λ e. omega (arith, has_stretch_lem w s.from e));
        }

module _ {m : ℕ} {S : Peptides} {T : List Range} (W : Stretches m S T) (A : Peptides) (sub : Subset m A S) where
  -- what is inside has fewer peptides, and a larger gap
  inside_count : (s t : Range) → In s T → In t T → Inside s t → count m A s ≤ count m A t
  inside_count s t i j n = count_wider m A s t (λ p l u h e. member_hosts W.laminar t j s i n p h)

  inside_gap : (s t : Range) → In t T → Inside s t → gap m t < gap m s
  unfolding gap
  inside_gap s t j n = let w = W.member t j in omega arith

  -- s is broken; of the broken stretches it has the smallest z, and of those it is the widest
  record Worst (s : Range) : Type 0 where
    member : In s T
    broken : Breaks m A s
    smallest : (t : Range) → In t T → Breaks m A t → s.z ≤ t.z
    widest : (t : Range) → In t T → Breaks m A t → t.z ≤ s.z → gap m s ≤ gap m t

  breaks : (r : Range) → Decided (Breaks m A r)
  breaks r = decide_lt r.z (count m A r)

  worst : (t : Range) → In t T → Breaks m A t → (s : Range) × Worst s
  worst t i b =
      let c = least (Breaks m A) breaks (λ r. r.z) T t i b in
      let d =
      least (λ r. Breaks m A r × (r.z < suc c.it.z)) (λ r. decide_both (breaks r) (decide_lt r.z (suc c.it.z))) (gap m) T
      c.it c.member (c.holds, omega arith)
      in (
        d.it,
        record {
          member = d.member;
          broken = d.holds.0;
          smallest = λ r j h. omega (arith, c.least r j h, d.holds.1);
          widest = λ r j h e. d.least r j (h, omega (arith, d.holds.1));
        },
      )

  module _ (s : Range) (w : Worst s) where
    -- every stretch around it has a larger z: it would be broken too, and smaller or wider
    worst_larger : (t : Range) → In t T → Inside s t → s.z < t.z
    worst_larger t j n = lt_unless s.z t.z (λ h. omega (arith, no h, inside_gap s t j n))
      where
        no : t.z ≤ s.z → gap m s ≤ gap m t
        no h = w.widest t j (omega (arith, w.broken, inside_count s t w.member j n)) h

    -- Nothing inside it is broken: A itself shows its room.
    calm : ((t : Range) → In t T → Inside t s × Breaks m A t → ⊥) → s.z < total m T S s
    calm none =
        let fits : (r : Range) → In r T → Inside r s → count m A r ≤ r.z =
        λ r i n. le_unless (count m A r) r.z (λ h. none r i (n, h))
        in
        omega (arith, w.broken, count_all m A S s sub, at_most_lem m T S A s (λ r i. let f = inner_facts T s r i in fits r f.0 f.1))

    -- c is the widest stretch inside s that has more than the z of s
    record Crowd (c : Range) : Type 0 where
      member : In c T
      inner : Inside c s
      many : s.z < count m A c
      widest : (t : Range) → In t T → Inside t s → s.z < count m A t → gap m c ≤ gap m t

    crowd : (u : Range) → In u T → Inside u s → s.z < count m A u → (c : Range) × Crowd c
    crowd u i n h =
        let c =
        least (λ t. Inside t s × (s.z < count m A t)) (λ t. decide_both (decide_inside t s) (decide_lt s.z (count m A t))) (gap m) T
        u i (n, h)
        in
        (c.it, record { member = c.member; inner = c.holds.0; many = c.holds.1; widest = λ t j k l. c.least t j (k, l) })

    -- Something inside is broken: take z peptides of A in the crowd c, and an end of s that is not in it.
    module _ (c : Range) (v : Crowd c) (y : End m S s c) (B : Between m none (λ p. has c p && A p) s.z) where
      chosen : Peptides
      chosen = adding y.number B.set

      chosen_crowd : (p : ℕ) → 0 < p → p ≤ m → B.set p ≡ true → has c p ≡ true
      chosen_crowd p l u b = and_l (has c p) (A p) (B.below p l u b)

      chosen_old : (p : ℕ) → 0 < p → p ≤ m → B.set p ≡ true → A p ≡ true
      chosen_old p l u b = and_r (has c p) (A p) (B.below p l u b)

      -- a stretch inside s that has the end shares no peptide with the crowd
      far : (r : Range) → In r T → Inside r s → has r y.number ≡ true → (p : ℕ) → has r p ≡ true → has c p ≡ true → ⊥
      far r i n e p f g = ⊎_elim (λ d. clash (rw d at e) y.outer) (⊎_elim narrow wide) (meet W.laminar r c i v.member p f g)
        where
          narrow : Inside r c → ⊥
          narrow k = clash (member_hosts W.laminar c v.member r i k y.number e) y.outer

          wide : Inside c r → ⊥
          wide k = omega (arith, v.widest r i n (omega (arith, v.many, inside_count c r v.member i k)), inside_gap c r i k)

      -- So these z + 1 peptides respect every stretch inside s: one with the end has only the end,
      fits_with : (r : Range) → In r T → Inside r s → has r y.number ≡ true → count m chosen r ≤ r.z
      unfolding chosen
      fits_with r i n e =
          let empty = count_zero m B.set r (λ p l u f b. far r i n e p f (chosen_crowd p l u b)) in
          omega (arith, count_adding_most m y.number B.set r, (W.member r i).bound)

      -- one without it has at most z of A, or is broken and has a z no smaller.
      fits_without : (r : Range) → In r T → has r y.number ≡ false → count m chosen r ≤ r.z
      unfolding chosen
      fits_without r i e =
          let rest = count_adding_other m y.number B.set r e in
          let fewer = count_mono m B.set A r (λ p l u f. chosen_old p l u) in
          ⊎_elim (λ h. omega arith) (λ h. omega (arith, w.smallest r i h, count_card m B.set r, B.size)) (le_or_lt (count m A r) r.z)

      fits : (r : Range) → In r T → Inside r s → count m chosen r ≤ r.z
      fits r i n = ⊎_elim (fits_with r i n) (fits_without r i) (test (has r y.number))

      chosen_inner : Subset m chosen (has s)
      unfolding chosen
      chosen_inner p l u e =
          ⊎_elim (λ d. rw d y.inner) (λ b. member_hosts W.laminar s w.member c v.member v.inner p (chosen_crowd p l u b))
          (adding_either y.number B.set p e)

      chosen_counted : Subset m chosen S
      unfolding chosen
      chosen_counted p l u e = ⊎_elim (λ d. rw d y.counted) (λ b. sub p l u (chosen_old p l u b)) (adding_either y.number B.set p e)

      room_shown : s.z < total m T S s
      unfolding chosen
      room_shown =
          let q = y.number in
          let new : B.set q ≡ false = refuted (B.set q) (λ b. clash (chosen_crowd q y.positive y.small b) y.outer) in
          let size = card_adding m q B.set y.positive y.small new in
          let most = at_most_lem m T S chosen s (λ r i. let f = inner_facts T s r i in fits r f.0 f.1) in
          omega (arith, B.size, card_in m chosen s chosen_inner, count_all m chosen S s chosen_counted)

    crowded : Such (λ t. Inside t s × Breaks m A t) T → s.z < total m T S s
    unfolding count
    crowded f =
        let u = f.it in
        let (c, v) = crowd u f.member f.holds.0 (omega (arith, f.holds.1, w.smallest u f.member f.holds.1)) in
        let B =
        between m none (λ p. has c p && A p) s.z s.z (λ p l n e. absurd (clash e refl)) (omega (arith, card_none m none (λ p l n. refl)))
        (omega (arith, v.many))
        in
        room_shown c v (end (W.member s w.member) (W.member c v.member) v.inner) B

    worst_kept : Kept m T S s
    worst_kept =
        record {
          less = ⊎_elim crowded calm (choose (λ t. Inside t s × Breaks m A t) (λ t. decide_both (decide_inside t s) (breaks t)) T);
          larger = worst_larger;
        }

  -- If A breaks a stretch, it breaks a kept one.
  pub kept_suffice : (t : Range) → In t T → Breaks m A t → BreaksKept m T S A
  kept_suffice t i b =
      let (s, w) = worst t i b in
      record { it = s; member = w.member; kept = worst_kept s w; broken = w.broken }
