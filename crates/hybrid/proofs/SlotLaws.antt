-- Slots, when a lower number is written into one of them: a search shortens its way so, and a slot is taken so.
use Prim.Native.Nat.{ℕ, ◌<◌, ◌≤◌}
use mathlib.Core.Bool.{true, false}
use mathlib.Core.List.{List}
use mathlib.Core.Logic.{◌⊎◌, inl, inr, ⊎_elim}
use mathlib.Core.Path.{◌≡◌, sym, ap, ◌∙◌}
use native.Mathlib.Omega.{arith}
use lib.ListN.{get_or, set, length-set}
use lib.Seq.{get_or-set_same, get_or-set_other}
use lib.Dec.{eqb}
use borrow.Author.Tests.{eqb-true, eqb-false, eq-eqb, ne_eqb}
use Rattle.reader.proofs.Bools.{test}
use Rattle.bounds.proofs.Basics.Members.{le_or_lt}
use Rattle.hybrid.specs.Private.Simes.{is_free, Slots}

same_or_other : (q r : ℕ) → (q ≡ r) ⊎ (q ≡ r → ⊥)
same_or_other q r = ⊎_elim (λ e. inl (eqb-true q r e)) (λ e. inr (eqb-false q r e)) (test (eqb q r))

not_free : (slots : List ℕ) (q : ℕ) → (get_or slots q 0 ≡ q → ⊥) → is_free slots q ≡ false
unfolding is_free
not_free slots q h = ne_eqb (get_or slots q 0) q h

pub free_here : (slots : List ℕ) (q : ℕ) → get_or slots q 0 ≡ q → is_free slots q ≡ true
unfolding is_free
free_here slots q h = eq-eqb (get_or slots q 0) q h

-- a number lower than the slot is written into it, with no free slot between them
module _ {slots : List ℕ} (kept : Slots slots) (slot lower : ℕ) (fits : slot < 4097) (less : lower < slot) (full : (r : ℕ) → lower < r → r < slot → is_free slots r ≡ false) where
  abbrev new : List ℕ
  new = set slots slot lower

  at_slot : get_or new slot 0 ≡ lower
  at_slot = get_or-set_same slots slot lower 0 (omega (arith, kept.sized))

  at_other : (q : ℕ) → (q ≡ slot → ⊥) → get_or new q 0 ≡ get_or slots q 0
  at_other q other = get_or-set_other slots slot q lower 0 other

  pub written_taken : is_free new slot ≡ false
  written_taken = not_free new slot (λ e. omega (arith, at_slot))

  pub written_others : (q : ℕ) → (q ≡ slot → ⊥) → is_free new q ≡ is_free slots q
  unfolding is_free
  written_others q other = rw (at_other q other)

  -- a slot that was taken is taken
  still : (r : ℕ) → is_free slots r ≡ false → is_free new r ≡ false
  still r h = ⊎_elim (λ e. rw e written_taken) (λ other. written_others r other ∙ h) (same_or_other r slot)

  pub written_kept : Slots new
  written_kept =
      record {
        sized = simp length-set kept.sized;
        falling =
            λ q.
            ⊎_elim (λ e. rw e (omega (arith, at_slot))) (λ other. omega (arith, at_other q other, kept.falling q)) (same_or_other q slot);
        between =
            λ q r small low high.
            ⊎_elim
            (λ (e : q ≡ slot).
            ⊎_elim (λ s. rw s written_taken) (λ other. still r (full r (omega (arith, at_slot, ap (λ (x : ℕ). get_or new x 0) e)) (omega arith))) (same_or_other r slot))
            (λ other. still r (kept.between q r small (omega (arith, at_other q other)) high))
            (same_or_other q slot);
      }

-- A search: at a taken slot, and the way from the slot that stands in it.

module _ {slots : List ℕ} (kept : Slots slots) (slot : ℕ) (fits : slot < 4097) (taken : get_or slots slot 0 ≡ slot → ⊥) where
  abbrev below : ℕ
  below = get_or slots slot 0

  abbrev further : ℕ
  further = get_or slots below 0

  pub further_less : further < slot
  further_less = omega (arith, kept.falling below, kept.falling slot, taken)

  -- no slot between is free
  passed : (r : ℕ) → further < r → r ≤ slot → is_free slots r ≡ false
  passed r low high =
      ⊎_elim (λ l. kept.between below r (omega (arith, kept.falling slot)) low l) (λ l. kept.between slot r fits l high) (le_or_lt r below)

  pub shorter_kept : Slots (set slots slot further)
  shorter_kept = written_kept kept slot further fits further_less (λ r low high. passed r low (omega arith))

  pub shorter_same : (q : ℕ) → is_free (set slots slot further) q ≡ is_free slots q
  shorter_same q =
      ⊎_elim
      (λ e. rw e (written_taken kept slot further fits further_less (λ r low high. passed r low (omega arith)) ∙ sym (not_free slots slot taken)))
      (λ other. written_others kept slot further fits further_less (λ r low high. passed r low (omega arith)) q other)
      (same_or_other q slot)

  -- with none free from the slot on up to a number, none is from the further one on
  pub shorter_none : (first : List ℕ) (last : ℕ) → ((q : ℕ) → q < 4097 → is_free slots q ≡ is_free first q) → ((q : ℕ) → slot < q → q ≤ last → is_free first q ≡ false)
      → (q : ℕ) → further < q → q ≤ last → is_free first q ≡ false
  shorter_none first last same none q low high =
      ⊎_elim (λ l. sym (same q (omega arith)) ∙ passed q low l) (λ l. none q l high) (le_or_lt q slot)
