-- Tests that are joined by and, or and not, and what they say.
--   test                     a test passes or fails
--   clash                    it does not do both
--   passes, refuted          a test that cannot fail passes, and one that cannot pass fails
--   and_l, and_r, and_both   where `a && b` passes, a passes, and b passes; where both pass, so does it
--   and_swap                 of two tests joined by and either may come first
--   both-ways                two tests are equal if each gives the other
--   ands                     `search ands` proves one conjunction of tests from another
--   and_fails                where `a && b` fails, a fails or b does
--   or_l, or_r               `a || b` passes if a does, and if b does
--   or_either                where `a || b` passes, a passes or b does
--   or_neither               where both fail, `a || b` fails
--   or_fails_l, or_fails_r   where `a || b` fails, a fails, and b fails
--   not_fails, not_passes    `not b` fails where b passes, and passes where b fails
use mathlib.Core.Bool.{Bool, true, false, not, ◌&&◌, ◌||◌, true≢false}
use mathlib.Core.Path.{◌≡◌, refl, sym, ◌∙◌}
use mathlib.Core.Logic.{◌⊎◌, inl, inr}

pub test : (b : Bool) → (b ≡ true) ⊎ (b ≡ false)
test true = inl refl
test false = inr refl

pub clash : {b : Bool} → b ≡ true → b ≡ false → ⊥
clash t f = true≢false (sym t ∙ f)

pub passes : (b : Bool) → (b ≡ false → ⊥) → b ≡ true
passes true h = refl
passes false h = absurd (h refl)

pub refuted : (b : Bool) → (b ≡ true → ⊥) → b ≡ false
refuted true h = absurd (h refl)
refuted false h = refl

pub and_l : (a b : Bool) → a && b ≡ true → a ≡ true
and_l true b h = refl
and_l false b h = h

pub and_r : (a b : Bool) → a && b ≡ true → b ≡ true
and_r true b h = h
and_r false b h = absurd (true≢false (sym h))

pub and_both : (a b : Bool) → a ≡ true → b ≡ true → a && b ≡ true
and_both true b h k = k
and_both false b h k = h

pub and_swap : (a b : Bool) → a && b ≡ b && a
and_swap true true = refl
and_swap true false = refl
and_swap false true = refl
and_swap false false = refl

pub both_ways : (a b : Bool) → (a ≡ true → b ≡ true) → (b ≡ true → a ≡ true) → a ≡ b
both_ways true b f g = sym (f refl)
both_ways false b f g = sym (refuted b (λ e. clash (g e) refl))

pub ruleset ands = (and_l, and_r, and_both)

pub and_fails : (a b : Bool) → a && b ≡ false → (a ≡ false) ⊎ (b ≡ false)
and_fails true b h = inr h
and_fails false b h = inl h

pub or_l : (a b : Bool) → a ≡ true → a || b ≡ true
or_l true b h = refl
or_l false b h = absurd (true≢false (sym h))

pub or_r : (a b : Bool) → b ≡ true → a || b ≡ true
or_r true b h = refl
or_r false b h = h

pub or_either : (a b : Bool) → a || b ≡ true → (a ≡ true) ⊎ (b ≡ true)
or_either true b h = inl h
or_either false b h = inr h

pub or_neither : (a b : Bool) → a ≡ false → b ≡ false → a || b ≡ false
or_neither true b h k = h
or_neither false b h k = k

pub or_fails_l : (a b : Bool) → a || b ≡ false → a ≡ false
or_fails_l true b h = h
or_fails_l false b h = refl

pub or_fails_r : (a b : Bool) → a || b ≡ false → b ≡ false
or_fails_r true b h = absurd (true≢false h)
or_fails_r false b h = h

pub not_fails : (b : Bool) → b ≡ true → not b ≡ false
not_fails true h = refl
not_fails false h = sym h

pub not_passes : (b : Bool) → b ≡ false → not b ≡ true
not_passes true h = sym h
not_passes false h = refl
