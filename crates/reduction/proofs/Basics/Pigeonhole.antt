-- The pigeonhole: if every range of a list in file order hits an element of another list, and no element is hit twice,
-- then the ranges are no more than the elements that are hit.
use Prim.Native.Nat.{ℕ, ◌+◌, ◌≤◌, ◌<◌}
use mathlib.Core.Bool.{Bool, true, false, cond, ◌||◌}
use mathlib.Core.List.{List, [], ◌∷◌}
use mathlib.Core.Logic.{inl, inr}
use mathlib.Core.Path.{◌≡◌, refl, ap}
use native.Mathlib.Omega.{arith}
use lib.ListN.{length}
use Rattle.bounds.specs.Ranges.{Range, some, those, sum_over, In}
use Rattle.bounds.proofs.Basics.Members.{Found, some_found, or_l, or_r, refuted, bit, bit_mono, sum_less, sum_mono}
use Rattle.reduction.proofs.Basics.Grid.{Precedes, FileOrder}

-- how many elements pass a test
abbrev pub how_many : {B : Type 0} → (B → Bool) → List B → ℕ
how_many t Y = sum_over (λ y. bit (t y)) Y

pub length_those : {B : Type 0} (t : B → Bool) (Y : List B) → length (those t Y) ≡ how_many t Y
unfolding those sum_over
length_those t [] = refl
length_those t (y ∷ Y) = go (t y) (length_those t Y)
  where
    go : (b : Bool) → length (those t Y) ≡ how_many t Y → length (cond b (y ∷ those t Y) (those t Y)) ≡ bit b + how_many t Y
    go true e = omega arith
    go false e = omega arith

-- every range hits an element
abbrev pub AllHit : {B : Type 0} → (Range → B → Bool) → List Range → List B → Type 0
AllHit hit X Y = (x : Range) → In x X → Found (hit x) Y

-- no element is hit by two ranges
abbrev pub HitOnce : {B : Type 0} → (Range → B → Bool) → List Range → List B → Type 0
HitOnce {B} hit X Y = (x t : Range) → In x X → In t X → Precedes x t → (y : B) → In y Y → hit x y ≡ true → hit t y ≡ true → ⊥

module _ {B : Type 0} (hit : Range → B → Bool) (Y : List B) where
  -- y is hit by some range
  hit_by : List Range → B → Bool
  hit_by X y = some (λ x. hit x y) X

  -- the first range hits an element that no later one hits
  one_more : (x : Range) (X : List Range) → FileOrder (x ∷ X) → AllHit hit (x ∷ X) Y → HitOnce hit (x ∷ X) Y → how_many (hit_by X) Y < how_many (hit_by (x ∷ X)) Y
  unfolding hit_by some
  one_more x X o h n =
      sum_less (λ v. bit (hit_by X v)) (λ v. bit (hit_by (x ∷ X) v)) Y y f.member (omega (arith, ap bit others, ap bit now))
      (λ v i. bit_mono (hit_by X v) (hit_by (x ∷ X) v) (or_r (hit x v) (hit_by X v)))
    where
      f : Found (hit x) Y
      f = h x (inl refl)

      y : B
      y = f.it

      now : (hit x y || hit_by X y) ≡ true
      now = or_l (hit x y) (hit_by X y) f.passes

      later : Found (λ t. hit t y) X → ⊥
      later g = n x g.it (inl refl) (inr g.member) (o.0 g.it g.member) y f.member f.passes g.passes

      others : hit_by X y ≡ false
      others = refuted (hit_by X y) (λ e. later (some_found (λ t. hit t y) X e))

  no_more : (X : List Range) → FileOrder X → AllHit hit X Y → HitOnce hit X Y → length X ≤ how_many (hit_by X) Y
  no_more [] o h n = omega arith
  no_more (x ∷ X) o h n = omega (arith, one_more x X o h n, no_more X o.1 (λ t i. h t (inr i)) (λ t u i j. n t u (inr i) (inr j)))

  -- The ranges are no more than the elements that pass a test, if only such elements are hit.
  pub pigeonhole : (X : List Range) (test : B → Bool) → FileOrder X → AllHit hit X Y → HitOnce hit X Y
      → ((x : Range) → In x X → (y : B) → In y Y → hit x y ≡ true → test y ≡ true) → length X ≤ how_many test Y
  unfolding hit_by
  pigeonhole X test o h n p = omega (arith, no_more X o h n, sum_mono (λ y. bit (hit_by X y)) (λ y. bit (test y)) Y (λ y i. bit_mono (hit_by X y) (test y) (passes y i)))
    where
      passes : (y : B) → In y Y → hit_by X y ≡ true → test y ≡ true
      passes y i e = let f = some_found (λ x. hit x y) X e in p f.it f.member y i f.passes
