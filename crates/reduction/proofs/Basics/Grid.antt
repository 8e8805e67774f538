-- Lists that go through the numbers 1 to n, or through all pairs of them: their members and their order.
--   append_l, append_r      a member of either is a member of both joined
--   At                      x stands at one of the numbers 1 to n
--   in_rising, in_falling   what is in the list that goes through 1 to n, up or down, stands at one of these numbers
--   rising_in, falling_in   what stands at one of them is in the list
--   InCell                  x stands in the cell of a pair a ≤ b of the numbers 1 to m
--   in_grid, grid_in        what is in the grid stands in such a cell, and the way back
--   Precedes                x comes before y in file order
--   before_same             of two that begin together the earlier one ends later
--   before_le               the earlier one begins no later
--   FileOrder               every range of the list comes before all that follow it
--   those_ordered           the ranges that pass a test stay in order
--   Placed                  cells that hold at most one range, whose key is the cell's place
--   grid_ordered            a grid of such cells is in file order
--   ordered_same            two lists in file order with the same members are equal
use Prim.Native.Nat.{ℕ, zero, suc, ◌≤◌, ◌<◌}
use mathlib.Core.Bool.{Bool, true, false, cond}
use mathlib.Core.List.{List, [], ◌∷◌, ◌++◌}
use mathlib.Core.Logic.{◌⊎◌, inl, inr, ⊎_elim}
use mathlib.Core.Path.{◌≡◌, refl, sym, ◌∙◌, ap₂}
use native.Mathlib.Omega.{arith}
use native.Mathlib.Nat.{eq-or-lt_of_le}
use lib.Dec.{leb}
use borrow.Author.Tests.{leb-true, le-leb}
use Rattle.bounds.specs.Ranges.{Range, those, In}
use Rattle.bounds.proofs.Basics.Members.{in_append, those_in, test}
use Rattle.reduction.specs.Reduction.{rising, falling, grid}

-- Members.

pub append_l : {A : Type 0} (x : A) (L M : List A) → In x L → In x (L ++ M)
append_l {A = A} x [] M x'' = elim x'' [ ]
append_l x (y ∷ L) M (inl e) = inl e
append_l x (y ∷ L) M (inr i) = inr (append_l x L M i)

pub append_r : {A : Type 0} (x : A) (L M : List A) → In x M → In x (L ++ M)
append_r x [] M i = i
append_r x (y ∷ L) M i = inr (append_r x L M i)

pub record At {A : Type 0} (n : ℕ) (f : ℕ → List A) (x : A) : Type 0 where
  pub place : ℕ
  pub positive : 1 ≤ place
  pub small : place ≤ n
  pub member : In x (f place)

up : {A : Type 0} (n : ℕ) (f : ℕ → List A) (x : A) → At n f x → At (suc n) f x
up n f x c = record { place = c.place; positive = c.positive; small = omega arith; member = c.member }

top : {A : Type 0} (n : ℕ) (f : ℕ → List A) (x : A) → In x (f (suc n)) → At (suc n) f x
top n f x i = record { place = suc n; positive = omega arith; small = omega arith; member = i }

pub in_rising : {A : Type 0} (n : ℕ) (f : ℕ → List A) (x : A) → In x (rising n f) → At n f x
unfolding rising
in_rising {A = A} zero f x i = elim i [ ]
in_rising (suc n) f x i = ⊎_elim (λ j. up n f x (in_rising n f x j)) (top n f x) (in_append x (rising n f) (f (suc n)) i)

pub in_falling : {A : Type 0} (n : ℕ) (f : ℕ → List A) (x : A) → In x (falling n f) → At n f x
unfolding falling
in_falling {A = A} zero f x i = elim i [ ]
in_falling (suc n) f x i = ⊎_elim (top n f x) (λ j. up n f x (in_falling n f x j)) (in_append x (f (suc n)) (falling n f) i)

pub rising_in : {A : Type 0} (n : ℕ) (f : ℕ → List A) (x : A) (a : ℕ) → 1 ≤ a → a ≤ n → In x (f a) → In x (rising n f)
unfolding rising
rising_in zero f x a h k i = absurd (omega arith)
rising_in (suc n) f x a h k i =
    ⊎_elim
    (λ e. append_r x (rising n f) (f (suc n)) (rw e at i))
    (λ l. append_l x (rising n f) (f (suc n)) (rising_in n f x a h (omega arith) i))
    (eq-or-lt_of_le k)

pub falling_in : {A : Type 0} (n : ℕ) (f : ℕ → List A) (x : A) (a : ℕ) → 1 ≤ a → a ≤ n → In x (f a) → In x (falling n f)
unfolding falling
falling_in zero f x a h k i = absurd (omega arith)
falling_in (suc n) f x a h k i =
    ⊎_elim
    (λ e. append_l x (f (suc n)) (falling n f) (rw e at i))
    (λ l. append_r x (f (suc n)) (falling n f) (falling_in n f x a h (omega arith) i))
    (eq-or-lt_of_le k)

pub record InCell (m : ℕ) (f : ℕ → ℕ → List Range) (x : Range) : Type 0 where
  pub a : ℕ
  pub b : ℕ
  pub positive : 1 ≤ a
  pub order : a ≤ b
  pub small : b ≤ m
  pub member : In x (f a b)

-- the cells of one a
row : (ℕ → ℕ → List Range) → ℕ → ℕ → List Range
row f a b = cond (leb a b) (f a b) []

in_row : (f : ℕ → ℕ → List Range) (a b : ℕ) (x : Range) → In x (row f a b) → (a ≤ b) × In x (f a b)
unfolding row
in_row f a b x i = ⊎_elim (λ e. (leb-true a b e, rw e at i)) (λ e. absurd (rw e at i)) (test (leb a b))

pub in_grid : (m : ℕ) (f : ℕ → ℕ → List Range) (x : Range) → In x (grid m f) → InCell m f x
unfolding grid row
in_grid m f x i =
    let c = in_rising m (λ a. falling m (row f a)) x i in
    let d = in_falling m (row f c.place) x c.member in
    let e = in_row f c.place d.place x d.member in
    record { a = c.place; b = d.place; positive = c.positive; order = e.0; small = d.small; member = e.1 }

pub grid_in : (m : ℕ) (f : ℕ → ℕ → List Range) (x : Range) (a b : ℕ) → 1 ≤ a → a ≤ b → b ≤ m → In x (f a b) → In x (grid m f)
unfolding grid row
grid_in m f x a b h k l i =
    rising_in m (λ a. falling m (row f a)) x a h (omega arith)
    (falling_in m (row f a) x b (omega arith) l (rw (le-leb a b k) i))

-- File order: by from rising; at equal from, by to falling.

abbrev pub Precedes : Range → Range → Type 0
Precedes x y = (x.from < y.from) ⊎ ((x.from ≡ y.from) × (y.to < x.to))

pub before_same : (x y : Range) → Precedes x y → x.from ≡ y.from → y.to < x.to
before_same x y (inl h) e = absurd (omega arith)
before_same x y (inr h) e = h.1

pub before_le : (x y : Range) → Precedes x y → x.from ≤ y.from
before_le x y (inl h) = omega arith
before_le x y (inr h) = omega arith

abbrev pub FileOrder : List Range → Type 0
FileOrder [] = Unit {0}
FileOrder (x ∷ L) = ((y : Range) → In y L → Precedes x y) × FileOrder L

append_ordered : (L M : List Range) → FileOrder L → FileOrder M → ((x y : Range) → In x L → In y M → Precedes x y) → FileOrder (L ++ M)
append_ordered [] M o p h = p
append_ordered (x ∷ L) M o p h = (
  λ y i. ⊎_elim (o.0 y) (h x y (inl refl)) (in_append y L M i),
  append_ordered L M o.1 p (λ u v i. h u v (inr i)),
)

rising_ordered : (n : ℕ) (f : ℕ → List Range) → ((a : ℕ) → FileOrder (f a))
    → ((a b : ℕ) → a < b → b ≤ n → (x y : Range) → In x (f a) → In y (f b) → Precedes x y) → FileOrder (rising n f)
unfolding rising
rising_ordered zero f o h = tt
rising_ordered (suc n) f o h =
    append_ordered (rising n f) (f (suc n)) (rising_ordered n f o (λ a b k l. h a b k (omega arith))) (o (suc n))
    (λ x y i j. let c = in_rising n f x i in h c.place (suc n) (omega arith) (omega arith) x y c.member j)

falling_ordered : (n : ℕ) (f : ℕ → List Range) → ((a : ℕ) → FileOrder (f a))
    → ((a b : ℕ) → a < b → b ≤ n → (x y : Range) → In x (f b) → In y (f a) → Precedes x y) → FileOrder (falling n f)
unfolding falling
falling_ordered zero f o h = tt
falling_ordered (suc n) f o h =
    append_ordered (f (suc n)) (falling n f) (o (suc n)) (falling_ordered n f o (λ a b k l. h a b k (omega arith)))
    (λ x y i j. let c = in_falling n f y j in h c.place (suc n) (omega arith) (omega arith) x y i c.member)

pub those_ordered : (t : Range → Bool) (L : List Range) → FileOrder L → FileOrder (those t L)
unfolding those
those_ordered t [] o = tt
those_ordered t (x ∷ L) o = go (t x) (those_ordered t L o.1)
  where
    go : (b : Bool) → FileOrder (those t L) → FileOrder (cond b (x ∷ those t L) (those t L))
    go true p = (λ y i. o.0 y (those_in t L y i).0, p)
    go false p = p

pub record Placed (f : ℕ → ℕ → List Range) : Type 0 where
  pub single : (a b : ℕ) → FileOrder (f a b)
  pub from : (a b : ℕ) (x : Range) → In x (f a b) → x.from ≡ a
  pub to : (a b : ℕ) (x : Range) → In x (f a b) → x.to ≡ b

row_ordered : (f : ℕ → ℕ → List Range) → Placed f → (a b : ℕ) → FileOrder (row f a b)
unfolding row
row_ordered f P a b = go (leb a b)
  where
    go : (t : Bool) → FileOrder (cond t (f a b) [])
    go true = P.single a b
    go false = tt

pub grid_ordered : (m : ℕ) (f : ℕ → ℕ → List Range) → Placed f → FileOrder (grid m f)
unfolding grid row
grid_ordered m f P =
    rising_ordered m (λ a. falling m (row f a))
    (λ a. falling_ordered m (row f a) (row_ordered f P a) (λ b c k l x y i j. inr (along a b c x y k i j)))
    (λ a b k l x y i j. inl (across a b x y k i j))
  where
    along : (a b c : ℕ) (x y : Range) → b < c → In x (row f a c) → In y (row f a b) → (x.from ≡ y.from) × (y.to < x.to)
    along a b c x y k i j =
        let u = (in_row f a c x i).1 in
        let v = (in_row f a b y j).1 in
        omega (arith, P.from a c x u, P.from a b y v, P.to a c x u, P.to a b y v)

    from : (a : ℕ) (x : Range) → In x (falling m (row f a)) → x.from ≡ a
    from a x i = let c = in_falling m (row f a) x i in P.from a c.place x (in_row f a c.place x c.member).1

    across : (a b : ℕ) (x y : Range) → a < b → In x (falling m (row f a)) → In y (falling m (row f b)) → x.from < y.from
    across a b x y k i j = omega (arith, from a x i, from b y j)

-- A list in file order is determined by its members.

before_not : (x y : Range) → Precedes x y → Precedes y x → ⊥
before_not x y (inl h) (inl k) = omega arith
before_not x y (inl h) (inr k) = omega arith
before_not x y (inr h) (inl k) = omega arith
before_not x y (inr h) (inr k) = omega arith

not_self : (x y : Range) → x ≡ y → Precedes x y → ⊥
not_self x y e h = let k : Precedes x x = rw (← e) at h in before_not x x k k

-- equal heads: each head is in the other list, and cannot stand later in both
heads : (x y : Range) (L M : List Range) → FileOrder (x ∷ L) → FileOrder (y ∷ M) → In x (y ∷ M) → In y (x ∷ L) → x ≡ y
heads x y L M o p (inl e) j = e
heads x y L M o p (inr i) (inl e) = sym e
heads x y L M o p (inr i) (inr j) = absurd (before_not x y (o.0 y j) (p.0 x i))

pub ordered_same : (L M : List Range) → FileOrder L → FileOrder M → ((x : Range) → In x L → In x M) → ((x : Range) → In x M → In x L) → L ≡ M
ordered_same [] [] o p f g = refl
ordered_same [] (y ∷ M) o p f g = absurd (g y (inl refl))
ordered_same (x ∷ L) [] o p f g = absurd (f x (inl refl))
ordered_same (x ∷ L) (y ∷ M) o p f g = ap₂ ◌∷◌ e (ordered_same L M o.1 p.1 left right)
  where
    e : x ≡ y
    e = heads x y L M o p (f x (inl refl)) (g y (inl refl))

    left : (u : Range) → In u L → In u M
    left u i = ⊎_elim (λ d. absurd (not_self x u (e ∙ sym d) (o.0 u i))) (λ j. j) (f u (inr i))

    right : (u : Range) → In u M → In u L
    right u i = ⊎_elim (λ d. absurd (not_self y u (sym e ∙ sym d) (p.0 u i))) (λ j. j) (g u (inr i))
