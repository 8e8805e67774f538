-- Laws of the lists that the definitions are written with.
--   length_tabulate   `tabulate n f` has the length n
--   get_d_tabulate     it has f k at each place k below n
--   tabulate_same     functions that agree below n give the same list
--   map_append        what a function gives of two lists joined
--   sum_take_suc      the sum up to one element more; past the end nothing is added
--   sum_take          the sum up to a later element is no less
--   same_refl         the test `same_list` passes for a list and itself
--   same_equal        lists for which it passes are equal
--   not_same          it fails for lists that are not equal
--   same_is           it passes for equal lists
--   pointwise_same    it is the library's test that two slices are equal, and so is it with the lists the other way round (pointwise_swap)
--   copy_more         a copy of the front of one list into another, one element further
--   copied_whole      a copy into a list of the same length is the list copied
--   tabulate_more     `tabulate` with one element more
--   write_none        a list that is written from the start with f 0, f 1, ..: before the first
--   write_more        one element further
--   write_first       the first
--   set_more          a list that has f 0, f 1, .. at its first n places, and f n at the next once it is set
--   zeros             a row of zeros reads 0 at every place, past its end too
use Prim.Native.Nat.{ℕ, zero, suc, ◌+◌, ◌<◌, ◌≤◌}
use native.Mathlib.Nat.{not-suc-le-zero, le_of_suc-le-suc}
use native.Mathlib.Omega.{arith}
use native.Mathlib.Numerals.{add-one}
use mathlib.Core.Bool.{Bool, true, false}
use mathlib.Core.List.{List, [], ◌∷◌, ◌++◌, map, append-nil}
use mathlib.Core.Path.{◌≡◌, refl, sym, ap, ◌∙◌}
use mathlib.Core.Logic.{⊎_elim}
use lib.ListN.{length, get_or, take, drop, set, replicate, drop_of_length-le}
use lib.Seq.{drop-cons, take-suc, take_all, set_at, append_snoc, drop-set-lt, length-take-le, get_or-set_same, get_or-set_other}
use lib.Dec.{eqb}
use borrow.Author.Tests.{eqb-true, eq-eqb}
use Rattle.std.specs.Prelude.{nat_eq, MatchBool}
use lib.Pointwise.{pointwise}
use Rattle.std.specs.Cmp.Lexicographic.{told_text}
use Rattle.reader.specs.Lists.{tabulate, sum, same_list}
use Rattle.reader.proofs.Below.{below_next}
use Rattle.reader.proofs.Bools.{and_l, and_r, and_both, refuted, clash, both_ways}

module _ {A : Type 0} where
  pub length_tabulate : (n : ℕ) (f : ℕ → A) → length (tabulate n f) ≡ n
  unfolding tabulate
  length_tabulate zero f = refl
  length_tabulate (suc n) f = ap suc (length_tabulate n (λ i. f (suc i)))

  pub get_d_tabulate : (n : ℕ) (f : ℕ → A) (d : A) (k : ℕ) → k < n → get_or (tabulate n f) k d ≡ f k
  unfolding tabulate
  get_d_tabulate zero f d k h = absurd (not-suc-le-zero h)
  get_d_tabulate (suc n) f d zero h = refl
  get_d_tabulate (suc n) f d (suc k) h = get_d_tabulate n (λ i. f (suc i)) d k (le_of_suc-le-suc h)

  pub tabulate_same : (n : ℕ) (f g : ℕ → A) → ((i : ℕ) → i < n → f i ≡ g i) → tabulate n f ≡ tabulate n g
  unfolding tabulate
  tabulate_same zero f g h = refl
  tabulate_same (suc n) f g h =
      rw (h 0 (omega arith), tabulate_same n (λ i. f (suc i)) (λ i. g (suc i)) (λ i l. h (suc i) (omega arith)))

pub map_append : {A B : Type 0} (f : A → B) (L M : List A) → map f (L ++ M) ≡ map f L ++ map f M
map_append f [] M = refl
map_append {B = B} f (x ∷ L) M = ap (λ (N : List B). f x ∷ N) (map_append f L M)

pub sum_take_suc : (l : List ℕ) (j : ℕ) → sum (take (suc j) l) ≡ sum (take j l) + get_or l j 0
unfolding sum
sum_take_suc [] zero = refl
sum_take_suc [] (suc j) = refl
sum_take_suc (x ∷ l) zero = omega arith
sum_take_suc (x ∷ l) (suc j) = omega (arith, sum_take_suc l j)

pub sum_take : (i j : ℕ) (L : List ℕ) → i ≤ j → sum (take i L) ≤ sum (take j L)
unfolding sum
sum_take zero j L h = omega arith
sum_take (suc i) zero L h = absurd (omega arith)
sum_take (suc i) (suc j) [] h = omega arith
sum_take (suc i) (suc j) (x ∷ L) h = omega (arith, sum_take i j L (omega arith))

pub same_refl : (l : List ℕ) → same_list l l ≡ true
unfolding same_list
same_refl [] = refl
same_refl (x ∷ l) = and_both (eqb x x) (same_list l l) (eq-eqb x x refl) (same_refl l)

pub same_equal : (l k : List ℕ) → same_list l k ≡ true → l ≡ k
unfolding same_list
same_equal [] [] h = refl
same_equal [] (y ∷ k) h = absurd (clash h refl)
same_equal (x ∷ l) [] h = absurd (clash h refl)
same_equal (x ∷ l) (y ∷ k) h =
    rw (eqb-true x y (and_l (eqb x y) (same_list l k) h), same_equal l k (and_r (eqb x y) (same_list l k) h))

pub not_same : (l k : List ℕ) → (l ≡ k → ⊥) → same_list l k ≡ false
not_same l k h = refuted (same_list l k) (λ t. h (same_equal l k t))

pub same_is : (l k : List ℕ) → l ≡ k → same_list l k ≡ true
same_is l k e = rw e (same_refl k)

-- the library's test that two slices are equal
pub pointwise_same : (a b : List ℕ) → pointwise nat_eq a b ≡ same_list a b
pointwise_same a b = told (pointwise nat_eq a b) (told_text a b _ refl)
  where
    told : (r : Bool) → MatchBool r (a ≡ b) (a ≡ b → ⊥) → r ≡ same_list a b
    told true e = sym (same_is a b e)
    told false n = sym (not_same a b n)

-- either list may come first
same_swap : (a b : List ℕ) → same_list a b ≡ same_list b a
same_swap a b = both_ways (same_list a b) (same_list b a) (λ t. same_is b a (sym (same_equal a b t))) (λ t. same_is a b (sym (same_equal b a t)))

pub pointwise_swap : (a b : List ℕ) → pointwise nat_eq a b ≡ same_list b a
pointwise_swap a b = pointwise_same a b ∙ same_swap a b

pub copy_more :
    (f t : List ℕ) (i : ℕ) → i < length f → i < length t → set (take i f ++ drop i t) i (get_or f i 0) ≡ take (i + 1) f ++ drop (i + 1) t
copy_more f t i lf lt =
    rw (drop-cons t i 0 lt, set_at (take i f) (get_or t i 0) (drop (suc i) t) (get_or f i 0) i (length-take-le i f (omega arith)), add-one i, take-suc f i 0 lf)
    (sym (append_snoc (take i f) (get_or f i 0) (drop (suc i) t)))

pub copied_whole : (from to : List ℕ) → length from ≡ length to → take (length to) from ++ drop (length from) to ≡ from
copied_whole from to e =
    rw (take_all (length to) from (omega arith), drop_of_length-le to {i = length from} (omega arith), append-nil from)

-- Lists that are written from the start.

pub tabulate_more : (n : ℕ) (f : ℕ → ℕ) → tabulate (suc n) f ≡ tabulate n f ++ (f n ∷ [])
unfolding tabulate
tabulate_more zero f = refl
tabulate_more (suc n) f = ap (λ (l : List ℕ). f 0 ∷ l) (tabulate_more n (λ i. f (suc i)))

pub write_none : (f : ℕ → ℕ) (xs : List ℕ) → xs ≡ tabulate 0 f ++ drop 0 xs
unfolding tabulate
write_none f xs = refl

pub write_more : (f : ℕ → ℕ) (xs : List ℕ) (n v : ℕ) → n < length xs → v ≡ f n
    → set (tabulate n f ++ drop n xs) n v ≡ tabulate (n + 1) f ++ drop (n + 1) xs
write_more f xs n v h e =
    rw (e, drop-cons xs n 0 h, set_at (tabulate n f) (get_or xs n 0) (drop (suc n) xs) (f n) n (length_tabulate n f), add-one n, tabulate_more n f)
    (sym (append_snoc (tabulate n f) (f n) (drop (suc n) xs)))

pub write_first : (f : ℕ → ℕ) (xs : List ℕ) (v : ℕ) → 0 < length xs → v ≡ f 0 → set xs 0 v ≡ tabulate (0 + 1) f ++ drop (0 + 1) (set xs 0 v)
unfolding tabulate
write_first f xs v h e = rw (drop-set-lt 1 xs 0 v (omega arith)) (write_more f xs 0 v h e)

pub set_more : (f : ℕ → ℕ) (xs : List ℕ) (n v : ℕ) → n < length xs → ((i : ℕ) → i < n → get_or xs i 0 ≡ f i) → v ≡ f n
    → (i : ℕ) → i < n + 1 → get_or (set xs n v) i 0 ≡ f i
set_more f xs n v room known e i l =
    ⊎_elim
    (λ (q : i ≡ n). rw q (get_or-set_same xs n v 0 room ∙ e))
    (λ b. get_or-set_other xs n i v 0 (λ q. omega arith) ∙ known i b)
    (below_next l)

pub zeros : (n k : ℕ) → ◌≡◌ {A = ℕ} (get_or (replicate n 0) k 0) 0
zeros zero k = refl
zeros (suc n) zero = refl
zeros (suc n) (suc k) = zeros n k
