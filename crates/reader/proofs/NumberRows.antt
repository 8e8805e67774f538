-- Numbers written in a row over a list of bytes.
use Prim.Native.Nat.{ℕ, suc, ◌+◌, ◌-◌, ◌*◌, ◌/◌, ◌%◌, ◌<◌, ◌≤◌}
use mathlib.Core.List.{List, [], ◌∷◌, ◌++◌, append_assoc}
use mathlib.Core.Path.{◌≡◌, refl, sym, ap, ◌∙◌}
use native.Mathlib.Nat.{add-zero}
use native.Mathlib.Numerals.{add-one}
use native.Mathlib.Omega.{arith}
use lib.ListN.{length, get_or, take, drop, set, length-set, take-append-drop}
use lib.Seq.{sets-eq, drop-drop, sets, length-sets, length-take-le, take-suc, set_out}
use Rattle.reader.specs.Bytes.{bytes_of, with_numbers}
use Rattle.reader.specs.Family.{Region, region_fields}
use Rattle.reader.proofs.Files.{length_bytes}

pub bytes_join : (ns ms : List ℕ) → bytes_of (ns ++ ms) ≡ bytes_of ns ++ bytes_of ms
unfolding bytes_of
bytes_join [] ms = refl
bytes_join (n ∷ ns) ms = ap (λ (l : List ℕ). n % 256 ∷ n / 256 % 256 ∷ l) (bytes_join ns ms)

pub fields_join : (rs qs : List Region) → region_fields (rs ++ qs) ≡ region_fields rs ++ region_fields qs
unfolding region_fields
fields_join [] qs = refl
fields_join (r ∷ rs) qs = ap (λ (l : List ℕ). r.first ∷ r.last ∷ r.z ∷ l) (fields_join rs qs)

-- a second run of stores goes on where the first ends
pub sets_join : (l : List ℕ) (i : ℕ) (xs ys : List ℕ) (j : ℕ) → j ≡ i + length xs → sets (sets l i xs) j ys ≡ sets l i (xs ++ ys)
sets_join l i [] ys j e = ap (λ (k : ℕ). sets l k ys) (e ∙ add-zero i)
sets_join l i (x ∷ xs) ys j e = sets_join (set l i x) (suc i) xs ys j (omega (arith, e))

module _ (out : List ℕ) (at : ℕ) where
  pub numbers_none : with_numbers out at [] ≡ out
  unfolding with_numbers bytes_of
  numbers_none = refl

  pub numbers_join : (ns ms : List ℕ) (next : ℕ) → next ≡ at + 2 * length ns → with_numbers (with_numbers out at ns) next ms ≡ with_numbers out at (ns ++ ms)
  unfolding with_numbers
  numbers_join ns ms next e =
      sets_join out at (bytes_of ns) (bytes_of ms) next (omega (arith, e, length_bytes ns)) ∙ ap (sets out at) (sym (bytes_join ns ms))

  -- the first i numbers of a list, and the next one
  pub numbers_next : (ns : List ℕ) (i : ℕ) → i < length ns
      → with_numbers (with_numbers out at (take i ns)) (at + 2 * i) (get_or ns i 0 ∷ []) ≡ with_numbers out at (take (i + 1) ns)
  numbers_next ns i h =
      numbers_join (take i ns) (get_or ns i 0 ∷ []) (at + 2 * i) (omega (arith, length-take-le i ns (omega arith)))
      ∙ ap (with_numbers out at) (rw (add-one i) (sym (take-suc ns i 0 h)))

  -- a number is its two bytes in the place of two
  pub pair_put : (n : ℕ) (pair : List ℕ) → at + 2 ≤ length out → pair ≡ n % 256 ∷ n / 256 % 256 ∷ []
      → take at out ++ (pair ++ drop (at + 2 - at) (drop at out)) ≡ with_numbers out at (n ∷ [])
  unfolding with_numbers bytes_of
  pair_put n pair h e =
      let two : at + 2 - at ≡ 2 = omega arith in
      ap (λ (l : List ℕ). take at out ++ (l ++ drop (at + 2 - at) (drop at out))) e
      ∙ ap (λ (k : ℕ). take at out ++ n % 256 ∷ n / 256 % 256 ∷ drop k (drop at out)) two
      ∙ ap (λ (l : List ℕ). take at out ++ n % 256 ∷ n / 256 % 256 ∷ l) (drop-drop 2 at out)
      ∙ sym (sets-eq (n % 256 ∷ n / 256 % 256 ∷ []) out at h ∙ append_assoc (take at out) (n % 256 ∷ n / 256 % 256 ∷ []) (drop (at + 2) out))

  -- where the high byte lies past the end it is the store of the low byte
  pub low_byte_put : (n : ℕ) → length out ≤ at + 1 → set out at (n % 256) ≡ with_numbers out at (n ∷ [])
  unfolding with_numbers bytes_of
  low_byte_put n h =
      sym (set_out (set out at (n % 256)) (suc at) (n / 256 % 256) (omega (arith, length-set out at (n % 256))))

  -- and where both do it is no store
  pub no_byte_put : (n : ℕ) → length out ≤ at → out ≡ with_numbers out at (n ∷ [])
  no_byte_put n h = sym (set_out out at (n % 256) h) ∙ low_byte_put n (omega arith)

-- what is written over a list has its length
pub numbers_length : (out : List ℕ) (at : ℕ) (ns : List ℕ) → length (with_numbers out at ns) ≡ length out
unfolding with_numbers
numbers_length out at ns = length-sets out at (bytes_of ns)

-- stores past the end
sets_past : (l : List ℕ) (i : ℕ) (xs : List ℕ) → length l ≤ i → sets l i xs ≡ l
sets_past l i [] h = refl
sets_past l i (x ∷ xs) h = rw (set_out l i x h) (sets_past l (suc i) xs (omega arith))

-- numbers of which the first i are written, where the next one lies past the end
pub numbers_past : (out : List ℕ) (at : ℕ) (ns : List ℕ) (i : ℕ) → i ≤ length ns → length out ≤ at + 2 * i
    → with_numbers out at (take i ns) ≡ with_numbers out at ns
numbers_past out at ns i h past =
    sym (none (with_numbers out at (take i ns)) (at + 2 * i) (drop i ns) (rw (numbers_length out at (take i ns)) past))
    ∙ numbers_join out at (take i ns) (drop i ns) (at + 2 * i) (omega (arith, length-take-le i ns h))
    ∙ ap (with_numbers out at) (take-append-drop i ns)
  where
    none : (l : List ℕ) (i : ℕ) (ms : List ℕ) → length l ≤ i → with_numbers l i ms ≡ l
    none l i ms h = unfold with_numbers in sets_past l i (bytes_of ms) h
