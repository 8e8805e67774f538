-- Lists that begin with a given list, place by place; what the code has written, as the lists that it promises.
use Prim.Native.Nat.{ℕ, zero, suc, ◌+◌, ◌<◌, ◌≤◌}
use native.Mathlib.Omega.{arith}
use mathlib.Core.Bool.{cond}
use mathlib.Core.List.{List, [], ◌∷◌, ◌++◌, map}
use mathlib.Core.Path.{◌≡◌, refl, sym, ap, ◌∙◌}
use lib.ListN.{length, get_or, take, drop, length-append, length-map, take-append-drop, get_or-append}
use lib.Seq.{ext_get_or, get_or-take, length-take-le}
use Rattle.reader.specs.Lists.{tabulate}
use Rattle.reader.specs.Family.{Family, region_count}
use Rattle.reader.specs.Nesting.{parent, parents}
use Rattle.reader.specs.WellFormed.{WellFormed}
use Rattle.reader.proofs.Lists.{length_tabulate, get_d_tabulate}
use Rattle.reader.proofs.ParentLaws.{parents_known}
use Rattle.bounds.specs.Ranges.{Range, ranges_of, range_at}
use Rattle.bounds.proofs.Theory.Family.{no_range, ranges_length, range_at_lem}
use Rattle.reduction.specs.Reduction.{live}
use Rattle.reduction.specs.Private.Steps.{Begins, live_bytes, first_live, last_live, firsts_live, lasts_live}
use Rattle.reduction.specs.Private.Passes.{WithParents, LiveUpTo, FirstsUpTo, LastsUpTo}

pub begins_with : (new whole : List ℕ) → length new ≤ length whole → ((i : ℕ) → i < length new → get_or whole i 0 ≡ get_or new i 0) → Begins new whole
begins_with new whole room h =
    let n : ℕ = length new in
    let front : take n whole ≡ new =
    ext_get_or 0 (take n whole) new (length-take-le n whole room)
    (λ i l. let small : i < n = omega (arith, length-take-le n whole room) in get_or-take n whole i 0 small ∙ h i small) in
    (drop n whole, sym (take-append-drop n whole) ∙ ap (λ (t : List ℕ). t ++ drop n whole) front)

pub begins_at : (new whole : List ℕ) → Begins new whole → (i : ℕ) → i < length new → get_or whole i 0 ≡ get_or new i 0
begins_at new whole b i l = rw b.1 (get_or-append new b.0 0 i l)

pub begins_room : (new whole : List ℕ) → Begins new whole → length new ≤ length whole
begins_room new whole b = rw (b.1, length-append new b.0) (omega arith)

-- What is written for every region, in file order.

-- an element of a mapped list
pub map_at : {A B : Type 0} (f : A → B) (L : List A) (a : A) (b : B) (k : ℕ) → k < length L → get_or (map f L) k b ≡ f (get_or L k a)
map_at f [] a b k h = absurd (omega arith)
map_at f (x ∷ L) a b zero h = refl
map_at f (x ∷ L) a b (suc k) h = map_at f L a b k (omega arith)

map_ranges : (F : Family) (f : Range → ℕ) (k : ℕ) → k < region_count F → get_or (map f (ranges_of F)) k 0 ≡ f (range_at F k)
map_ranges F f k h = map_at f (ranges_of F) (no_range F) 0 k (omega (arith, ranges_length F)) ∙ ap f (range_at_lem F k)

-- a list that begins with a number of each range has them in file order
pub ranges_at : (F : Family) (f : Range → ℕ) (A : List ℕ) → Begins (map f (ranges_of F)) A → (k : ℕ) → k < region_count F → get_or A k 0 ≡ f (range_at F k)
ranges_at F f A b k h = begins_at (map f (ranges_of F)) A b k (omega (arith, length-map (ranges_of F) f, ranges_length F)) ∙ map_ranges F f k h

map_begins : (F : Family) (f : Range → ℕ) (A : List ℕ) → region_count F ≤ length A → ((k : ℕ) → k < region_count F → get_or A k 0 ≡ f (range_at F k)) → Begins (map f (ranges_of F)) A
map_begins F f A room h =
    let n = length-map (ranges_of F) f in
    let m = ranges_length F in
    begins_with (map f (ranges_of F)) A (omega arith) (λ i l. h i (omega arith) ∙ sym (map_ranges F f i (omega arith)))

module _ (F : Family) where
  pub firsts_begin : (A : List ℕ) → region_count F ≤ length A → FirstsUpTo F (region_count F) A → Begins (firsts_live F) A
  unfolding firsts_live
  firsts_begin A room h = map_begins F (first_live F) A room h

  pub lasts_begin : (B : List ℕ) → region_count F ≤ length B → LastsUpTo F (region_count F) B → Begins (lasts_live F) B
  unfolding lasts_live
  lasts_begin B room h = map_begins F (last_live F) B room h

  pub lives_begin : (M : List ℕ) → F.peptides ≤ length M → LiveUpTo F F.peptides M → Begins (live_bytes F) M
  unfolding live_bytes
  lives_begin M room h =
      let f : ℕ → ℕ = λ i. cond (live (ranges_of F) (i + 1)) 1 0 in
      let n = length_tabulate F.peptides f in
      begins_with (tabulate F.peptides f) M (omega arith) (λ i l. h i (omega arith) ∙ sym (get_d_tabulate F.peptides f 0 i (omega arith)))

-- The parents as defined are parents in file order.
pub known_parents : (F : Family) → WellFormed F → (P : List ℕ) → Begins (parents F) P → WithParents F P
unfolding parents
known_parents F w P b =
    let n = length_tabulate (region_count F) (parent F) in
    record {
      formed = w;
      known = λ k l. rw (begins_at (parents F) P b k (omega arith)) (parents_known F w.ordered w.nested k l);
      room = omega (arith, begins_room (parents F) P b);
    }
