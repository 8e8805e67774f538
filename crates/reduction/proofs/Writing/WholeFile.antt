-- The numbers written from the list of the reduced ranges make the reduced file.
use Prim.Native.Nat.{ℕ, zero, suc, ◌+◌, ◌*◌, ◌-◌, ◌<◌, ◌≤◌}
use mathlib.Core.Bool.{Bool, ◌||◌}
use mathlib.Core.List.{List, [], ◌∷◌, ◌++◌, map, append_assoc, append-nil}
use mathlib.Core.Path.{◌≡◌, refl, sym, ap, ap₂, ◌∙◌}
use native.Mathlib.Nat.{zero-add}
use native.Mathlib.Numerals.{add-one}
use native.Mathlib.Omega.{arith}
use lib.ListN.{length, get_or, take, drop, length-append, length-map}
use lib.Seq.{sets, sets-eq, take-suc, take_all}
use lib.Dec.{eqb}
use Rattle.std.proofs.lemmas.List.{take_at}
use Rattle.reader.specs.Lists.{some_below}
use Rattle.reader.specs.Bytes.{IsBytes, bytes_of, with_numbers}
use Rattle.reader.specs.Family.{Region, Family, leaves, region_count, family_of, mark, total_length, region_fields, fields, file_of, no_region}
use Rattle.reader.specs.Causes.{Accepted}
use Rattle.reader.specs.WellFormed.{WellFormed}
use Rattle.reader.proofs.Below.{found, some_at}
use Rattle.reader.proofs.Accepting.{well_formed_lem}
use Rattle.reader.proofs.Files.{length_bytes, file_length, field_read}
use Rattle.reader.proofs.NumberRows.{bytes_join, sets_join, fields_join}
use Rattle.bounds.specs.Ranges.{Range, Peptides, card, some, ranges_of, In}
use Rattle.bounds.proofs.Basics.Members.{in_at, place, some_in, some_found, both_ways}
use Rattle.reduction.specs.Reduction.{rising, ends_leaf, leaf_lengths, region_of, written_family, reduced_family, reduced_file}
use Rattle.reduction.specs.Private.Steps.{Begins, reduced_ranges, Listed}
use Rattle.reduction.specs.Private.Writing.{header_numbers, OnLine, ends_at, Marks, marked_in, region_numbers, Wrote}
use Rattle.reduction.proofs.Basics.Plain.{Plain}
use Rattle.reduction.proofs.Basics.Grid.{FileOrder, before_le}
use Rattle.reduction.proofs.Theory.RunOrStretch.{plain, first}
use Rattle.reduction.proofs.Theory.Reduced.{reduced_ordered}
use Rattle.reduction.proofs.Theory.Regions.{order_at}
use Rattle.reduction.proofs.Theory.Leaves.{leaves_count}
use Rattle.reduction.proofs.Theory.Accepted.{reduced_wellformed}
use Rattle.reduction.proofs.Theory.OneFile.{reduced_file_fits}
use Rattle.reduction.proofs.Stretching.ListFronts.{begins_at, begins_room, map_at}
use Rattle.reduction.proofs.Writing.LeafEnds.{marked_set_lem, region_numbers_next}

-- A list of numbers that begins with a number of each range.

abbrev no_range : Range
no_range = record { from = 0; to = 0; low = 0; high = 0; z = 0 }

module _ (f : Range → ℕ) (Q : List Range) (L : List ℕ) (b : Begins (map f Q) L) where
  number_at_lem : (k : ℕ) → k < length Q → get_or L k 0 ≡ f (get_or Q k no_range)
  number_at_lem k h = begins_at (map f Q) L b k (omega (arith, length-map Q f)) ∙ map_at f Q no_range 0 k h

  begins_length : length Q ≤ length L
  begins_length = omega (arith, begins_room (map f Q) L b, length-map Q f)

-- the part of it that holds these numbers
front : (f : Range → ℕ) (Q : List Range) (L : List ℕ) (n : ℕ) → n ≡ length Q → Begins (map f Q) L → Begins (map f Q) (take n L)
front f Q L n e b = ([], ap (take n) b.1 ∙ take_at (map f Q) b.0 n (length-map Q f ∙ sym e) ∙ sym (append-nil (map f Q)))

module _ (s : List ℕ) (n : ℕ) (A B Z : List ℕ) (listed : Listed s n A B Z) where
  pub listed_front : Listed s n (take n A) (take n B) (take n Z)
  listed_front = record {
    number = listed.number;
    firsts = front (λ q. q.from) _ A n listed.number listed.firsts;
    lasts = front (λ q. q.to) _ B n listed.number listed.lasts;
    bounds = front (λ q. q.z) _ Z n listed.number listed.bounds;
  }

  -- the lists are long enough for that
  pub listed_length : (n ≤ length A) × (n ≤ length B) × (n ≤ length Z)
  listed_length = (
    omega (arith, listed.number, begins_length (λ q. q.from) (reduced_ranges (family_of s)) A listed.firsts),
    omega (arith, listed.number, begins_length (λ q. q.to) (reduced_ranges (family_of s)) B listed.lasts),
    omega (arith, listed.number, begins_length (λ q. q.z) (reduced_ranges (family_of s)) Z listed.bounds),
  )

-- as ranges on the longest line
pub line_longer : {m n : ℕ} {A B : List ℕ} → OnLine m n A B → OnLine 4096 n A B
line_longer o = record {
  line = omega arith;
  firsts = o.firsts;
  lasts = o.lasts;
  first = o.first;
  order = o.order;
  last = λ k h. omega (arith, o.last k h, o.line);
  rises = o.rises;
}

-- some range passes, or some place of the list does
some_below_lem : (t : Range → Bool) (Q : List Range) (g : ℕ → Bool) → ((k : ℕ) → k < length Q → g k ≡ t (get_or Q k no_range)) → some_below (length Q) g ≡ some t Q
some_below_lem t Q g h =
    both_ways (some_below (length Q) g) (some t Q)
    (λ e. let (k, l, p) = found g (length Q) e in some_in t Q (get_or Q k no_range) (in_at no_range Q k l) (sym (h k l) ∙ p))
    (λ e.
    let f = some_found t Q e in
    let p = place no_range Q f.it f.member in
    some_at g (length Q) p.at p.in_range (h p.at p.in_range ∙ ap t (sym p.there) ∙ f.passes))

-- Ranges on the line, by first and last peptide.
module _ (m : ℕ) (Q : List Range) (plain : (q : Range) → In q Q → Plain m q) (A B : List ℕ)
    (firsts : Begins (map (λ q. q.from) Q) A) (lasts : Begins (map (λ q. q.to) Q) B) where
  at_range : (k : ℕ) → k < length Q → (get_or A k 0 - 1 ≡ (get_or Q k no_range).low) × (get_or B k 0 ≡ (get_or Q k no_range).high)
  at_range k h =
      let w = plain (get_or Q k no_range) (in_at no_range Q k h) in
      let a = number_at_lem (λ q. q.from) Q A firsts k h in
      let b = number_at_lem (λ q. q.to) Q B lasts k h in
      (omega arith, omega arith)

  ends_are : ends_at m (length Q) A B ≡ ends_leaf m Q
  unfolding ends_at ends_leaf
  ends_are = λ i p. (ap (λ (b : Bool). eqb p m || b) (same p)) i
    where
      same : (p : ℕ) → some_below (length Q) (λ k. eqb p (get_or A k 0 - 1) || eqb p (get_or B k 0)) ≡ some (λ q. eqb p q.low || eqb p q.high) Q
      same p =
          some_below_lem (λ q. eqb p q.low || eqb p q.high) Q (λ k. eqb p (get_or A k 0 - 1) || eqb p (get_or B k 0))
          (λ k h. let e = at_range k h in rw (e.0, e.1))

  ranges_on_line : m ≤ 4096 → ((q : Range) → In q Q → 1 ≤ q.from) → FileOrder Q → OnLine m (length Q) A B
  ranges_on_line h some ordered =
      record {
        line = h;
        firsts = begins_length (λ q. q.from) Q A firsts;
        lasts = begins_length (λ q. q.to) Q B lasts;
        first = λ k l. omega (arith, number_at_lem (λ q. q.from) Q A firsts k l, some (get_or Q k no_range) (in_at no_range Q k l));
        order = λ k l. omega (arith, number_at_lem (λ q. q.from) Q A firsts k l, number_at_lem (λ q. q.to) Q B lasts k l, (plain (get_or Q k no_range) (in_at no_range Q k l)).order);
        last = λ k l. omega (arith, number_at_lem (λ q. q.to) Q B lasts k l, (plain (get_or Q k no_range) (in_at no_range Q k l)).small);
        rises = λ k l. omega (arith, number_at_lem (λ q. q.from) Q A firsts k (omega arith), number_at_lem (λ q. q.from) Q A firsts (k + 1) l, before_le (get_or Q k no_range) (get_or Q (k + 1) no_range) (order_at no_range Q ordered k (k + 1) (omega arith) l));
      }

  -- The numbers of the regions.
  module _ (Z : List ℕ) (zs : Begins (map (λ q. q.z) Q) Z) (X : Peptides) where
    abbrev regions : List Region
    regions = map (region_of X) Q

    region_there : (k : ℕ) → k < length Q
        → region_fields (get_or regions k no_region ∷ []) ≡ (card (get_or A k 0 - 1) X + 1) ∷ card (get_or B k 0) X ∷ get_or Z k 0 ∷ []
    unfolding region_fields region_of
    region_there k h =
        let e = at_range k h in
        rw (map_at (region_of X) Q no_range no_region k h, e.0, e.1, number_at_lem (λ q. q.z) Q Z zs k h)

    some_regions : (k : ℕ) → k ≤ length Q → region_numbers k X A B Z ≡ region_fields (take k regions)
    unfolding region_numbers rising region_fields
    some_regions zero h = refl
    some_regions (suc k) h =
        let here : k < length regions = omega (arith, length-map Q (region_of X)) in
        ap (λ (n : ℕ). region_numbers n X A B Z) (sym (add-one k))
        ∙ region_numbers_next X A B Z k
        ∙ ap₂ ◌++◌ (some_regions k (omega arith)) (sym (region_there k h))
        ∙ sym (fields_join (take k regions) (get_or regions k no_region ∷ []))
        ∙ ap region_fields (sym (take-suc regions k no_region here))

    all_regions : region_numbers (length Q) X A B Z ≡ region_fields regions
    all_regions = some_regions (length Q) (omega arith) ∙ ap region_fields (take_all (length Q) regions (omega (arith, length-map Q (region_of X))))

-- The parts of a file, written one after the other.
joined : (out h l r : List ℕ) (a : ℕ) → length h ≡ 6 → a ≡ 16 + 2 * length l
    → with_numbers (with_numbers (sets out 0 (mark ++ bytes_of h)) 16 l) a r ≡ sets out 0 (mark ++ bytes_of (h ++ (l ++ r)))
unfolding with_numbers
joined out h l r a six e =
    let start : List ℕ = mark ++ bytes_of h in
    let s : length start ≡ 16 = unfold mark in omega (arith, length_bytes h) in
    ap (λ (o : List ℕ). sets o a (bytes_of r)) (sets_join out 0 start (bytes_of l) 16 (omega arith))
    ∙ sets_join out 0 (start ++ bytes_of l) (bytes_of r) a (omega (arith, length-append start (bytes_of l), length_bytes l))
    ∙ ap (sets out 0) parts
  where
    parts : ((mark ++ bytes_of h) ++ bytes_of l) ++ bytes_of r ≡ mark ++ bytes_of (h ++ (l ++ r))
    parts =
        rw (bytes_join h (l ++ r), bytes_join l r)
        (append_assoc (mark ++ bytes_of h) (bytes_of l) (bytes_of r) ∙ append_assoc mark (bytes_of h) (bytes_of l ++ bytes_of r))

-- how much is written, and that there is room for it
pub record Room (m n N : ℕ) (E : List Bool) (room : ℕ) : Type 0 where
  pub line : m ≤ 4096
  pub few_leaves : N ≤ 4096
  pub few_regions : n ≤ 8191
  pub enough : 16 + 2 * N + 6 * n ≤ room

-- What is written from the list of the reduced ranges of an accepted file.
module _ (s : List ℕ) (bytes : IsBytes s) (accepted : Accepted s) (n : ℕ) (A B Z : List ℕ) (listed : Listed s n A B Z) where
  abbrev F : Family
  F = family_of s

  abbrev Q : List Range
  Q = reduced_ranges F

  abbrev G : Family
  G = reduced_family F

  formed : WellFormed F
  formed = well_formed_lem s bytes accepted

  reduced_formed : WellFormed G
  reduced_formed = reduced_wellformed F formed

  is_plain : (q : Range) → In q Q → Plain F.peptides q
  unfolding reduced_ranges
  is_plain = plain F.peptides (ranges_of F)

  listed_on_line : OnLine F.peptides n A B
  unfolding reduced_ranges
  listed_on_line =
      rw listed.number
      (ranges_on_line F.peptides Q is_plain A B listed.firsts listed.lasts formed.peptides_most (first F.peptides (ranges_of F)) (reduced_ordered F.peptides (ranges_of F)))

  listed_ends : ends_at F.peptides n A B ≡ ends_leaf F.peptides Q
  listed_ends = rw listed.number (ends_are F.peptides Q is_plain A B listed.firsts listed.lasts)

  -- its counts
  leaves_there : leaves G ≡ card F.peptides (ends_leaf F.peptides Q)
  unfolding reduced_family written_family reduced_ranges
  leaves_there = leaves_count (ends_leaf F.peptides Q) F.peptides

  regions_there : region_count G ≡ n
  unfolding reduced_family written_family reduced_ranges
  regions_there = length-map Q (region_of (ends_leaf F.peptides Q)) ∙ sym listed.number

  module _ (m : ℕ) (line : m ≡ F.peptides) where
    pub ranges_listed : OnLine m n A B
    ranges_listed = rw line listed_on_line

    -- E marks where the leaves end, N is how many they are
    module _ (E : List Bool) (marks : Marks E (ends_at m n A B)) (N : ℕ) (count : N ≡ card m (marked_in E)) where
      marked : marked_in E ≡ ends_leaf F.peptides Q
      marked = marked_set_lem E (ends_at m n A B) marks ∙ ap (λ (k : ℕ). ends_at k n A B) line ∙ listed_ends

      leaf_count : N ≡ leaves G
      leaf_count = count ∙ rw (line, marked) (sym leaves_there)

      pub has_room : (room : ℕ) → length s ≤ room → Room m n N E room
      has_room room h =
          let w = reduced_formed in
          let few : region_count G ≤ 8191 = omega (arith, w.regions_most, w.leaves_most, w.peptides_most) in
          record {
            line = omega (arith, line, formed.peptides_most);
            few_leaves = omega (arith, leaf_count, w.leaves_most, w.peptides_most);
            few_regions = omega (arith, regions_there);
            enough = omega (arith, leaf_count, regions_there, file_length G, fits);
          }
        where
          fits : length (file_of G) ≤ length s
          fits = unfold reduced_file in reduced_file_fits s bytes accepted

      regions_are : region_numbers n (marked_in E) A B Z ≡ region_fields G.regions
      unfolding reduced_family written_family reduced_ranges
      regions_are =
          rw (listed.number, marked) (all_regions F.peptides Q is_plain A B listed.firsts listed.lasts Z listed.bounds (ends_leaf F.peptides Q))

      lengths_are : leaf_lengths m (marked_in E) ≡ G.lengths
      unfolding reduced_family written_family reduced_ranges
      lengths_are = rw (line, marked)

      peptides_are : m ≡ G.peptides
      unfolding reduced_family written_family
      peptides_are = line

      fields_are : header_numbers m N n 16 ++ (leaf_lengths m (marked_in E) ++ region_numbers n (marked_in E) A B Z) ≡ fields G
      unfolding fields
      fields_are = rw (regions_are, lengths_are, leaf_count, ← regions_there, peptides_are)

      total_fits : total_length (leaves G) (region_count G) < 65536
      total_fits = let w = reduced_formed in omega (arith, w.regions_most, w.leaves_most, w.peptides_most)

      -- the reduced file stands at the start of the output
      pub wrote : (out : List ℕ) (total : ℕ) → length s ≤ length out → total ≡ 16 + 2 * N + 6 * n
          → Wrote s out
          (with_numbers
          (with_numbers (sets out 0 (mark ++ bytes_of (header_numbers m N n 16))) 16 (leaf_lengths m (marked_in E)))
          (16 + 2 * N)
          (region_numbers n (marked_in E) A B Z))
          total n
      unfolding reduced_file file_of
      wrote out total room e =
          let counted : total ≡ total_length (leaves G) (region_count G) = omega (arith, leaf_count, regions_there) in
          let small = total_fits in
          record {
            start =
                joined out (header_numbers m N n 16) (leaf_lengths m (marked_in E)) (region_numbers n (marked_in E) A B Z) (16 + 2 * N) refl
                (omega (arith, leaf_count, ap length lengths_are))
                ∙ ap (λ (l : List ℕ). sets out 0 (mark ++ bytes_of l)) fields_are
                ∙ at_start_lem (file_of G) (omega (arith, file_length G, (has_room (length out) room).enough, leaf_count, regions_there));
            whole = counted ∙ sym (file_length G);
            total = counted ∙ sym (unfold fields in field_read G 5 14 refl small);
            counted = sym regions_there ∙ sym (unfold fields in field_read G 2 8 refl (omega arith));
          }
        where
          at_start_lem : (file : List ℕ) → length file ≤ length out → sets out 0 file ≡ file ++ drop (length file) out
          at_start_lem file h = sets-eq file out 0 (omega arith) ∙ ap (λ (k : ℕ). file ++ drop k out) (zero-add (length file))
