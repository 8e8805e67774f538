-- The theorem on bounds from p-values: what `bounds_from_p` writes, over all its calls that have nothing to decline.
use Prim.Native.Nat.{ℕ, suc, ◌+◌, ◌*◌, ◌-◌, ◌<◌, ◌≤◌}
use mathlib.Core.Bool.{true}
use mathlib.Core.List.{List, ◌++◌, map}
use mathlib.Core.Logic.{⊎_elim}
use mathlib.Core.Path.{◌≡◌, refl, sym, ap, ap₂, subst, ◌∙◌}
use native.Mathlib.Omega.{arith}
use lib.ListN.{length, get_or, take, drop, length-map}
use lib.Seq.{take_at, drop_at, get_or-take, get_or-drop}
use Rattle.std.specs.Prelude.{Result, Ok, Err}
use Rattle.reader.specs.Lists.{tabulate}
use Rattle.reader.specs.Family.{Region, Family, family_of, file_of, region_count, region, no_region, peptides_up_to, EmptyRegion}
use Rattle.reader.specs.Nesting.{region_within}
use Rattle.reader.specs.Causes.{first_cause, AcceptedFile}
use Rattle.reader.specs.WellFormed.{WellFormed, SameRanges}
use Rattle.reader.proofs.Bools.{clash}
use Rattle.reader.proofs.Lists.{get_d_tabulate, tabulate_same}
use Rattle.reader.specs.Refusals.{verdict}
use Rattle.reader.specs.declared.refusal.Refusal.{Refusal}
use Rattle.reader.proofs.Refusals.{number_some}
use Rattle.reader.proofs.First.{writes}
use Rattle.reader.proofs.Accepting.{well_formed_lem}
use Rattle.reader.proofs.Files.{file_bytes, file_accepted, read_back}
use Rattle.reader.proofs.OtherBounds.{other_bounds_formed}
use borrow.Author.Tests.{eqb-true, not-false}
use Rattle.bounds.specs.Ranges.{range_of, range_at}
use Rattle.bounds.proofs.Basics.Members.{le_or_lt}
use Rattle.bounds.proofs.Basics.Nesting.{has_holds}
use Rattle.bounds.proofs.Theory.EmptyRegions.{empty_holds_none}
use Rattle.bounds.proofs.Theory.Family.{map_tabulate}
use Rattle.pvalues.specs.FromP.{million, gap, over, passes_at, z_of, IsZ, region_p_values, bounded_region, family_from_p, cause20}
use Rattle.pvalues.specs.Calls.{from_p_causes, file_from_p}
use Rattle.pvalues.specs.AcceptedCalls.{FromPCall, new_file, new_family}
use Rattle.pvalues.specs.Private.Lowering.{size_at}
use Rattle.pvalues.proofs.Judging.{none_holds}
use Rattle.pvalues.proofs.Theory.Passing.{passes_down}
use Rattle.pvalues.proofs.Theory.ZLaws.{z_is, z_most, z_mono, passes_everywhere}
use Rattle.pvalues.proofs.Theory.LoweredIsZ.{region_size, size_most}
use Rattle.pvalues.proofs.Theory.ZBetween.{z_enough, within_has, region_no_smaller}
use Rattle.pvalues.proofs.NewFile.{from_p_length}

-- The z of a region with these ends on the line of the peptides and these p-values, and where they come from.
pub record RegionZ (F : Family) (ps : List ℕ) (deviationSquared : ℕ) (r : Region) (z : ℕ) : Type 0 where
  -- its p-values: one for each of its peptides, from low + 1 to high
  pub one_each : length (region_p_values F ps r) ≡ (range_of F r).high - (range_of F r).low
  pub its_own : (i : ℕ) → i < length (region_p_values F ps r) → get_or (region_p_values F ps r) i 0 ≡ get_or ps ((range_of F r).low + i) 0
  -- the largest number up to theirs that passes at all thresholds
  pub largest : IsZ deviationSquared (region_p_values F ps r) z
  -- It passes at every other threshold too, so that these thresholds suffice for the source's (32).
  pub everywhere : (t : ℕ) → passes_at deviationSquared (region_p_values F ps r) t z ≡ true
  -- at most the number of its peptides
  pub most : z ≤ (range_of F r).high - (range_of F r).low
  pub none_if_empty : EmptyRegion F r → z ≡ 0

pub record BoundsFromP : Type 0 where
  -- The call declines nothing, and leaves the bytes beyond the file as they were.
  pub answered : (f : AcceptedFile) (c : FromPCall f) → c.answer ≡ Ok (tt {0})
  pub rest : (f : AcceptedFile) (c : FromPCall f) → drop (length f.file) c.new ≡ drop (length f.file) c.old
  -- What it writes is as long as the given file, and is an accepted file: one of those that the demands speak of.
  pub same_length : (f : AcceptedFile) (c : FromPCall f) → length (new_file f c) ≡ length f.file
  pub accepted : (f : AcceptedFile) (c : FromPCall f) → (g : AcceptedFile) × (g.file ≡ new_file f c)
  -- It has the same m, leaf lengths and leaf ranges, and each region has its z from the p-values.
  pub same_ranges : (f : AcceptedFile) (c : FromPCall f) → SameRanges (family_of f.file) (new_family f c)
  pub bounds : (f : AcceptedFile) (c : FromPCall f) (k : ℕ) → k < region_count (family_of f.file)
      → RegionZ (family_of f.file) c.p_values c.deviation_squared (region (family_of f.file) k) (region (new_family f c) k).z
  -- What passes at a threshold is closed downward.
  pub closed_downward : (deviationSquared : ℕ) (ps : List ℕ) (t u v : ℕ) → u ≤ v → passes_at deviationSquared ps t v ≡ true → passes_at deviationSquared ps t u ≡ true
  -- A larger constant gives no smaller z.
  pub larger_constant : (f : AcceptedFile) (c d : FromPCall f) → c.p_values ≡ d.p_values → c.deviation_squared ≤ d.deviation_squared
      → (k : ℕ) → k < region_count (family_of f.file) → (region (new_family f c) k).z ≤ (region (new_family f d) k).z
  -- Raised p-values give no smaller z, so that p-values may be rounded up; nor has a region a smaller z than one inside it.
  pub raised_p_values : (f : AcceptedFile) (c d : FromPCall f) → c.deviation_squared ≡ d.deviation_squared → ((i : ℕ) → get_or c.p_values i 0 ≤ get_or d.p_values i 0)
      → (k : ℕ) → k < region_count (family_of f.file) → (region (new_family f c) k).z ≤ (region (new_family f d) k).z
  pub region_around : (f : AcceptedFile) (c : FromPCall f) (j k : ℕ) → j < region_count (family_of f.file) → k < region_count (family_of f.file)
      → region_within (region (family_of f.file) j) (region (family_of f.file) k) ≡ true → (region (new_family f c) j).z ≤ (region (new_family f c) k).z
  -- z is at least the constant, in whole units, where the region has so many peptides: the source says so below its (16).
  pub constant_reached : (f : AcceptedFile) (c : FromPCall f) (k v : ℕ) → k < region_count (family_of f.file) → v ≤ (range_at (family_of f.file) k).high - (range_at (family_of f.file) k).low
      → v * million ≤ c.deviation_squared → v ≤ (region (new_family f c) k).z
  -- The z of the given file are not used: with the same ranges and p-values and the same constant, the same file is written.
  pub given_z_unused : (f g : AcceptedFile) (c : FromPCall f) (d : FromPCall g) → SameRanges (family_of f.file) (family_of g.file)
      → c.p_values ≡ d.p_values → c.deviation_squared ≡ d.deviation_squared → new_file f c ≡ new_file g d

-- The family of the definition.

module _ (F : Family) (ps : List ℕ) (deviationSquared : ℕ) where
  from_p_region : (k : ℕ) → k < region_count F → region (family_from_p F ps deviationSquared) k ≡ bounded_region F ps deviationSquared (region F k)
  unfolding family_from_p region
  from_p_region k h =
      ap (λ (rs : List Region). get_or rs k no_region) (map_tabulate no_region (bounded_region F ps deviationSquared) F.regions)
      ∙ get_d_tabulate (region_count F) (λ j. bounded_region F ps deviationSquared (get_or F.regions j no_region)) no_region k h

  from_p_ranges : SameRanges F (family_from_p F ps deviationSquared)
  unfolding family_from_p bounded_region
  from_p_ranges =
      record {
        peptides = refl;
        lengths = refl;
        regions = length-map F.regions (bounded_region F ps deviationSquared);
        first = λ k h. ap (λ (r : Region). r.first) (from_p_region k h);
        last = λ k h. ap (λ (r : Region). r.last) (from_p_region k h);
      }

  from_p_z : (k : ℕ) → k < region_count F → (region (family_from_p F ps deviationSquared) k).z ≡ z_of deviationSquared (region_p_values F ps (region F k))
  unfolding bounded_region
  from_p_z k h = ap (λ (r : Region). r.z) (from_p_region k h)

-- the given z are not used
module _ {F G : Family} (same : SameRanges F G) (ps : List ℕ) (deviationSquared : ℕ) where
  up_to_same : (i j : ℕ) → i ≡ j → peptides_up_to G i ≡ peptides_up_to F j
  unfolding peptides_up_to
  up_to_same i j e = rw (e, same.lengths)

  values_same : (k : ℕ) → k < region_count F → region_p_values G ps (region G k) ≡ region_p_values F ps (region F k)
  unfolding region_p_values range_of
  values_same k h =
      ap₂ (λ (low high : ℕ). take (high - low) (drop low ps)) (up_to_same _ _ (ap (λ (n : ℕ). n - 1) (same.first k h))) (up_to_same _ _ (same.last k h))

  bounded_same : (k : ℕ) → k < region_count F → bounded_region G ps deviationSquared (region G k) ≡ bounded_region F ps deviationSquared (region F k)
  unfolding bounded_region
  bounded_same k h = λ i. record { first = same.first k h i; last = same.last k h i; z = z_of deviationSquared (values_same k h i) }

  from_p_same : family_from_p G ps deviationSquared ≡ family_from_p F ps deviationSquared
  unfolding family_from_p region
  from_p_same =
      let regions : map (bounded_region G ps deviationSquared) G.regions ≡ map (bounded_region F ps deviationSquared) F.regions =
      map_tabulate no_region (bounded_region G ps deviationSquared) G.regions
      ∙ ap (λ (n : ℕ). tabulate n (λ k. bounded_region G ps deviationSquared (region G k))) same.regions
      ∙ tabulate_same (region_count F) (λ k. bounded_region G ps deviationSquared (region G k)) (λ k. bounded_region F ps deviationSquared (region F k)) bounded_same
      ∙ sym (map_tabulate no_region (bounded_region F ps deviationSquared) F.regions) in
      λ i. record { peptides = same.peptides i; lengths = same.lengths i; regions = regions i }

-- A call.

-- a call that answers 0 declines nothing
declines_nothing : (r : Result (Unit {0}) Refusal) → verdict r ≡ 0 → r ≡ Ok (tt {0})
declines_nothing (Ok done) h = refl
declines_nothing (Err refusal) h = absurd (number_some refusal h)

module _ (f : AcceptedFile) (c : FromPCall f) where
  abbrev F : Family
  F = family_of f.file

  abbrev G : Family
  G = family_from_p (family_of f.file) c.p_values c.deviation_squared

  given_formed : WellFormed F
  given_formed = well_formed_lem f.file f.bytes f.accepted

  values_counted : length c.p_values ≡ F.peptides
  values_counted = unfold cause20 in eqb-true (length c.p_values) F.peptides (not-false _ c.counted)

  none : first_cause (from_p_causes f.file c.p_values c.deviation_squared (length c.old)) ≡ 0
  none = none_holds f.file c.p_values c.deviation_squared (length c.old) f.accepted c.room c.counted c.small c.allowed

  z_known : (k : ℕ) → k < region_count F → (region G k).z ≤ size_at F k
  z_known k h =
      omega
      (arith, from_p_z F c.p_values c.deviation_squared k h, z_most c.deviation_squared (region_p_values F c.p_values (region F k)), region_size given_formed c.p_values values_counted k h)

  ranges : SameRanges F G
  ranges = from_p_ranges F c.p_values c.deviation_squared

  formed : WellFormed G
  formed =
      other_bounds_formed ranges given_formed
      (λ k l.
      let h : k < region_count F = omega (arith, ranges.regions) in
      omega (arith, z_known k h, size_most given_formed c.p_values values_counted k h, given_formed.peptides_most))

  new_length : length (file_of G) ≡ length f.file
  new_length = unfold file_from_p in from_p_length f.file c.p_values c.deviation_squared f.accepted

  written_so : c.new ≡ file_of G ++ drop (length (file_of G)) c.old
  unfolding file_from_p
  written_so = c.writes ∙ writes (from_p_causes f.file c.p_values c.deviation_squared (length c.old)) none (file_of G) c.old

  file_is : new_file f c ≡ file_of G
  unfolding new_file
  file_is = rw written_so (take_at (file_of G) (drop (length (file_of G)) c.old) (length f.file) new_length)

  family_is : new_family f c ≡ G
  family_is = ap family_of file_is ∙ read_back G formed

  rest_kept : drop (length f.file) c.new ≡ drop (length f.file) c.old
  rest_kept = rw written_so (drop_at (file_of G) (drop (length (file_of G)) c.old) (length f.file) new_length ∙ ap (λ (n : ℕ). drop n c.old) new_length)

  empty_size : (k : ℕ) → k < region_count F → EmptyRegion F (region F k) → size_at F k ≡ 0
  empty_size k h empty =
      ⊎_elim
      (λ l. omega arith)
      (λ l.
      absurd
      (clash (has_holds {r = range_at F k} {p = suc (range_at F k).low} (record { above = omega arith; upto = l }))
      (empty_holds_none F (region F k) (given_formed.ordered.first_some k h) (given_formed.ordered.first_last k h) empty (suc (range_at F k).low))))
      (le_or_lt (range_at F k).high (range_at F k).low)

  own : (k i : ℕ) → i < length (region_p_values F c.p_values (region F k)) → k < region_count F
      → get_or (region_p_values F c.p_values (region F k)) i 0 ≡ get_or c.p_values ((range_at F k).low + i) 0
  unfolding region_p_values
  own k i l h =
      get_or-take (size_at F k) (drop (range_at F k).low c.p_values) i 0 (omega (arith, region_size given_formed c.p_values values_counted k h))
      ∙ get_or-drop (range_at F k).low c.p_values i 0

  region_of_new : (k : ℕ) → k < region_count F → RegionZ F c.p_values c.deviation_squared (region F k) (region G k).z
  region_of_new k h =
      let e = from_p_z F c.p_values c.deviation_squared k h in
      record {
        one_each = region_size given_formed c.p_values values_counted k h;
        its_own = λ i l. own k i l h;
        largest = rw e (z_is c.deviation_squared (region_p_values F c.p_values (region F k)));
        everywhere = λ t. rw e (passes_everywhere c.deviation_squared (region_p_values F c.p_values (region F k)) t);
        most = z_known k h;
        none_if_empty = λ empty. omega (arith, z_known k h, empty_size k h empty);
      }

pub bounds_from_p : BoundsFromP
bounds_from_p =
    record {
      answered = λ f c. declines_nothing c.answer (c.answers ∙ none f c);
      rest = rest_kept;
      same_length = λ f c. ap length (file_is f c) ∙ new_length f c;
      accepted = λ f c. (record { file = file_of (G f c); bytes = file_bytes (G f c); accepted = file_accepted (G f c) (formed f c) }, sym (file_is f c));
      same_ranges = λ f c. subst (SameRanges (F f c)) (sym (family_is f c)) (ranges f c);
      bounds = λ f c k h. rw (family_is f c) (region_of_new f c k h);
      closed_downward = λ C ps t u v l h. unfold passes_at in passes_down C (gap t) (over t ps) v u l h;
      larger_constant =
          λ f c d same l k h.
          rw (family_is f c, family_is f d, from_p_z (F f c) c.p_values c.deviation_squared k h, from_p_z (F f d) d.p_values d.deviation_squared k h, same)
          (z_mono c.deviation_squared d.deviation_squared (region_p_values (F f d) d.p_values (region (F f d) k)) l);
      raised_p_values =
          λ f c d same raised k h.
          rw (family_is f c, family_is f d, from_p_z (F f c) c.p_values c.deviation_squared k h, from_p_z (F f d) d.p_values d.deviation_squared k h, same)
          (region_no_smaller (given_formed f c) c.p_values d.p_values (values_counted f c) (values_counted f d) raised k k h h (λ i e. e) d.deviation_squared);
      region_around =
          λ f c j k l u inside.
          rw (family_is f c, from_p_z (F f c) c.p_values c.deviation_squared j l, from_p_z (F f c) c.p_values c.deviation_squared k u)
          (region_no_smaller (given_formed f c) c.p_values c.p_values (values_counted f c) (values_counted f c) (λ i. omega arith) j k l u (within_has (given_formed f c) j k l inside) c.deviation_squared);
      constant_reached =
          λ f c k v h few enough.
          rw (family_is f c, from_p_z (F f c) c.p_values c.deviation_squared k h)
          (z_enough c.deviation_squared (region_p_values (F f c) c.p_values (region (F f c) k)) v (omega (arith, region_size (given_formed f c) c.p_values (values_counted f c) k h)) enough);
      given_z_unused =
          λ f g c d same values constant.
          file_is f c
          ∙ ap file_of (rw (values, constant) (sym (from_p_same same d.p_values d.deviation_squared)))
          ∙ sym (file_is g d);
    }
