-- The reduced family of a well-formed family is well formed.
use Prim.Native.Nat.{ℕ, ◌≤◌, ◌<◌}
use mathlib.Core.Bool.{true}
use mathlib.Core.List.{List}
use mathlib.Core.Path.{◌≡◌, sym, ◌∙◌, ap}
use native.Mathlib.Omega.{arith}
use Rattle.reader.specs.Family.{Family, leaves, region_count, region}
use Rattle.reader.specs.Nesting.{regions_around}
use Rattle.reader.specs.WellFormed.{WellFormed}
use Rattle.bounds.specs.Ranges.{Range, range_of, ranges_of, inside, In}
use Rattle.bounds.proofs.Basics.Members.{bit, bit_mono, sum_mono}
use Rattle.bounds.proofs.Basics.Nesting.{inside_facts, inside_holds}
use Rattle.bounds.proofs.Theory.Family.{family_laminar, range_in}
use Rattle.reduction.specs.Reduction.{reduced, region_of, written_family, reduced_family}
use Rattle.reduction.proofs.Theory.ReadBack.{again, ranges_again}
use Rattle.reduction.proofs.Basics.Pigeonhole.{how_many}
use Rattle.reduction.proofs.Theory.RunOrStretch.{Kind, a_run, a_stretch, kind, reduced_tidy}
use Rattle.reduction.proofs.Theory.Depth.{reduced_depth}
use Rattle.reduction.proofs.Theory.LeafNumbers.{again_inside}
use Rattle.reduction.proofs.Theory.Regions.{region_place, regions_ordered, regions_nested, sum_map, regions_around_count}
use Rattle.reduction.proofs.Theory.WrittenFamily.{written_range, leaves_some, leaves_most, lengths_sum, written_planted, regions_most}
use Rattle.reduction.proofs.Theory.FewerLeaves

pub leaves_fewer : (F : Family) → WellFormed F → leaves (reduced_family F) ≤ leaves F
leaves_fewer F w = FewerLeaves.no_new_leaves F w.lengths_sum (family_laminar w)

module _ (F : Family) (w : WellFormed F) where
  abbrev m : ℕ
  m = F.peptides

  abbrev R : List Range
  R = ranges_of F

  abbrev Q : List Range
  Q = reduced m R

  -- the range of the reduced list that the k-th region was written from
  from_list : (k : ℕ) → k < region_count (reduced_family F)
      → (q : Range) × In q Q × (range_of (reduced_family F) (region (reduced_family F) k) ≡ again m Q q)
  unfolding reduced_family
  from_list k h = written_range m Q (range_of (reduced_family F) (region (reduced_family F) k)) (range_in (reduced_family F) k h)

  -- z is 0 for a run, and that of a region for a stretch
  kind_z : (x : Range) → Kind m R x → x.z < 65536
  kind_z x (a_run d e) = omega arith
  kind_z x (a_stretch c) =
      let (k, h, e) = region_place F c.range c.member in
      let z : c.range.z ≡ (region F k).z = unfold range_of in ap (λ (t : Range). t.z) e in
      omega (arith, w.z_fits k h, c.level)

  z_fits : (k : ℕ) → k < region_count (reduced_family F) → (region (reduced_family F) k).z < 65536
  z_fits k h =
      let (q, i, e) = from_list k h in
      let z : (region (reduced_family F) k).z ≡ q.z = unfold range_of again region_of in ap (λ (t : Range). t.z) e in
      omega (arith, kind_z q (kind m R q i))

  -- around a region there are no more regions than around some region of the family
  around_written : (k : ℕ) (q : Range) → In q Q → range_of (reduced_family F) (region (reduced_family F) k) ≡ again m Q q
      → regions_around (reduced_family F) k ≡ how_many (λ t. inside (again m Q q) (again m Q t)) Q
  unfolding reduced_family
  around_written k q i e =
      regions_around_count (reduced_family F) k
      ∙ ap (λ r. how_many (inside r) (ranges_of (reduced_family F))) e
      ∙ ap (how_many (inside (again m Q q))) (ranges_again m Q)
      ∙ sum_map (λ r. bit (inside (again m Q q) r)) (again m Q) Q

  around_fewer : (q : Range) → In q Q → how_many (λ t. inside (again m Q q) (again m Q t)) Q ≤ how_many (inside q) Q
  around_fewer q i =
      sum_mono (λ t. bit (inside (again m Q q) (again m Q t))) (λ t. bit (inside q t)) Q
      (λ t j. bit_mono (inside (again m Q q) (again m Q t)) (inside q t) (inner t j))
    where
      inner : (t : Range) → In t Q → inside (again m Q q) (again m Q t) ≡ true → inside q t ≡ true
      inner t j e = inside_holds (again_inside (reduced_tidy m R (family_laminar w)) q t i j (inside_facts (again m Q q) (again m Q t) e))

  shallow : (k : ℕ) → k < region_count (reduced_family F) → regions_around (reduced_family F) k ≤ 63
  shallow k h =
      let (q, i, e) = from_list k h in
      let (r, j, most) = reduced_depth m R (family_laminar w) q i in
      let (n, l, d) = region_place F r j in
      let there : how_many (inside r) R ≡ regions_around F n = ap (λ r. how_many (inside r) R) d ∙ sym (regions_around_count F n) in
      omega (arith, around_written k q i e, around_fewer q i, w.shallow n l)

-- The reduced family of a well-formed family is well formed.
pub reduced_wellformed : (F : Family) → WellFormed F → WellFormed (reduced_family F)
unfolding reduced_family written_family
reduced_wellformed F w =
    let m = F.peptides in
    let Q = reduced m (ranges_of F) in
    let tidy = reduced_tidy m (ranges_of F) (family_laminar w) in
    let planted = written_planted m Q tidy in
    record {
      peptides_some = w.peptides_some;
      peptides_most = w.peptides_most;
      leaves_some = leaves_some m Q w.peptides_some;
      leaves_most = omega (arith, leaves_most m Q, w.peptides_most);
      regions_most = omega (arith, regions_most m Q tidy w.peptides_some);
      lengths_sum = lengths_sum m Q;
      ordered = regions_ordered (reduced_family F) planted;
      nested = regions_nested (reduced_family F) planted;
      shallow = shallow F w;
      z_fits = z_fits F w;
    }
