-- The reduced family is the one form of a family: it has the same curves, families with the same curves have the same one,
-- and none of them has fewer regions or leaves.
use Prim.Native.Nat.{◌≤◌}
use mathlib.Core.Path.{◌≡◌, refl, sym, ◌∙◌, ap}
use native.Mathlib.Omega.{arith}
use lib.ListN.{length-map}
use Rattle.reader.specs.Family.{Family, leaves, region_count, total_length}
use Rattle.reader.specs.WellFormed.{WellFormed}
use Rattle.bounds.specs.Ranges.{ranges_of}
use Rattle.bounds.proofs.Theory.Family.{ranges_length, family_laminar}
use Rattle.reduction.specs.Reduction.{reduced, region_of, ends_leaf, written_family, reduced_family}
use Rattle.reduction.specs.Alike.{Alike}
use Rattle.reduction.proofs.Theory.Reduced.{reduced_same, reduced_equal}
use Rattle.reduction.proofs.Theory.RunOrStretch.{plain}
use Rattle.reduction.proofs.Theory.ReadBack.{written_there, written_back}
use Rattle.reduction.proofs.Theory.Curves.{alike_admissible, admissible_alike}
use Rattle.reduction.proofs.Theory.Smallest.{reduced_count}
use Rattle.reduction.proofs.Theory.Accepted.{leaves_fewer, reduced_wellformed}

-- Having the same curves goes both ways, and on.

pub alike_sym : {F G : Family} → Alike F G → Alike G F
alike_sym a = record { peptides = sym a.peptides; curves = λ path h. sym (a.curves path (rw a.peptides h)) }

pub alike_trans : {F G H : Family} → Alike F G → Alike G H → Alike F H
alike_trans a b =
    record {
      peptides = a.peptides ∙ b.peptides;
      curves = λ path h. a.curves path h ∙ b.curves path (rw a.peptides at h);
    }

-- The reduced family has the same curves.
pub reduced_alike : (F : Family) → WellFormed F → Alike F (reduced_family F)
unfolding reduced_family written_family
reduced_alike F w =
    let m = F.peptides in
    let R = ranges_of F in
    let same = reduced_same m R (family_laminar w) in
    admissible_alike F (reduced_family F) (family_laminar w) (family_laminar (reduced_wellformed F w)) refl
    (record {
      there = λ A h. written_there m (reduced m R) (plain m R) A (same.there A h);
      back = λ A h. same.back A (written_back m (reduced m R) (plain m R) A h);
    })

module _ (F G : Family) (w : WellFormed F) (v : WellFormed G) where
  -- Families with the same curves have the same reduced family,
  pub alike_equal : Alike F G → reduced_family F ≡ reduced_family G
  unfolding reduced_family
  alike_equal a =
      let m = F.peptides in
      let lists : reduced m (ranges_of F) ≡ reduced m (ranges_of G) =
      reduced_equal (family_laminar w) (rw a.peptides (family_laminar v)) (alike_admissible F G (family_laminar w) (family_laminar v) a)
      in
      ap (written_family m) lists ∙ ap (λ n. written_family n (reduced n (ranges_of G))) a.peptides

  -- and families with the same reduced family have the same curves.
  pub equal_alike : reduced_family F ≡ reduced_family G → Alike F G
  equal_alike e = alike_trans (reduced_alike F w) (rw e (alike_sym (reduced_alike G v)))

-- The reduced family is its own reduced family.
pub reduced_again : (F : Family) → WellFormed F → reduced_family (reduced_family F) ≡ reduced_family F
reduced_again F w = sym (alike_equal F (reduced_family F) w (reduced_wellformed F w) (reduced_alike F w))

-- It has no more regions than the family,
pub regions_fewer : (F : Family) → region_count (reduced_family F) ≤ region_count F
unfolding reduced_family written_family
regions_fewer F =
    let m = F.peptides in
    let Q = reduced m (ranges_of F) in
    omega (arith, length-map Q (region_of (ends_leaf m Q)), reduced_count m (ranges_of F), ranges_length F)

-- F is no larger than G
pub record NoLarger (F G : Family) : Type 0 where
  pub regions : region_count F ≤ region_count G
  pub leafs : leaves F ≤ leaves G
  pub bytes : total_length (leaves F) (region_count F) ≤ total_length (leaves G) (region_count G)

-- no more leaves, and so its file is no longer.
pub reduced_fits : (F : Family) → WellFormed F → NoLarger (reduced_family F) F
reduced_fits F w = record { regions = regions_fewer F; leafs = leaves_fewer F w; bytes = omega (arith, regions_fewer F, leaves_fewer F w) }

-- No family with the same curves is smaller.
pub reduced_smallest : (F G : Family) → WellFormed F → WellFormed G → Alike F G → NoLarger (reduced_family F) G
reduced_smallest F G w v a = rw (alike_equal F G w v a) (reduced_fits G v)
