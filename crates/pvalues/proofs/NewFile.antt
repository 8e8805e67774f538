-- The file of a family with new z: what comes before the regions is that of the given file, and the regions are written one by one.
use Prim.Native.Nat.{ℕ, ◌+◌, ◌*◌, ◌<◌, ◌≤◌}
use mathlib.Core.List.{List, [], ◌∷◌, ◌++◌, append_assoc}
use mathlib.Core.Path.{◌≡◌, sym, ap, ap₂, ◌∙◌}
use native.Mathlib.Numerals.{add-one}
use native.Mathlib.Omega.{arith}
use lib.ListN.{length, get_or, take, drop, length-map, length-append, length-drop}
use lib.Seq.{sets, sets-eq, take-suc, take_all, take_at, drop-append-add, drop-drop, length-take-le}
use Rattle.reader.specs.Bytes.{bytes_of, with_numbers}
use Rattle.reader.specs.Family.{Region, Family, leaves, region_count, region, no_region, family_of, mark, lengths_offset, regions_offset, total_length, region_fields, fields, file_of}
use Rattle.reader.specs.Causes.{first_cause, Accepted}
use Rattle.reader.specs.Calls.{at_start}
use Rattle.reader.proofs.Lists.{length_tabulate, get_d_tabulate, tabulate_same}
use Rattle.reader.proofs.First.{writes}
use Rattle.reader.proofs.Accepting.{accepted_header, whole_length}
use Rattle.reader.proofs.Files.{length_bytes, region_fields_length, file_length}
use Rattle.reader.proofs.NumberRows.{bytes_join, numbers_none, numbers_join, fields_join}
use Rattle.bounds.proofs.Theory.Family.{map_tabulate}
use Rattle.pvalues.specs.FromP.{bounded_region, family_from_p}
use Rattle.pvalues.specs.Calls.{from_p_causes, file_from_p, FromPWrites}
use Rattle.pvalues.specs.Private.Writing.{with_bound, with_bounds}
use Rattle.pvalues.specs.Private.Lowering.{z_at}

-- bytes that are written where a copied front ends
placed_after : (p out b : List ℕ) (n : ℕ) → length p ≡ n → n + length b ≤ length out → sets (p ++ drop n out) n b ≡ at_start (p ++ b) out
placed_after p out b n e room =
    sets-eq b (p ++ drop n out) n (omega (arith, length-append p (drop n out), length-drop n out))
    ∙ ap₂ (λ (x y : List ℕ). x ++ b ++ y) (take_at p (drop n out) n e) behind
  where
    behind : drop (n + length b) (p ++ drop n out) ≡ drop (length (p ++ b)) out
    behind =
        let long : n + length b ≡ length (p ++ b) = omega (arith, length-append p b) in
        ap (λ (k : ℕ). drop (k + length b) (p ++ drop n out)) (sym e)
        ∙ drop-append-add p (drop n out) (length b)
        ∙ drop-drop (length b) n out
        ∙ ap (λ (k : ℕ). drop k out) long

-- What comes before the regions.

abbrev front_numbers : Family → List ℕ
front_numbers F =
    F.peptides ∷ leaves F ∷ region_count F ∷ lengths_offset ∷ regions_offset (leaves F) ∷ total_length (leaves F) (region_count F) ∷ F.lengths

abbrev front : Family → List ℕ
front F = mark ++ bytes_of (front_numbers F)

front_file : (F : Family) → file_of F ≡ front F ++ bytes_of (region_fields F.regions)
unfolding file_of fields
front_file F =
    ap (λ (l : List ℕ). mark ++ l) (bytes_join (front_numbers F) (region_fields F.regions))
    ∙ sym (append_assoc mark _ (bytes_of (region_fields F.regions)))

front_length : (F : Family) → length (front F) ≡ regions_offset (leaves F)
unfolding mark
front_length F = omega (arith, length_bytes (front_numbers F))

module _ (F : Family) (Z : List ℕ) where
  regions_counted : region_count (with_bounds F Z) ≡ region_count F
  unfolding with_bounds
  regions_counted = length_tabulate (region_count F) (with_bound F Z)

  same_front : front (with_bounds F Z) ≡ front F
  unfolding with_bounds
  same_front = rw (length_tabulate (region_count F) (with_bound F Z))

  new_region : (k : ℕ) → k < region_count F → get_or (with_bounds F Z).regions k no_region ≡ with_bound F Z k
  unfolding with_bounds
  new_region k h = get_d_tabulate (region_count F) (with_bound F Z) no_region k h

  -- the numbers of the first k regions
  abbrev pub first_fields : ℕ → List ℕ
  first_fields k = region_fields (take k (with_bounds F Z).regions)

  pub none_put : (base : List ℕ) (start : ℕ) → base ≡ with_numbers base start (first_fields 0)
  unfolding region_fields
  none_put base start = sym (numbers_none base start)

  pub region_put : (base out : List ℕ) (start at k first last : ℕ) → k < region_count F → out ≡ with_numbers base start (first_fields k) → at ≡ start + 6 * k
      → first ≡ (region F k).first → last ≡ (region F k).last → with_numbers out at (first ∷ last ∷ get_or Z k 0 ∷ []) ≡ with_numbers base start (first_fields (k + 1))
  unfolding region_fields
  region_put base out start at k first last h e place a b =
      let here : k < length (with_bounds F Z).regions = omega (arith, regions_counted) in
      let next : take k (with_bounds F Z).regions ++ (get_or (with_bounds F Z).regions k no_region ∷ []) ≡ take (k + 1) (with_bounds F Z).regions =
      rw (add-one k) (sym (take-suc (with_bounds F Z).regions k no_region here)) in
      rw (e, a, b)
      (numbers_join base start (first_fields k) ((region F k).first ∷ (region F k).last ∷ get_or Z k 0 ∷ []) at
      (omega (arith, place, region_fields_length (take k (with_bounds F Z).regions), length-take-le k (with_bounds F Z).regions (omega arith)))
      ∙ ap (with_numbers base start)
      (ap (λ (r : Region). first_fields k ++ region_fields (r ∷ [])) (sym (new_region k h))
      ∙ sym (fields_join (take k (with_bounds F Z).regions) (get_or (with_bounds F Z).regions k no_region ∷ []))
      ∙ ap region_fields next))

  -- what is there once all are written
  pub all_put : (s out new : List ℕ) (start k : ℕ) → s ≡ file_of F → length s ≤ length out → start ≡ regions_offset (leaves F) → k ≡ region_count F
      → new ≡ with_numbers (take start s ++ drop start out) start (first_fields k) → new ≡ at_start (file_of (with_bounds F Z)) out
  unfolding with_numbers
  all_put s out new start k file room offset all e =
      let G : Family = with_bounds F Z in
      let whole : first_fields k ≡ region_fields G.regions = ap region_fields (take_all k G.regions (omega (arith, regions_counted))) in
      let before : take start s ≡ front F = rw (file, front_file F) (take_at (front F) (bytes_of (region_fields F.regions)) start (front_length F ∙ sym offset)) in
      let long : length s ≡ regions_offset (leaves F) + 6 * region_count F = ap length file ∙ file_length F in
      e
      ∙ rw (whole, before)
      (placed_after (front F) out (bytes_of (region_fields G.regions)) start (front_length F ∙ sym offset)
      (omega (arith, length_bytes (region_fields G.regions), region_fields_length G.regions, regions_counted)))
      ∙ ap (λ (l : List ℕ). at_start l out) (ap (λ (l : List ℕ). l ++ bytes_of (region_fields G.regions)) (sym same_front) ∙ sym (front_file G))

  -- the z that were found make the family of the definition
  pub bounds_family : (ps : List ℕ) (deviationSquared : ℕ) → ((k : ℕ) → k < region_count F → get_or Z k 0 ≡ z_at F ps deviationSquared k)
      → with_bounds F Z ≡ family_from_p F ps deviationSquared
  unfolding with_bounds family_from_p bounded_region region
  bounds_family ps deviationSquared found =
      ap (λ (rs : List Region). record { peptides = F.peptides; lengths = F.lengths; regions = rs })
      (tabulate_same (region_count F) (with_bound F Z) (λ k. bounded_region F ps deviationSquared (region F k)) (λ k l. rw (found k l))
      ∙ sym (map_tabulate no_region (bounded_region F ps deviationSquared) F.regions))

-- the file that is promised
pub writes_from_p : (file ps : List ℕ) (deviationSquared : ℕ) (out new : List ℕ) → first_cause (from_p_causes file ps deviationSquared (length out)) ≡ 0
    → new ≡ at_start (file_of (family_from_p (family_of file) ps deviationSquared)) out → FromPWrites file ps deviationSquared out new
unfolding file_from_p
writes_from_p file ps deviationSquared out new none e =
    e ∙ sym (writes (from_p_causes file ps deviationSquared (length out)) none (file_of (family_from_p (family_of file) ps deviationSquared)) out)

-- it is as long as the given one
pub from_p_length : (file ps : List ℕ) (deviationSquared : ℕ) → Accepted file → length (file_from_p file ps deviationSquared) ≡ length file
unfolding file_from_p family_from_p
from_p_length file ps deviationSquared accepted =
    omega (arith, file_length (family_from_p (family_of file) ps deviationSquared), length-map (family_of file).regions (bounded_region (family_of file) ps deviationSquared), whole_length file (accepted_header file accepted))
