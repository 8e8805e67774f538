-- The reader judges the family file of what is listed, with the regions as they stand.
use native.Mathlib.Omega.{arith}
use native.Mathlib.Nat.{sub-zero}
use Prim.Native.Nat.{ℕ, ◌-◌}
use mathlib.Core.List.{List, ◌++◌}
use mathlib.Core.Path.{◌≡◌, ap, ◌∙◌}
use lib.ListN.{length, take}
use Rattle.reader.specs.Bytes.{IsBytes}
use Rattle.reader.specs.Family.{family_of, file_of}
use Rattle.reader.specs.Causes.{first_cause, header_causes, listing_causes}
use Rattle.levels.specs.Levels.{listed_family}
use Rattle.levels.proofs.Files.Listed.{header_facts, header_few}
use Rattle.levels.proofs.Calls.Judging.{front_of, listed_length, listing_of}
use Rattle.levels.proofs.judging.check_listing.Goals as goal
use Rattle.levels.proofs.judging.check_listing.Goals.{After-write_as_listed}

-- what the reader judges
plain : (c : After-write_as_listed) → take (length c.args.file.now - 128 - 0) c.write_as_listed.new.out ≡ file_of (listed_family c.args.file.now)
plain c =
    let s = c.args.file.now in
    let G = listed_family s in
    let bytes : IsBytes s = λ i. omega (arith, c.type_inv.file i) in
    rw (sub-zero (length s - 128), c.write_as_listed.ensures)
    (front_of (file_of G) _ (length s - 128) (listed_length s bytes c.requires.headed))

pub write_as_listed-requires : goal.write_as_listed-requires
write_as_listed-requires c =
    let h = header_facts _ c.requires.headed in record { headed = c.requires.headed; file_in_bounds = omega (arith, h.whole, h.leaves_most, header_few _ c.requires.headed) }

pub overflow_sub-file : goal.overflow_sub-file
overflow_sub-file c =
    omega (arith, (header_facts _ c.requires.headed).whole)

pub slice_bounds-check_listing-end : goal.slice_bounds-check_listing-end
slice_bounds-check_listing-end c =
    let h = header_facts _ c.requires.headed in omega (arith, h.whole, h.leaves_most, header_few _ c.requires.headed, c.write_as_listed.auto.out)

pub returns : goal.returns
returns c =
    let s = c.args.file.now in
    let bytes : IsBytes s = λ i. omega (arith, c.type_inv.file i) in
    c.check_listing.ensures
    ∙ ap (λ (l : List ℕ). first_cause (header_causes l ++ listing_causes (family_of l))) (plain (goal.at.returns c).After-write_as_listed)
    ∙ listing_of s bytes c.requires.headed
