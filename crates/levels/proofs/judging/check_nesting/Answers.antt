-- The reader judges the family file of what is listed, in file order and without repeats.
use native.Mathlib.Omega.{arith}
use native.Mathlib.Nat.{sub-zero}
use Prim.Native.Nat.{ℕ, ◌-◌, ◌*◌}
use mathlib.Core.List.{List}
use mathlib.Core.Path.{◌≡◌, ap, subst, ◌∙◌}
use lib.ListN.{length, take}
use Rattle.reader.specs.Refusals.{verdict}
use Rattle.reader.specs.Family.{file_of, leaves, total_length}
use Rattle.levels.specs.Levels.{listed_family}
use Rattle.levels.specs.Private.Listing.{arranged}
use Rattle.levels.specs.Private.Leveling.{Leveled}
use Rattle.levels.specs.Private.Judging.{Plain}
use Rattle.levels.proofs.Files.Listed.{header_facts, header_few}
use Rattle.levels.proofs.Calls.Judging.{front_of, arranged_length, numbers_of, few_of, nesting_of}
use Rattle.levels.proofs.judging.check_nesting.Goals as goal
use Rattle.levels.proofs.judging.check_nesting.Goals.{After-family_length, After-write_listed}

abbrev end : After-family_length → ℕ
end c = c.family_length.result - 6 * (c.region_count.result - length c.args.order.now)

-- so long is the file in file order
long : (c : After-family_length) → end c ≡ total_length (leaves (listed_family c.args.list.now.file.now)) (length c.args.order.now)
long c = omega (arith, c.family_length.ensures, c.region_count.ensures, few_of _ _ c.requires, (header_facts _ c.requires.headed).whole)

-- what the reader judges
plain : (c : After-write_listed) → Plain c.args.list.now.file.now c.args.order.now c.write_listed.new.out
plain c =
    let d = c.requires in
    rw c.write_listed.ensures
    (front_of _ _ _ (arranged_length c.args.list.now.file.now c.args.list.now.bytes d.headed c.args.order.now (numbers_of _ _ d) (few_of _ _ d)))

pub overflow_sub-left_out : goal.overflow_sub-left_out
overflow_sub-left_out c =
    omega (arith, c.region_count.ensures, few_of _ _ c.requires)

pub write_listed-requires : goal.write_listed-requires
write_listed-requires c =
    let d = c.requires in
    let h = header_facts _ d.headed in record { numbers = numbers_of _ _ d; order_len_bound = few_of _ _ d; order_in_bounds = omega (arith, few_of _ _ d, h.leaves_most, header_few _ d.headed) }

pub overflow_sub-family_length : goal.overflow_sub-family_length
overflow_sub-family_length c =
    omega (arith, c.region_count.ensures, c.family_length.ensures, few_of _ _ c.requires, (header_facts _ c.requires.headed).whole)

pub slice_bounds-find_levels-end : goal.slice_bounds-find_levels-end
slice_bounds-find_levels-end c =
    omega (arith, long (goal.at.slice_bounds-find_levels-end c).After-family_length, c.write_listed.auto.out, few_of _ _ c.requires, (header_facts _ c.requires.headed).leaves_most, header_few _ c.requires.headed)

pub returns : goal.returns
returns c =
    let s = c.args.list.now.file.now in
    let d = c.requires in
    let O = c.args.order.now in
    let is : take (end (goal.at.returns c).After-family_length - 0) c.write_listed.new.out ≡ file_of (arranged (listed_family s) O) =
    ap (λ (n : ℕ). take n c.write_listed.new.out) (sub-zero (end (goal.at.returns c).After-family_length) ∙ long (goal.at.returns c).After-family_length) ∙ plain (goal.at.returns c).After-write_listed in record {
      nested = nesting_of s O d c.args.list.now.bytes _ _ (subst (λ (l : List ℕ). Leveled l c.find_levels.new.levels (verdict c.find_levels.result)) is c.find_levels.ensures);
      plain = plain (goal.at.returns c).After-write_listed;
    }
