-- The output, the level counts, then the levels at the places of their regions.
use Prim.Native.Nat.{ℕ}
use native.Mathlib.Omega.{arith}
use mathlib.Core.Bool.{false}
use mathlib.Core.Path.{◌≡◌, refl, sym, ap, ◌∙◌}
use Rattle.reader.specs.Family.{region_count, region}
use Rattle.levels.specs.Levels.{level_of, listed_family, counts_in, distinct}
use Rattle.levels.specs.Causes.{repeated, cause26}
use Rattle.levels.proofs.Theory.RoundTrips.{counts_add}
use Rattle.levels.proofs.Files.Listed.{header_few}
use Rattle.levels.proofs.Calls.Judging.{numbers_of, few_of, left_out, none_left_out, levels_placed, place_16, place_26, place_27, place_0, wrong_27, right_27}
use Rattle.levels.proofs.judging.check_places.Goals as goal
use Rattle.levels.proofs.judging.check_places.Goals.{After-region_count, Else-bad_counts, Else-order-region_count}

count : (c : After-region_count) → c.region_count.result ≡ region_count (listed_family c.args.list.now.file.now)
count c = c.region_count.ensures

no26 : (c : Else-bad_counts) → cause26 (counts_in c.args.list.now.file.now) (region_count (listed_family c.args.list.now.file.now)) ≡ false
no26 c = sym c.bad_counts.ensures ∙ c.if-bad_counts.false

none-repeats : (c : Else-order-region_count) → repeated (listed_family c.args.list.now.file.now) ≡ false
none-repeats c =
    let s = c.args.list.now.file.now in
    none_left_out _ _ c.requires.distinct (omega (arith, c.if-order-region_count.false, c.region_count.ensures))

pub returns-then-room-family_length : goal.returns-then-room-family_length
returns-then-room-family_length c =
    sym (place_16 _ _ (omega (arith, c.if-room-family_length.true, c.family_length.ensures)))

pub returns-then-bad_counts : goal.returns-then-bad_counts
returns-then-bad_counts c =
    sym (place_26 _ _ (omega (arith, c.if-room-family_length.false, c.family_length.ensures)) (sym c.bad_counts.ensures ∙ c.if-bad_counts.true))

pub returns-then-order-region_count : goal.returns-then-order-region_count
returns-then-order-region_count c =
    sym (place_27 _ _ (omega (arith, c.if-room-family_length.false, c.family_length.ensures)) (no26 (goal.at.returns-then-order-region_count c).Else-bad_counts) (left_out _ _ c.requires.distinct (omega (arith, c.if-order-region_count.true, count (goal.at.returns-then-order-region_count c).After-region_count))))

pub place_levels-requires : goal.place_levels-requires
place_levels-requires c =
    let s = c.args.list.now.file.now in
    let few = header_few s c.requires.distinct.headed in
    let nested = c.requires.nested in record {
      order_in_bounds = omega (arith, few, few_of _ _ c.requires.distinct);
      in_placed = λ k i. omega (arith, few, numbers_of _ _ c.requires.distinct k i);
      one_level = λ i j l h e.
          nested.leveled refl i (omega arith)
          ∙ ap (λ (n : ℕ). level_of (distinct (listed_family s)) (region (listed_family s) n)) e
          ∙ sym (nested.leveled refl j h);
    }

pub wrong_levels-requires : goal.wrong_levels-requires
wrong_levels-requires c =
    let s = c.args.list.now.file.now in record { levels_below = levels_placed _ _ c.requires.distinct (none-repeats (goal.at.wrong_levels-requires c).Else-order-region_count) c.args.levels.now c.place_levels.new.placed c.requires.nested c.place_levels.ensures; adds_up = counts_add _ _ (no26 (goal.at.wrong_levels-requires c).Else-bad_counts) }

pub returns-then-wrong_levels : goal.returns-then-wrong_levels
returns-then-wrong_levels c =
    sym (place_27 _ _ (omega (arith, c.if-room-family_length.false, c.family_length.ensures)) (no26 (goal.at.returns-then-wrong_levels c).Else-bad_counts) (wrong_27 _ _ (sym c.wrong_levels.ensures ∙ c.if-wrong_levels.true)))

pub returns : goal.returns
returns c =
    sym (place_0 _ _ (omega (arith, c.if-room-family_length.false, c.family_length.ensures)) (no26 (goal.at.returns c).Else-bad_counts) (right_27 _ _ (none-repeats (goal.at.returns c).Else-order-region_count) (sym c.wrong_levels.ensures ∙ c.if-wrong_levels.false)))
