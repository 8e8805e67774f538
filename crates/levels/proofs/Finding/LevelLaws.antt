-- The level of a region is one more than that of its parent.
--   deeper_is                           the level that is counted along the parents is the level as defined
--   levels_most                         no level of a family that is not too deep is over 64
--   parented                            an accepted file with the parents that the reader has written
--   leveled_accepted, leveled_refused   what `find_levels` promises, where no cause holds and where one does
use Prim.Native.Nat.{ℕ, zero, suc, ◌<◌, ◌≤◌}
use native.Mathlib.Omega.{arith}
use mathlib.Core.List.{List}
use mathlib.Core.Path.{◌≡◌, sym, ap, ◌∙◌}
use lib.ListN.{length, get_or}
use borrow.Author.Tests.{ne_eqb}
use Rattle.reader.specs.Bytes.{IsBytes}
use Rattle.reader.specs.Family.{Family, family_of, region_count, region}
use Rattle.reader.specs.Causes.{first_cause, file_causes, Accepted}
use Rattle.reader.specs.Calls.{ParentsWrites}
use Rattle.reader.specs.WellFormed.{IsParent}
use Rattle.reader.specs.Refusals.{number_of}
use Rattle.reader.specs.declared.refusal.Refusal.{Refusal}
use Rattle.reader.proofs.Refusals.{number_some}
use Rattle.reader.proofs.Climbing.{depth_outermost, depth_inner}
use Rattle.reader.proofs.Accepting.{well_formed_lem, accepted_header, few_regions}
use Rattle.reader.proofs.ParentLaws.{enough_first, parents_given}
use Rattle.levels.specs.Levels.{level_of}
use Rattle.levels.specs.Private.Leveling.{one_deeper, LevelsBelow, Parented, Leveled}
use Rattle.levels.proofs.Theory.Rearranged.{level_around}

module _ (F : Family) (P : List ℕ) (parented : Parented F P) (L : List ℕ) (k : ℕ) (here : k < region_count F) where
  pub deeper_is : LevelsBelow F L k → (c : ℕ) → IsParent F k c → one_deeper L c ≡ level_of F (region F k)
  unfolding one_deeper
  deeper_is known zero p = sym (level_around F k ∙ ap suc (depth_outermost F parented.nested.ordered parented.nested.nested k here p))
  deeper_is known (suc j) p =
      rw (ne_eqb (suc j) 0 (λ e. omega arith))
      (ap (λ (n : ℕ). suc (get_or L n 0)) (omega arith)
      ∙ ap suc (known j p.earlier ∙ level_around F j)
      ∙ sym (level_around F k ∙ ap suc (depth_inner F parented.nested.ordered parented.nested.nested k j here p)))

  pub levels_most : level_of F (region F k) ≤ 64
  levels_most = omega (arith, level_around F k, parented.shallow k here)

module _ (s : List ℕ) where
  -- what an accepted file and its parents are
  pub parented :
      IsBytes s → Accepted s → (out P : List ℕ) → 8191 ≤ length out → length P ≡ length out → ParentsWrites s out P → Parented (family_of s) P
  parented bytes accepted out P enough same writes =
      let w = well_formed_lem s bytes accepted in
      let few = few_regions s (accepted_header s accepted) in
      record {
        nested =
            record {
              ordered = w.ordered;
              nested = w.nested;
              known = parents_given s out (enough_first s out enough ∙ accepted) P writes;
              few = few;
              room = omega arith;
            };
        shallow = w.shallow;
      }

  pub leveled_accepted : (L : List ℕ) → Accepted s → LevelsBelow (family_of s) L (region_count (family_of s)) → Leveled s L 0
  leveled_accepted L accepted levels = record { first = sym accepted; levels = λ z. levels }

  pub leveled_refused : (L : List ℕ) (e : Refusal) → number_of e ≡ first_cause (file_causes s) → Leveled s L (number_of e)
  leveled_refused L e h = record { first = h; levels = λ z. absurd (number_some e z) }
