-- What the two conversions answer and write, in each case.
--   to_refused, to_short, to_written      of `to_levels`: a cause of the file, an output that is too short, and none
--   from_refused, from_written            of `from_levels`: a cause, and none
use Prim.Native.Nat.{ℕ, ◌+◌, ◌-◌, ◌<◌, ◌≤◌}
use native.Mathlib.Omega.{arith}
use mathlib.Core.List.{List}
use mathlib.Core.Path.{◌≡◌, sym, ap, ◌∙◌}
use lib.ListN.{length}
use borrow.Author.Tests.{lt-ltb}
use Rattle.std.specs.Prelude.{Ok, Err}
use Rattle.reader.specs.Bytes.{IsBytes}
use Rattle.reader.specs.Family.{family_of, region_count}
use Rattle.reader.specs.Causes.{first_cause, file_causes, Accepted}
use Rattle.reader.specs.Calls.{at_start, short}
use Rattle.reader.specs.Refusals.{number_of}
use Rattle.reader.specs.declared.refusal.Refusal.{Refusal}
use Rattle.reader.specs.declared.refusal.Refusal.TheVariants.{Room}
use Rattle.reader.proofs.Refusals.{unwritten, says_ok, says_err}
use Rattle.reader.proofs.First.{join_clear, writes}
use Rattle.reader.proofs.Accepting.{file_numbered, well_formed_lem}
use Rattle.reader.proofs.Files.{accepted_written_back}
use Rattle.levels.specs.Levels.{listed_family, in_file_order, level_file_of, family_file_of}
use Rattle.levels.specs.Calls.{the_length, to_levels_causes, from_levels_causes, ToLevelsAnswers, ToLevelsWrites, FromLevelsAnswers, FromLevelsWrites}
use Rattle.levels.specs.Private.Listing.{Headed}
use Rattle.levels.proofs.Calls.LevelCauses.{to_lacks, from_lacks, to_none}
use Rattle.levels.proofs.Files.LevelFiles.{to_length, from_length}
use Rattle.levels.proofs.Theory.RoundTrips.{leveled_well}

module _ (s out : List ℕ) where
  pub to_refused : (e : Refusal) → number_of e ≡ first_cause (to_levels_causes s (length out)) → ToLevelsAnswers s out (Err e) × ToLevelsWrites s out out
  to_refused e h =
      let causes = to_levels_causes s (length out) in
      (says_err the_length causes _ e (to_lacks s (length out)) h, unwritten e causes h _ out)

  pub to_short : Accepted s → length out < length s + 128 → ToLevelsAnswers s out (Err Room) × ToLevelsWrites s out out
  unfolding to_levels_causes short first_cause
  to_short accepted l = to_refused Room (sym (join_clear (file_causes s) _ (file_numbered s) accepted ∙ rw (lt-ltb (length out) (length s + 128) l)))

  pub to_written :
      IsBytes s → Accepted s → length s + 128 ≤ length out → (n : ℕ) (new : List ℕ) → n ≡ length s + 128 → new ≡ at_start (level_file_of (family_of s)) out
      → ToLevelsAnswers s out (Ok n) × ToLevelsWrites s out new
  to_written bytes accepted room n new e w =
      let none = to_none s (length out) accepted room in
      let long : length (level_file_of (family_of s)) ≡ length s + 128 =
      to_length (family_of s) (leveled_well (family_of s) (well_formed_lem s bytes accepted)).same_regions_count ∙ ap (λ (l : List ℕ). length l + 128) (accepted_written_back s bytes accepted) in (
        says_ok the_length (to_levels_causes s (length out)) _ n none (ap the_length (e ∙ sym long)),
        w ∙ sym (writes (to_levels_causes s (length out)) none (level_file_of (family_of s)) out),
      )

  pub from_refused : (e : Refusal) → number_of e ≡ first_cause (from_levels_causes s (length out)) → FromLevelsAnswers s out (Err e) × FromLevelsWrites s out out
  from_refused e h =
      let causes = from_levels_causes s (length out) in
      (says_err the_length causes _ e (from_lacks s (length out)) h, unwritten e causes h _ out)

  pub from_written :
      Headed s → first_cause (from_levels_causes s (length out)) ≡ 0 → region_count (in_file_order (listed_family s)) ≡ region_count (listed_family s)
      → (n : ℕ) (new : List ℕ) → n ≡ length s - 128 → new ≡ at_start (family_file_of s) out → FromLevelsAnswers s out (Ok n) × FromLevelsWrites s out new
  from_written headed none many n new e w =
      let long : n ≡ length (family_file_of s) = omega (arith, from_length s headed many, e) in (
        says_ok the_length (from_levels_causes s (length out)) _ n none (ap the_length long),
        w ∙ sym (writes (from_levels_causes s (length out)) none (family_file_of s) out),
      )
