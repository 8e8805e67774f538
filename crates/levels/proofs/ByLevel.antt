-- The theorem on families by level: what `to_levels` and `from_levels` write, over all their calls that have nothing to decline.
use Prim.Native.Nat.{ℕ, suc, ◌+◌, ◌-◌, ◌<◌}
use native.Mathlib.Omega.{arith}
use mathlib.Core.List.{List, [], ◌∷◌, ◌++◌}
use mathlib.Core.Logic.{⊎_elim}
use mathlib.Core.Path.{◌≡◌, refl, sym, ap, ap₂, ◌∙◌}
use lib.Dec.{eqb, ltb}
use lib.ListN.{length, get_or, take, drop, get_or-eq_default}
use lib.Seq.{take_at, drop_at}
use borrow.Author.Tests.{ltb-true, ltb-false}
use Rattle.reader.specs.Lists.{those}
use Rattle.reader.specs.Bytes.{IsBytes}
use Rattle.reader.specs.Family.{Region, Family, region_count, region, family_of, mark, file_of}
use Rattle.reader.specs.Causes.{first_cause, file_causes, Accepted, AcceptedFile}
use Rattle.reader.specs.WellFormed.{WellFormed}
use Rattle.reader.specs.Calls.{Report}
use Rattle.reader.proofs.Bools.{test}
use Rattle.reader.proofs.Lists.{get_d_tabulate}
use Rattle.reader.proofs.First.{answers, writes}
use Rattle.reader.proofs.Accepting.{well_formed_lem}
use Rattle.reader.proofs.Judged.{from_peptides_counted, from_leaves_counted, from_regions_counted}
use Rattle.reader.proofs.Files.{well_formed_fits, file_bytes, file_accepted, read_back, accepted_written_back}
use Rattle.std.specs.Prelude.{Result, Ok, Err}
use Rattle.reader.specs.declared.refusal.Refusal.{Refusal}
use Rattle.reader.proofs.Refusals.{number_some}
use Rattle.levels.specs.Levels.{level_of, by_level, level_counts, in_file_order, level_mark, level_file, level_file_of, listed_family, counts_in, family_file_of}
use Rattle.levels.specs.Causes.{AcceptedLevels, AcceptedLevelFile}
use Rattle.levels.specs.Calls.{report_converted, to_levels_causes, from_levels_causes}
use Rattle.levels.specs.AcceptedCalls.{ToLevelsCall, written_by_level, FromLevelsCall, written_as_family, Rearranged}
use Rattle.levels.specs.Private.Listing.{Headed}
use Rattle.sorting.proofs.Those.{those_few}
use Rattle.levels.proofs.Theory.Rearranged.{same_in, members, at_member, file_order_same, file_order_count}
use Rattle.levels.proofs.Theory.RoundTrips.{counted_levels, leveled_well, ListedWell, listed_well}
use Rattle.levels.proofs.Files.Listed.{counts_length, header_facts, listed_fits}
use Rattle.levels.proofs.Files.LevelFiles.{FitsLevels, level_file_bytes, level_read_back, counts_read_back, level_headed, level_written_back, to_length, from_length}
use Rattle.levels.proofs.Calls.LevelCauses.{LevelsClear, levels_clear, levels_none, to_none, from_none, levels_refused, family_refused}

pub record ByLevel : Type 0 where
  -- `to_levels` answers the given length plus 128, and leaves the bytes beyond the file that it writes as they were.
  pub to_answered : (f : AcceptedFile) (c : ToLevelsCall f) → c.answer ≡ Ok (length f.file + 128)
  pub to_rest : (f : AcceptedFile) (c : ToLevelsCall f) → drop (length f.file + 128) c.new ≡ drop (length f.file + 128) c.old
  -- What it writes has that length, and is an accepted file by level.
  pub to_long : (f : AcceptedFile) (c : ToLevelsCall f) → length (written_by_level f c) ≡ length f.file + 128
  pub to_accepted : (f : AcceptedFile) (c : ToLevelsCall f) → (g : AcceptedLevelFile) × (g.file ≡ written_by_level f c)
  -- It lists the same regions, with their z, on the same leaves.
  pub to_same : (f : AcceptedFile) (c : ToLevelsCall f) → Rearranged (family_of f.file) (listed_family (written_by_level f c))
  -- The family file of what it lists is the given one, byte for byte; and so every call of `from_levels` with it writes the given file.
  pub to_back : (f : AcceptedFile) (c : ToLevelsCall f) → family_file_of (written_by_level f c) ≡ f.file
  pub to_and_from : (f : AcceptedFile) (c : ToLevelsCall f) (g : AcceptedLevelFile) (d : FromLevelsCall g) → g.file ≡ written_by_level f c → written_as_family g d ≡ f.file
  -- `from_levels` answers the given length less 128, and leaves the bytes beyond the file that it writes as they were.
  pub from_answered : (f : AcceptedLevelFile) (c : FromLevelsCall f) → c.answer ≡ Ok (length f.file - 128)
  pub from_rest : (f : AcceptedLevelFile) (c : FromLevelsCall f) → drop (length f.file - 128) c.new ≡ drop (length f.file - 128) c.old
  -- What it writes is 128 bytes shorter than the given file, and is an accepted family file: one of those that the demands speak of.
  pub from_long : (f : AcceptedLevelFile) (c : FromLevelsCall f) → length (written_as_family f c) + 128 ≡ length f.file
  pub from_accepted : (f : AcceptedLevelFile) (c : FromLevelsCall f) → (g : AcceptedFile) × (g.file ≡ written_as_family f c)
  -- It has the same regions, with their z, on the same leaves.
  pub from_same : (f : AcceptedLevelFile) (c : FromLevelsCall f) → Rearranged (listed_family f.file) (family_of (written_as_family f c))
  -- The file by level of its family is the given one, byte for byte; and so every call of `to_levels` with it writes the given file.
  pub from_back : (f : AcceptedLevelFile) (c : FromLevelsCall f) → level_file_of (family_of (written_as_family f c)) ≡ f.file
  pub from_and_to : (f : AcceptedLevelFile) (c : FromLevelsCall f) (g : AcceptedFile) (d : ToLevelsCall g) → g.file ≡ written_as_family f c → written_by_level g d ≡ f.file
  -- The two layouts are told apart by the mark: each is refused with cause 1 where the other is asked for, whatever the room.
  pub levels_elsewhere : (s : List ℕ) → take 4 s ≡ level_mark → first_cause (file_causes s) ≡ 1
  pub family_elsewhere : (s : List ℕ) → take 4 s ≡ mark → (room : ℕ) → first_cause (from_levels_causes s room) ≡ 1

-- The answer of a call that writes.

answer_known : (r : Result ℕ Refusal) (n : ℕ) → report_converted r ≡ record { number = 0; values = n ∷ [] } → r ≡ Ok n
answer_known (Ok m) n e = ap Ok (ap (λ (t : Report). get_or t.values 0 0) e)
answer_known (Err refusal) n e = absurd (number_some refusal (ap (λ (t : Report). t.number) e))

-- What is at the start of a list, and the rest.

module _ (new old now : List ℕ) (n : ℕ) (long : length new ≡ n) (e : now ≡ new ++ drop (length new) old) where
  start_is : take n now ≡ new
  start_is = rw e (take_at new (drop (length new) old) n long)

  rest_is : drop n now ≡ drop n old
  rest_is = rw e (drop_at new (drop (length new) old) n long ∙ ap (λ (k : ℕ). drop k old) long)

-- The file by level of a well-formed family.

module _ (F : Family) (w : WellFormed F) where
  count_small : (h : ℕ) → get_or (level_counts F) h 0 < 65536
  unfolding level_counts
  count_small h =
      ⊎_elim
      (λ t.
      rw (get_d_tabulate 64 (λ h. length (those (λ r. eqb (level_of F r) (suc h)) F.regions)) 0 h (ltb-true h 64 t))
      (omega (arith, those_few (λ r. eqb (level_of F r) (suc h)) F.regions, w.leaves_most, w.regions_most)))
      (λ f. rw (get_or-eq_default (level_counts F) 0 {n = h} (omega (arith, counted_levels F, ltb-false h 64 f))) (omega arith))
      (test (ltb h 64))

  there : (P : Region → Type 0) → ((k : ℕ) → k < region_count F → P (region F k)) → (k : ℕ) → k < region_count (by_level F) → P (region (by_level F) k)
  there P all k h = members F P all (region (by_level F) k) (same_in (by_level F).regions F.regions (leveled_well F w).same_regions (region (by_level F) k) (at_member (by_level F) k h))

  fits : FitsLevels (level_counts F) (by_level F)
  unfolding by_level
  fits =
      let f = well_formed_fits F w in
      let k = (leveled_well F w).same_regions_count in
      record {
        counted = counted_levels F;
        small = count_small;
        family =
            record {
              peptides = f.peptides;
              total = omega (arith, f.total, k);
              lengths = f.lengths;
              first = there (λ r. r.first < 65536) f.first;
              last = there (λ r. r.last < 65536) f.last;
              z = there (λ r. r.z < 65536) f.z;
            };
        total = omega (arith, k, w.leaves_most, w.regions_most);
      }

  listed_back : listed_family (level_file_of F) ≡ by_level F
  unfolding level_file_of
  listed_back = level_read_back (level_counts F) (by_level F) fits

  counts_back : counts_in (level_file_of F) ≡ level_counts F
  unfolding level_file_of
  counts_back = counts_read_back (level_counts F) (by_level F) fits

  file_headed : Headed (level_file_of F)
  unfolding level_file_of by_level
  file_headed =
      let k = (leveled_well F w).same_regions_count in
      level_headed (level_counts F) (by_level F) fits
      (from_peptides_counted F.peptides w.peptides_some w.peptides_most)
      (from_leaves_counted (by_level F) w.leaves_some w.leaves_most)
      (from_regions_counted (by_level F) (omega (arith, w.regions_most)))

  level_bytes : IsBytes (level_file_of F)
  unfolding level_file_of
  level_bytes = level_file_bytes (level_counts F) (by_level F)

  level_accepted : AcceptedLevels (level_file_of F)
  level_accepted =
      let c = leveled_well F w in
      levels_none (level_file_of F)
      (record {
        headed = file_headed;
        no6 = rw listed_back c.no6;
        no7 = rw listed_back c.no7;
        no9 = rw listed_back c.no9;
        no10 = rw listed_back c.no10;
        no26 = rw (listed_back, counts_back) c.no26;
        no27 = rw (listed_back, counts_back) c.no27;
      })

  level_rearranged : Rearranged F (listed_family (level_file_of F))
  unfolding by_level
  level_rearranged =
      rw listed_back (record { peptides = refl; lengths = refl; regions = (leveled_well F w).same_regions })

  level_long : length (level_file_of F) ≡ length (file_of F) + 128
  level_long = to_length F (leveled_well F w).same_regions_count

  family_file_back : family_file_of (level_file_of F) ≡ file_of F
  unfolding family_file_of
  family_file_back = ap (λ (G : Family). file_of (in_file_order G)) listed_back ∙ ap file_of (leveled_well F w).back

-- A call of `to_levels`.

module _ (f : AcceptedFile) (c : ToLevelsCall f) where
  abbrev F : Family
  F = family_of f.file

  formed : WellFormed F
  formed = well_formed_lem f.file f.bytes f.accepted

  given_back : file_of F ≡ f.file
  given_back = accepted_written_back f.file f.bytes f.accepted

  to_clear : first_cause (to_levels_causes f.file (length c.old)) ≡ 0
  to_clear = to_none f.file (length c.old) f.accepted c.room

  to_length_is : length (level_file_of F) ≡ length f.file + 128
  to_length_is = level_long F formed ∙ ap (λ (s : List ℕ). length s + 128) given_back

  to_written : c.new ≡ level_file_of F ++ drop (length (level_file_of F)) c.old
  to_written = c.writes ∙ writes (to_levels_causes f.file (length c.old)) to_clear (level_file_of F) c.old

  to_file : written_by_level f c ≡ level_file_of F
  unfolding written_by_level
  to_file = start_is (level_file_of F) c.old c.new (length f.file + 128) to_length_is to_written

  to_answer : c.answer ≡ Ok (length f.file + 128)
  to_answer =
      answer_known c.answer (length (level_file_of F))
      (c.answers ∙ answers (to_levels_causes f.file (length c.old)) to_clear (length (level_file_of F) ∷ []))
      ∙ ap Ok to_length_is

-- What an accepted file by level lists.

module _ (s : List ℕ) (b : IsBytes s) (a : AcceptedLevels s) where
  abbrev G : Family
  G = listed_family s

  clear : LevelsClear s
  clear = levels_clear s a

  listed : ListedWell (counts_in s) G
  listed =
      let h = header_facts s clear.headed in
      listed_well (counts_in s) G
      (record {
        counts_all = counts_length s;
        peptides_some = h.peptides_some;
        peptides_most = h.peptides_most;
        leaves_some = h.leaves_some;
        leaves_most = h.leaves_most;
        regions_most = h.regions_most;
        z_fits = (listed_fits s b clear.headed).z;
        no6 = clear.no6;
        no7 = clear.no7;
        no9 = clear.no9;
        no10 = clear.no10;
        no26 = clear.no26;
        no27 = clear.no27;
      })

  family_back : family_of (family_file_of s) ≡ in_file_order G
  unfolding family_file_of
  family_back = read_back (in_file_order G) listed.well

  family_accepted : Accepted (family_file_of s)
  unfolding family_file_of
  family_accepted = file_accepted (in_file_order G) listed.well

  family_bytes : IsBytes (family_file_of s)
  unfolding family_file_of
  family_bytes = file_bytes (in_file_order G)

  family_rearranged : Rearranged G (family_of (family_file_of s))
  unfolding in_file_order
  family_rearranged = rw family_back (record { peptides = refl; lengths = refl; regions = file_order_same G clear.no7 })

  family_long : length (family_file_of s) + 128 ≡ length s
  family_long = from_length s clear.headed (file_order_count G clear.no7)

  level_file_back : level_file_of (family_of (family_file_of s)) ≡ s
  unfolding level_file_of
  level_file_back =
      ap level_file_of family_back
      ∙ ap₂ level_file listed.counts_back listed.back
      ∙ level_written_back s b clear.headed

-- A call of `from_levels`.

module _ (f : AcceptedLevelFile) (c : FromLevelsCall f) where
  from_clear : first_cause (from_levels_causes f.file (length c.old)) ≡ 0
  from_clear = from_none f.file (length c.old) f.accepted c.room

  from_length_is : length (family_file_of f.file) ≡ length f.file - 128
  from_length_is = omega (arith, family_long f.file f.bytes f.accepted)

  from_written : c.new ≡ family_file_of f.file ++ drop (length (family_file_of f.file)) c.old
  from_written = c.writes ∙ writes (from_levels_causes f.file (length c.old)) from_clear (family_file_of f.file) c.old

  from_file : written_as_family f c ≡ family_file_of f.file
  unfolding written_as_family
  from_file = start_is (family_file_of f.file) c.old c.new (length f.file - 128) from_length_is from_written

  from_answer : c.answer ≡ Ok (length f.file - 128)
  from_answer =
      answer_known c.answer (length (family_file_of f.file))
      (c.answers ∙ answers (from_levels_causes f.file (length c.old)) from_clear (length (family_file_of f.file) ∷ []))
      ∙ ap Ok from_length_is

pub by_level_lem : ByLevel
by_level_lem =
    record {
      to_answered = to_answer;
      to_rest = λ f c. rest_is (level_file_of (F f c)) c.old c.new (length f.file + 128) (to_length_is f c) (to_written f c);
      to_long = λ f c. ap length (to_file f c) ∙ to_length_is f c;
      to_accepted =
          λ f c.
          (record { file = level_file_of (F f c); bytes = level_bytes (F f c) (formed f c); accepted = level_accepted (F f c) (formed f c) }, sym (to_file f c));
      to_same = λ f c. rw (to_file f c) (level_rearranged (F f c) (formed f c));
      to_back = to_back_is;
      to_and_from = λ f c g d e. from_file g d ∙ ap family_file_of e ∙ to_back_is f c;
      from_answered = from_answer;
      from_rest = λ f c. rest_is (family_file_of f.file) c.old c.new (length f.file - 128) (from_length_is f c) (from_written f c);
      from_long = λ f c. ap (λ (s : List ℕ). length s + 128) (from_file f c) ∙ family_long f.file f.bytes f.accepted;
      from_accepted =
          λ f c.
          (record { file = family_file_of f.file; bytes = family_bytes f.file f.bytes f.accepted; accepted = family_accepted f.file f.bytes f.accepted }, sym (from_file f c));
      from_same = λ f c. rw (from_file f c) (family_rearranged f.file f.bytes f.accepted);
      from_back = from_back_is;
      from_and_to = λ f c g d e. to_file g d ∙ ap (λ (s : List ℕ). level_file_of (family_of s)) e ∙ from_back_is f c;
      levels_elsewhere = levels_refused;
      family_elsewhere = family_refused;
    }
  where
    to_back_is : (f : AcceptedFile) (c : ToLevelsCall f) → family_file_of (written_by_level f c) ≡ f.file
    to_back_is f c = ap family_file_of (to_file f c) ∙ family_file_back (F f c) (formed f c) ∙ given_back f c

    from_back_is : (f : AcceptedLevelFile) (c : FromLevelsCall f) → level_file_of (family_of (written_as_family f c)) ≡ f.file
    from_back_is f c = ap (λ (s : List ℕ). level_file_of (family_of s)) (from_file f c) ∙ level_file_back f.file f.bytes f.accepted
