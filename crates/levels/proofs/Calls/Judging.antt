-- The first cause of a PHFL file and an output, one list of causes after the other.
--   front_of                        what was written at the start of a buffer
--   listed_length                   the family file of what is listed is 128 bytes shorter
--   listing_of                      the first of 6 and 7 of the family file of what is listed is that of the family
--   arranged_length                 the family file of regions in an order: its length
--   arranged_first                  its first cause is that of the family
--   arranged_read                   and it reads back as the family
--   distinct_few                    no more regions are left than are listed
--   order_length, order_few         how many the order without repeats names
--   numbers_of, few_of              a list that is known to be this order has numbers of regions, and no more than are listed
--   nesting_of                      what the judgement of its family file says of 9 and 10, and the levels
--   left_out                        where a region was left out, 27 holds
--   none_left_out                   where none was, no region repeats
--   levels_placed                   the levels at the places of their regions
--   place_16, place_26, place_27, place_0                       the first of 16, 26 and 27
--   first_header, first_listing, first_nesting, first_place     the first cause of the whole call
--   wrong, wrong_27, right_27       27, from the levels that were found
--   places_clear                    where none of 16, 26 and 27 holds
--   ready                           what is known where no cause holds
--   judged_whole                    the first cause of the whole call, from those after 6 and 7
use Prim.Native.Nat.{ℕ, zero, suc, ◌-◌, ◌<◌, ◌≤◌}
use native.Mathlib.Omega.{arith}
use mathlib.Core.Bool.{Bool, true, false}
use mathlib.Core.List.{List, [], ◌∷◌, ◌++◌, map}
use mathlib.Core.Logic.{⊎_elim}
use mathlib.Core.Path.{◌≡◌, refl, sym, ap, subst, ◌∙◌}
use lib.ListN.{length, get_or, take, length-map}
use lib.Seq.{take_at}
use borrow.Author.Tests.{lt-ltb, le-ltb, ltb-false}
use Rattle.reader.specs.Lists.{In, some_below}
use Rattle.reader.specs.Bytes.{IsBytes}
use Rattle.reader.specs.Family.{Region, Family, leaves, region_count, no_region, region, family_of, file_of, total_length}
use Rattle.reader.specs.Causes.{cause7, first_cause, family_causes, file_causes, listing_causes, header_causes}
use Rattle.reader.specs.Calls.{at_start, short}
use Rattle.reader.proofs.Bools.{or_l, or_r, or_neither}
use Rattle.reader.proofs.Members.{place, in_at}
use Rattle.reader.proofs.First.{head_clear, join_clear, join_holds, none_or_some}
use Rattle.reader.proofs.Judged.{from_leaves_counted, from_regions_counted}
use Rattle.reader.proofs.Files.{Fits, file_length, fitting_read_back, judged_as_family, judged_as_listing}
use Rattle.levels.specs.Levels.{level_of, listed_family, counts_in, distinct, in_file_order, family_file_of}
use Rattle.levels.specs.Causes.{repeated, misleveled, cause26, cause27, level_header_causes, nesting_causes, place_causes, form_causes}
use Rattle.levels.specs.Calls.{from_levels_causes}
use Rattle.levels.specs.Private.Listing.{Headed, Sound, Numbers, arranged}
use Rattle.levels.specs.Private.Leveling.{LevelsBelow, Leveled}
use Rattle.levels.specs.Private.Ordering.{distinct_order}
use Rattle.levels.specs.Private.Judging.{Distinct, Nested, Plain, room_and_places, Ready, FamilyJudged, ListedJudged}
use Rattle.levels.proofs.Theory.Rearranged.{level_same, file_order_same, file_order_count}
use Rattle.levels.proofs.Theory.Distinct.{repeats_few, distinct_all, distinct_placed, arranged_distinct, order_numbers, distinct_order_length, order_all}
use Rattle.levels.proofs.Theory.FileOrder.{nesting_judged}
use Rattle.levels.proofs.Theory.RoundTrips.{none_repeated}
use Rattle.levels.proofs.Files.Listed.{header_facts, listed_fits}
use Rattle.levels.proofs.Calls.LevelCauses.{header_numbered, listing_numbered, form_numbered, listing_clear, place_clear}

-- The family as it is listed.

map_at : (f : ℕ → Region) (ks : List ℕ) (i : ℕ) → i < length ks → get_or (map f ks) i no_region ≡ f (get_or ks i 0)
map_at f [] i l = absurd (omega arith)
map_at f (k ∷ ks) zero l = refl
map_at f (k ∷ ks) (suc i) l = map_at f ks i (omega arith)

pub front_of : (file out : List ℕ) (n : ℕ) → length file ≡ n → take n (at_start file out) ≡ file
front_of file out n e = take_at file _ n e

module _ (F : Family) where
  count_arranged : (ks : List ℕ) → region_count (arranged F ks) ≡ length ks
  unfolding arranged
  count_arranged ks = length-map ks (region F)

  same_peptides : (ks : List ℕ) → (arranged F ks).peptides ≡ F.peptides
  unfolding arranged
  same_peptides ks = refl

  same_lengths : (ks : List ℕ) → (arranged F ks).lengths ≡ F.lengths
  unfolding arranged
  same_lengths ks = refl

  same_leaves : (ks : List ℕ) → leaves (arranged F ks) ≡ leaves F
  same_leaves ks = ap length (same_lengths ks)

  arranged_region : (ks : List ℕ) (i : ℕ) → i < length ks → region (arranged F ks) i ≡ region F (get_or ks i 0)
  unfolding arranged region
  arranged_region ks i l = map_at (λ k. get_or F.regions k no_region) ks i l

module _ (s : List ℕ) (bytes : IsBytes s) (headed : Headed s) where
  pub listed_length : length (file_of (listed_family s)) ≡ length s - 128
  listed_length = omega (arith, file_length (listed_family s), (header_facts s headed).whole)

  pub listing_of : first_cause (header_causes (file_of (listed_family s)) ++ listing_causes (family_of (file_of (listed_family s)))) ≡ first_cause (listing_causes (listed_family s))
  listing_of =
      let h = header_facts s headed in
      judged_as_listing (listed_family s) (listed_fits s bytes headed) h.no2 h.no3 h.no4

  -- The regions of an order.

  module _ (ks : List ℕ) (numbers : Numbers (listed_family s) ks) (few : length ks ≤ region_count (listed_family s)) where
    pub arranged_length : length (file_of (arranged (listed_family s) ks)) ≡ total_length (leaves (listed_family s)) (length ks)
    arranged_length = omega (arith, file_length (arranged (listed_family s) ks), count_arranged (listed_family s) ks, same_leaves (listed_family s) ks)

    arranged_fits : Fits (arranged (listed_family s) ks)
    arranged_fits =
        let F : Family = listed_family s in
        let fits = listed_fits s bytes headed in
        let n = count_arranged F ks in
        record {
          peptides = subst (λ (x : ℕ). x < 65536) (sym (same_peptides F ks)) fits.peptides;
          total = omega (arith, fits.total, n, same_leaves F ks);
          lengths = λ j. subst (λ (l : List ℕ). get_or l j 0 < 65536) (sym (same_lengths F ks)) (fits.lengths j);
          first = λ k l. rw (arranged_region F ks k (omega arith)) (fits.first _ (numbers _ (in_at 0 ks k (omega arith))));
          last = λ k l. rw (arranged_region F ks k (omega arith)) (fits.last _ (numbers _ (in_at 0 ks k (omega arith))));
          z = λ k l. rw (arranged_region F ks k (omega arith)) (fits.z _ (numbers _ (in_at 0 ks k (omega arith))));
        }

    pub arranged_first : first_cause (file_causes (file_of (arranged (listed_family s) ks))) ≡ first_cause (family_causes (arranged (listed_family s) ks))
    arranged_first =
        let F : Family = listed_family s in
        let h = header_facts s headed in
        judged_as_family (arranged F ks) arranged_fits
        (rw (same_peptides F ks) h.no2)
        (from_leaves_counted (arranged F ks) (omega (arith, h.leaves_some, same_leaves F ks)) (omega (arith, h.leaves_most, same_leaves F ks)))
        (from_regions_counted (arranged F ks) (omega (arith, h.regions_most, count_arranged F ks, same_leaves F ks)))

    pub arranged_read : family_of (file_of (arranged (listed_family s) ks)) ≡ arranged (listed_family s) ks
    arranged_read = fitting_read_back (arranged (listed_family s) ks) arranged_fits

pub distinct_few : (F : Family) → region_count (distinct F) ≤ region_count F
unfolding distinct
distinct_few F = repeats_few F.regions

module _ (s : List ℕ) (sound : Sound s) where
  no7 : cause7 (listed_family s) ≡ false
  no7 = (listing_clear s sound).1

  pub order_length : length (distinct_order (listed_family s)) ≡ region_count (distinct (listed_family s))
  order_length = distinct_order_length (listed_family s) no7

  pub order_few : length (distinct_order (listed_family s)) ≤ region_count (listed_family s)
  order_few = omega (arith, order_length, distinct_few (listed_family s))

-- A list that is known to be that order.

module _ (s O : List ℕ) (d : Distinct s O) where
  pub numbers_of : Numbers (listed_family s) O
  numbers_of = subst (Numbers (listed_family s)) (sym d.order_is) (order_numbers (listed_family s))

  pub few_of : length O ≤ region_count (listed_family s)
  few_of = omega (arith, ap length d.order_is, order_few s d.sound)

  in_order_lem : arranged (listed_family s) O ≡ in_file_order (distinct (listed_family s))
  in_order_lem = ap (arranged (listed_family s)) d.order_is ∙ arranged_distinct (listed_family s) (no7 s d.sound)

  judged : IsBytes s → first_cause (file_causes (file_of (arranged (listed_family s) O))) ≡ first_cause (nesting_causes (listed_family s))
  judged bytes =
      arranged_first s bytes d.headed O numbers_of few_of
      ∙ ap (λ (G : Family). first_cause (family_causes G)) in_order_lem
      ∙ nesting_judged (listed_family s) (listing_clear s d.sound).0 (no7 s d.sound)

  same_level : (i : ℕ) → i < length O → level_of (arranged (listed_family s) O) (region (arranged (listed_family s) O) i) ≡ level_of (distinct (listed_family s)) (region (listed_family s) (get_or O i 0))
  same_level i l =
      let F : Family = listed_family s in
      ap (level_of (arranged F O)) (arranged_region F O i l)
      ∙ ap (λ (G : Family). level_of G (region F (get_or O i 0))) in_order_lem
      ∙ level_same (in_file_order (distinct F)) (distinct F) (file_order_same (distinct F) (distinct_placed F (no7 s d.sound))) (region F (get_or O i 0))

  pub nesting_of : IsBytes s → (levels : List ℕ) (r : ℕ) → Leveled (file_of (arranged (listed_family s) O)) levels r → Nested s O levels r
  nesting_of bytes levels r h =
      record {
        first = h.first ∙ judged bytes;
        leveled =
            λ z i l.
            let F : Family = listed_family s in
            let read = arranged_read s bytes d.headed O numbers_of few_of in
            subst (λ (G : Family). LevelsBelow G levels (region_count G)) read (h.levels z) i (omega (arith, count_arranged F O)) ∙ same_level i l;
      }

  pub left_out : length O < region_count (listed_family s) → cause27 (counts_in s) (listed_family s) ≡ true
  unfolding cause27 repeated
  left_out l =
      or_l _ _ (lt-ltb (region_count (distinct (listed_family s))) (region_count (listed_family s)) (omega (arith, ap length d.order_is, order_length s d.sound)))

  pub none_left_out : region_count (listed_family s) ≤ length O → repeated (listed_family s) ≡ false
  unfolding repeated
  none_left_out l =
      le-ltb (region_count (distinct (listed_family s))) (region_count (listed_family s)) (omega (arith, ap length d.order_is, order_length s d.sound))

  pub levels_placed :
      repeated (listed_family s) ≡ false → (levels placed : List ℕ) → Nested s O levels 0
      → ((i : ℕ) → i < length O → get_or placed (get_or O i 0) 0 ≡ get_or levels i 0) → LevelsBelow (listed_family s) placed (region_count (listed_family s))
  levels_placed none levels placed nested h k l =
      let F : Family = listed_family s in
      let p = place 0 O k (subst (λ (o : List ℕ). In k o) (sym d.order_is) (order_all F (no7 s d.sound) none k l)) in
      ap (λ (n : ℕ). get_or placed n 0) p.there
      ∙ h p.at p.in_range
      ∙ nested.leveled refl p.at p.in_range
      ∙ ap (λ (n : ℕ). level_of (distinct F) (region F n)) (sym p.there)
      ∙ ap (λ (G : Family). level_of G (region F k)) (distinct_all F none)

-- 16, 26 and 27.

module _ (s : List ℕ) (room : ℕ) where
  pub place_16 : room < length s - 128 → first_cause (room_and_places s room) ≡ 16
  unfolding first_cause room_and_places short
  place_16 l = rw (lt-ltb room (length s - 128) l)

  pub place_26 : length s - 128 ≤ room → cause26 (counts_in s) (region_count (listed_family s)) ≡ true → first_cause (room_and_places s room) ≡ 26
  unfolding first_cause room_and_places short place_causes
  place_26 l h = rw (le-ltb room (length s - 128) l, h)

  pub place_27 : length s - 128 ≤ room → cause26 (counts_in s) (region_count (listed_family s)) ≡ false → cause27 (counts_in s) (listed_family s) ≡ true → first_cause (room_and_places s room) ≡ 27
  unfolding first_cause room_and_places short place_causes
  place_27 l h k = rw (le-ltb room (length s - 128) l, h, k)

  pub place_0 : length s - 128 ≤ room → cause26 (counts_in s) (region_count (listed_family s)) ≡ false → cause27 (counts_in s) (listed_family s) ≡ false → first_cause (room_and_places s room) ≡ 0
  unfolding first_cause room_and_places short place_causes
  place_0 l h k = rw (le-ltb room (length s - 128) l, h, k)

  -- The whole call.

  pub first_header : (first_cause (level_header_causes s) ≡ 0 → ⊥) → first_cause (from_levels_causes s room) ≡ first_cause (level_header_causes s)
  unfolding from_levels_causes form_causes
  first_header h =
      let header = level_header_causes s in
      let rest = listing_causes (listed_family s) ++ nesting_causes (listed_family s) in
      let form : first_cause (header ++ rest) ≡ first_cause header = join_holds header rest h in
      join_holds (header ++ rest) _ (λ z. h (sym form ∙ z)) ∙ form

  module _ (headed : Headed s) where
    form_is : first_cause (form_causes s) ≡ first_cause (listing_causes (listed_family s) ++ nesting_causes (listed_family s))
    unfolding form_causes
    form_is = join_clear (level_header_causes s) _ (header_numbered s) headed

    pub first_listing : (first_cause (listing_causes (listed_family s)) ≡ 0 → ⊥) → first_cause (from_levels_causes s room) ≡ first_cause (listing_causes (listed_family s))
    unfolding from_levels_causes
    first_listing h =
        let form = form_is ∙ join_holds (listing_causes (listed_family s)) (nesting_causes (listed_family s)) h in
        join_holds (form_causes s) _ (λ z. h (sym form ∙ z)) ∙ form

    module _ (sound : Sound s) where
      form_nesting : first_cause (form_causes s) ≡ first_cause (nesting_causes (listed_family s))
      form_nesting = form_is ∙ join_clear (listing_causes (listed_family s)) (nesting_causes (listed_family s)) (listing_numbered (listed_family s)) sound

      pub first_nesting : (first_cause (nesting_causes (listed_family s)) ≡ 0 → ⊥) → first_cause (from_levels_causes s room) ≡ first_cause (nesting_causes (listed_family s))
      unfolding from_levels_causes
      first_nesting h = join_holds (form_causes s) _ (λ z. h (sym form_nesting ∙ z)) ∙ form_nesting

      pub first_place : first_cause (nesting_causes (listed_family s)) ≡ 0 → first_cause (from_levels_causes s room) ≡ first_cause (room_and_places s room)
      unfolding from_levels_causes room_and_places
      first_place h = join_clear (form_causes s) _ (form_numbered s) (form_nesting ∙ h)

-- 27, from the levels that were found.

module _ (counts : List ℕ) (F : Family) where
  abbrev pub wrong : Bool
  wrong = some_below 64 (λ h. some_below (get_or counts h 0) (λ i. misleveled counts F h i))

  pub wrong_27 : wrong ≡ true → cause27 counts F ≡ true
  unfolding cause27
  wrong_27 h = or_r (repeated F) wrong h

  pub right_27 : repeated F ≡ false → wrong ≡ false → cause27 counts F ≡ false
  unfolding cause27
  right_27 h k = or_neither (repeated F) wrong h k

-- Where no cause holds.

pub places_clear : (s : List ℕ) (room : ℕ) → first_cause (room_and_places s room) ≡ 0 → (length s - 128 ≤ room) × (cause27 (counts_in s) (listed_family s) ≡ false)
unfolding room_and_places short
places_clear s room h =
    let a = head_clear _ _ (omega arith) h in
    (ltb-false room (length s - 128) a.0, (place_clear s a.1).1)

pub ready :
    (s : List ℕ) (room : ℕ) (plain : List ℕ) → Headed s → Sound s → Plain s (distinct_order (listed_family s)) plain
    → first_cause (room_and_places s room) ≡ 0 → Ready s room plain
unfolding family_file_of
ready s room plain headed sound e h =
    let F : Family = listed_family s in
    let clear = places_clear s room h in
    let no7 = (listing_clear s sound).1 in
    let none = none_repeated (counts_in s) F clear.1 in
    let many : length (distinct_order F) ≡ region_count F = order_length s sound ∙ ap region_count (distinct_all F none) in
    let long : length s - 128 ≡ total_length (leaves F) (length (distinct_order F)) = omega (arith, many, (header_facts s headed).whole) in
    record {
      headed = headed;
      fits = clear.0;
      plain_is = ap (λ (n : ℕ). take n plain) long ∙ e ∙ ap file_of (arranged_distinct F no7 ∙ ap in_file_order (distinct_all F none));
      as_many = file_order_count F no7;
    }

-- the first cause of the whole call, from those after 6 and 7
pub judged_whole : (s : List ℕ) (room : ℕ) (plain : List ℕ) (r : ℕ) → Headed s → Sound s → FamilyJudged s room plain r → ListedJudged s room plain r
judged_whole s room plain r headed sound h =
    ⊎_elim
    (λ (z : first_cause (nesting_causes (listed_family s)) ≡ 0).
    record {
      first = h.first_place z ∙ sym (first_place s room headed sound z);
      done = λ e. ready s room plain headed sound (h.written e) (sym (h.first_place z) ∙ e);
    })
    (λ n.
    record {
      first = h.first_nesting n ∙ sym (first_nesting s room headed sound n);
      done = λ e. absurd (n (sym (h.first_nesting n) ∙ e));
    })
    (none_or_some (nesting_causes (listed_family s)))
