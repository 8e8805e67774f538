-- The theorem on the hybrid curve: what `hybrid` writes, over all its calls that have nothing to decline. Demands 2 and 3, formula (3)
-- and the equality of reduced files, go on concerning the region curves alone: a hybrid value is the largest count of formula (3) only
-- where the region bound is the smaller one, and equal hybrid curves do not make equal reduced files (`nothing_over`; in `Examples`
-- two families with different curves have the same hybrid curve).
use Prim.Native.Nat.{ℕ, zero, suc, ◌+◌, ◌-◌, ◌*◌, ◌≤◌, ◌<◌, min}
use mathlib.Core.Bool.{not, ◌&&◌}
use mathlib.Core.List.{List, ◌++◌}
use mathlib.Core.Logic.{◌⊎◌, inl, inr, ⊎_elim}
use mathlib.Core.Path.{◌≡◌, refl, sym, ap, ◌∙◌}
use native.Mathlib.Numerals.{add-one}
use native.Mathlib.Omega.{arith}
use lib.ListN.{length, get_or, take, drop, get_or-append}
use lib.Seq.{drop_at}
use borrow.Author.Tests.{eqb-true, eq-eqb, not-false}
use Rattle.reader.specs.Family.{Family, family_of}
use Rattle.reader.specs.Causes.{first_cause, AcceptedFile}
use Rattle.reader.specs.WellFormed.{WellFormed}
use Rattle.reader.proofs.Bools.{not_fails, clash}
use Rattle.reader.proofs.Lists.{get_d_tabulate, length_tabulate}
use Rattle.reader.proofs.First.{writes}
use Rattle.reader.proofs.Accepting.{well_formed_lem}
use Rattle.bounds.specs.Ranges.{Peptides, card}
use Rattle.bounds.specs.Bound.{Admissible}
use Rattle.bounds.specs.Curves.{among, entry}
use Rattle.std.specs.Prelude.{Result, Ok, Err}
use Rattle.reader.specs.declared.refusal.Refusal.{Refusal}
use Rattle.bounds.specs.AcceptedCalls.{CurveCall}
use Rattle.bounds.proofs.Basics.Members.{le_or_lt, bit_few}
use Rattle.bounds.proofs.Basics.Counting.{Subset, SameSet, adding, adding_old}
use Rattle.bounds.proofs.Calls.PathLaws.{accepted_path}
use Rattle.bounds.proofs.Theory.Marks.{among_next, stops, entry_next, entry_start}
use Rattle.bounds.proofs.Theory.CurveTheorem.{value_at_lem, curve_theorem}
use Rattle.bounds.proofs.DemandTwo.{peptides_in, ranges_in, value_left}
use Rattle.pvalues.specs.FromP.{cause20}
use Rattle.hybrid.specs.Hybrid.{counted_at, simes_at, least_up_to, simes, SimesAdmissible, IsSimesLargest, hybrid_entry, hybrid_values}
use Rattle.hybrid.specs.Calls.{hybrid_causes, HybridDeclines}
use Rattle.hybrid.specs.AcceptedCalls.{HybridCall}
use Rattle.hybrid.proofs.Calls.{hybrid_clear}
use Rattle.hybrid.proofs.Theory.SimesLaws.{simes_least, simes_reached, simes_size, simes_none, simes_under, simes_few, simes_mono, simes_same, simes_one_more, simes_level, simes_raised, simes_holds}
use Rattle.hybrid.proofs.Theory.SimesLargest.{simes_largest}

-- the Simes bound of the first t peptides
abbrev pub simes_of : (f : AcceptedFile) → HybridCall f → ℕ → ℕ
simes_of f c t = simes (peptides_in f) c.p_values c.level (among (take t c.path))

pub record HybridCurve : Type 0 where
  -- For an accepted family, a path, a p-value for each peptide, a level and a list with room, `hybrid` declines nothing, and what the
  -- list holds beyond value T stays as it was.
  pub answered : (f : AcceptedFile) (c : HybridCall f) → c.answer ≡ Ok (tt {0})
  pub rest : (f : AcceptedFile) (c : HybridCall f) → drop (length c.path + 1) c.new ≡ drop (length c.path + 1) c.old
  -- Value t, as written, is the smaller of the region bound and the Simes bound of the first t peptides, for every t from 0 to T.
  pub value : (f : AcceptedFile) (c : HybridCall f) (t : ℕ) → t ≤ length c.path
      → get_or c.new t 0 ≡ min (entry (family_of f.file) c.path t) (simes_of f c t)
  -- It is at most value t that `curve` writes along the same path, and at most the Simes bound,
  pub at_most_curve : (f : AcceptedFile) (c : HybridCall f) (d : CurveCall f) → d.path ≡ c.path → (t : ℕ) → t ≤ length c.path
      → get_or c.new t 0 ≤ get_or d.values t 0
  pub at_most_simes : (f : AcceptedFile) (c : HybridCall f) (t : ℕ) → t ≤ length c.path → get_or c.new t 0 ≤ simes_of f c t
  -- and it is one of the two.
  pub one_of_both : (f : AcceptedFile) (c : HybridCall f) (d : CurveCall f) → d.path ≡ c.path → (t : ℕ) → t ≤ length c.path
      → (get_or c.new t 0 ≡ get_or d.values t 0) ⊎ (get_or c.new t 0 ≡ simes_of f c t)
  -- Value 0 is 0, each next value is the same or one more, and so value t is at most t.
  pub starts_at_zero : (f : AcceptedFile) (c : HybridCall f) → get_or c.new 0 0 ≡ 0
  pub grows : (f : AcceptedFile) (c : HybridCall f) (t : ℕ) → t < length c.path
      → (get_or c.new t 0 ≤ get_or c.new (t + 1) 0) × (get_or c.new (t + 1) 0 ≤ get_or c.new t 0 + 1)
  pub at_most_t : (f : AcceptedFile) (c : HybridCall f) (t : ℕ) → t ≤ length c.path → get_or c.new t 0 ≤ t
  -- Why the smaller one may be taken: a set that is admissible for the regions and for Simes's own has at most value t of the first t
  -- peptides.
  pub holds : (f : AcceptedFile) (c : HybridCall f) (A : Peptides) → Admissible (peptides_in f) (ranges_in f) A
      → SimesAdmissible (peptides_in f) c.p_values c.level A → (t : ℕ) → t ≤ length c.path
      → card (peptides_in f) (λ p. A p && among (take t c.path) p) ≤ get_or c.new t 0
  -- A larger level gives no larger values.
  pub larger_level : (f : AcceptedFile) (c d : HybridCall f) → c.path ≡ d.path → c.p_values ≡ d.p_values → c.level ≤ d.level
      → (t : ℕ) → t ≤ length c.path → get_or d.new t 0 ≤ get_or c.new t 0
  -- Raised p-values give no smaller values, so that p-values may be rounded up.
  pub raised_p_values : (f : AcceptedFile) (c d : HybridCall f) → c.path ≡ d.path → c.level ≡ d.level
      → ((i : ℕ) → get_or c.p_values i 0 ≤ get_or d.p_values i 0) → (t : ℕ) → t ≤ length c.path → get_or c.new t 0 ≤ get_or d.new t 0
  -- Two families whose region curves agree along a path have the same values along it, with the same p-values, and so the same m, and
  -- the same level.
  pub same_curves : (f g : AcceptedFile) (c : HybridCall f) (d : HybridCall g) → c.path ≡ d.path → c.p_values ≡ d.p_values → c.level ≡ d.level
      → ((t : ℕ) → t ≤ length c.path → entry (family_of f.file) c.path t ≡ entry (family_of g.file) c.path t)
      → (t : ℕ) → t ≤ length c.path → get_or c.new t 0 ≡ get_or d.new t 0
  -- Where no p-value times m is over the level, every value is 0, whatever the family: equal hybrid curves, even along every path, do not
  -- make equal curves, nor equal reduced files.
  pub nothing_over : (f : AcceptedFile) (c : HybridCall f) → ((i : ℕ) → get_or c.p_values i 0 * peptides_in f ≤ c.level)
      → (t : ℕ) → t ≤ length c.path → get_or c.new t 0 ≡ 0
  -- The Simes bound of a selection from any m peptides is formula (7) of the source: the least, over k from 1 to m, of k - 1 plus the
  -- count of the selected peptides that are counted at k, those with p times m greater than the level times k.
  pub simes_least : (m : ℕ) (ps : List ℕ) (level : ℕ) (S : Peptides) (k : ℕ) → 1 ≤ k → k ≤ m
      → simes m ps level S ≤ k - 1 + card m (λ p. S p && counted_at m ps level k p)
  pub simes_reached : (m : ℕ) (ps : List ℕ) (level : ℕ) (S : Peptides) → 1 ≤ m
      → (k : ℕ) × (1 ≤ k) × (k ≤ m) × (simes m ps level S ≡ k - 1 + card m (λ p. S p && counted_at m ps level k p))
  -- The k up to the number of selected peptides, or to any larger one, suffice.
  pub simes_few : (m : ℕ) (ps : List ℕ) (level : ℕ) (S : Peptides) (n : ℕ) → 1 ≤ n → n ≤ m → card m S ≤ n
      → least_up_to n (simes_at m ps level S) ≡ simes m ps level S
  -- It is 0 of an empty selection, and at most the number of selected peptides.
  pub simes_empty : (m : ℕ) (ps : List ℕ) (level : ℕ) (S : Peptides) → card m S ≡ 0 → simes m ps level S ≡ 0
  pub simes_size : (m : ℕ) (ps : List ℕ) (level : ℕ) (S : Peptides) → simes m ps level S ≤ card m S
  -- A larger selection has no smaller bound, one more peptide raises it by at most one, and peptides that are not of the m do not matter.
  pub simes_grows : (m : ℕ) (ps : List ℕ) (level : ℕ) (S X : Peptides) → Subset m S X → simes m ps level S ≤ simes m ps level X
  pub simes_one_more : (m : ℕ) (ps : List ℕ) (level : ℕ) (q : ℕ) (S : Peptides) → simes m ps level (adding q S) ≤ simes m ps level S + 1
  pub simes_same : (m : ℕ) (ps : List ℕ) (level : ℕ) (S X : Peptides) → SameSet m S X → simes m ps level S ≡ simes m ps level X
  -- It is formula (3) for Simes's own regions: the largest count of the selection in any set that has at most k - 1 of the peptides at or
  -- under the threshold of k, for every k.
  pub simes_largest : (m : ℕ) (ps : List ℕ) (level : ℕ) (S : Peptides) → IsSimesLargest m ps level S (simes m ps level S)

-- The Simes bound along a path.

simes_next : (m : ℕ) (ps : List ℕ) (level : ℕ) (path : List ℕ) (t : ℕ) → t < length path
    → let before : ℕ = simes m ps level (among (take t path)) in
    let after : ℕ = simes m ps level (among (take (suc t) path)) in
    (before ≤ after) × (after ≤ before + 1)
simes_next m ps level path t h =
    let q : ℕ = get_or path t 0 in
    let S : Peptides = among (take t path) in
    let same : simes m ps level (among (take (suc t) path)) ≡ simes m ps level (adding q S) =
    simes_same m ps level _ (adding q S) (λ p l u. among_next path t h p) in
    omega (arith, simes_mono m ps level S (adding q S) (λ p l u. adding_old q S p), simes_one_more m ps level q S)

-- A call.

module _ (f : AcceptedFile) (c : HybridCall f) where
  abbrev F : Family
  F = family_of f.file

  abbrev path : List ℕ
  path = c.path

  clear : first_cause (hybrid_causes f.file path c.p_values c.level (length c.old)) ≡ 0
  clear = hybrid_clear f.file path c.p_values c.level (length c.old) f.accepted c.is_path c.room c.counted c.small c.allowed

  answers_written : c.answer ≡ Ok (tt {0})
  answers_written = go c.answer c.declines
    where
      go : (r : Result (Unit {0}) Refusal) → HybridDeclines f.file path c.p_values c.level c.old r → r ≡ Ok (tt {0})
      go (Ok done) d = refl
      go (Err refusal) d = absurd (clash (sym d) (not_fails _ (eq-eqb _ 0 clear)))

  abbrev entries : List ℕ
  entries = hybrid_values F c.p_values c.level path

  many : length entries ≡ length path + 1
  unfolding hybrid_values
  many = length_tabulate (length path + 1) (hybrid_entry F c.p_values c.level path)

  written_so : c.new ≡ entries ++ drop (length entries) c.old
  written_so = c.writes ∙ writes _ clear entries c.old

  rest_kept : drop (length path + 1) c.new ≡ drop (length path + 1) c.old
  rest_kept =
      ap (drop (length path + 1)) written_so
      ∙ drop_at entries (drop (length entries) c.old) (length path + 1) many
      ∙ ap (λ (n : ℕ). drop n c.old) many

  value_is : (t : ℕ) → t ≤ length path → get_or c.new t 0 ≡ min (entry F path t) (simes_of f c t)
  unfolding hybrid_values hybrid_entry
  value_is t h =
      ap (λ (l : List ℕ). get_or l t 0) written_so
      ∙ get_or-append entries _ 0 t (omega (arith, many))
      ∙ get_d_tabulate (length path + 1) (hybrid_entry F c.p_values c.level path) 0 t (omega arith)

  curve_value : (d : CurveCall f) → d.path ≡ path → (t : ℕ) → t ≤ length path → get_or d.values t 0 ≡ entry F path t
  curve_value d e t h = rw e at (let l : t ≤ length d.path = rw e h in value_left f d t l ∙ value_at_lem F d.path t l)

  well : WellFormed F
  well = well_formed_lem f.file f.bytes f.accepted

  zero_first : get_or c.new 0 0 ≡ 0
  zero_first = omega (arith, value_is 0 (omega arith), entry_start well (accepted_path F.peptides path c.is_path))

  next_value : (t : ℕ) → t < length path → (get_or c.new t 0 ≤ get_or c.new (t + 1) 0) × (get_or c.new (t + 1) 0 ≤ get_or c.new t 0 + 1)
  next_value t h =
      let is = accepted_path F.peptides path c.is_path in
      let after : get_or c.new (t + 1) 0 ≡ min (entry F path (suc t)) (simes_of f c (suc t)) = rw add-one (value_is (suc t) h) in
      omega
      (arith, value_is t (omega arith), entry_next well is t h, bit_few (not (stops well is t)), simes_next F.peptides c.p_values c.level path t h)

  few : (t : ℕ) → t ≤ length path → get_or c.new t 0 ≤ t
  few zero h = omega (arith, zero_first)
  few (suc t) h = omega (arith, few t (omega arith), (next_value t h).1, ap (λ (n : ℕ). get_or c.new n 0) (add-one t))

  -- the peptides of a set that is admissible for both
  both_hold : (A : Peptides) → Admissible F.peptides (ranges_in f) A → SimesAdmissible F.peptides c.p_values c.level A
      → (t : ℕ) → t ≤ length path → card F.peptides (λ p. A p && among (take t path) p) ≤ get_or c.new t 0
  both_hold A a s t h =
      omega
      (arith, value_is t h, (curve_theorem f.file f.bytes f.accepted path c.is_path t h).largest.at_most A a, value_at_lem F path t h, simes_holds F.peptides c.p_values c.level (among (take t path)) A s)

-- Two calls along the same path.

value_along : (f : AcceptedFile) (c : HybridCall f) (path : List ℕ) → path ≡ c.path → (t : ℕ) → t ≤ length path
    → get_or c.new t 0 ≡ min (entry (family_of f.file) path t) (simes (peptides_in f) c.p_values c.level (among (take t path)))
value_along f c path e t h = rw e (value_is f c t (rw e at h))

values_counted : (f : AcceptedFile) (c : HybridCall f) → length c.p_values ≡ peptides_in f
values_counted f c = unfold cause20 in eqb-true (length c.p_values) (peptides_in f) (not-false _ c.counted)

pub hybrid_curve : HybridCurve
hybrid_curve =
    record {
      answered = answers_written;
      rest = rest_kept;
      value = value_is;
      at_most_curve = λ f c d e t h. omega (arith, value_is f c t h, curve_value f c d e t h);
      at_most_simes = λ f c t h. omega (arith, value_is f c t h);
      one_of_both =
          λ f c d e t h.
          ⊎_elim
          (λ l. inl (omega (arith, value_is f c t h, curve_value f c d e t h)))
          (λ l. inr (omega (arith, value_is f c t h)))
          (le_or_lt (entry (family_of f.file) c.path t) (simes_of f c t));
      starts_at_zero = zero_first;
      grows = next_value;
      at_most_t = few;
      holds = both_hold;
      larger_level =
          λ f c d e values l t h.
          let fewer : simes (peptides_in f) d.p_values d.level (among (take t c.path)) ≤ simes_of f c t =
          rw values (simes_level (peptides_in f) d.p_values c.level d.level (among (take t c.path)) l) in
          omega (arith, value_is f c t h, value_along f d c.path e t h);
      raised_p_values =
          λ f c d e level raised t h.
          let more : simes_of f c t ≤ simes (peptides_in f) d.p_values d.level (among (take t c.path)) =
          rw level (simes_raised (peptides_in f) c.p_values d.level d.p_values (among (take t c.path)) raised) in
          omega (arith, value_is f c t h, value_along f d c.path e t h);
      same_curves =
          λ f g c d e values level same t h.
          let peptides : peptides_in f ≡ peptides_in g = sym (values_counted f c) ∙ ap length values ∙ values_counted g d in
          let bound : simes_of f c t ≡ simes (peptides_in g) d.p_values d.level (among (take t c.path)) = rw (peptides, values, level) in
          omega (arith, value_is f c t h, value_along g d c.path e t h, same t h);
      nothing_over = λ f c small t h. omega (arith, value_is f c t h, simes_under (peptides_in f) c.p_values c.level (among (take t c.path)) small);
      simes_least = λ m ps level S k l u. unfold simes_at in simes_least m ps level S k l u;
      simes_reached =
          λ m ps level S l.
          let r = simes_reached m ps level S l in
          (r.k, r.some, r.most, unfold simes_at in omega (arith, simes_least m ps level S r.k r.some r.most, r.reaches));
      simes_few = simes_few;
      simes_empty = simes_none;
      simes_size = simes_size;
      simes_grows = simes_mono;
      simes_one_more = simes_one_more;
      simes_same = simes_same;
      simes_largest = simes_largest;
    }
