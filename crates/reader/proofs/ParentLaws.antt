-- The parents as defined are the regions just around, and the list that `parents` leaves has them.
use Prim.Native.Nat.{ℕ, zero, suc, ◌-◌, ◌<◌, ◌≤◌}
use native.Mathlib.Nat.{eq-or-lt_of_le}
use native.Mathlib.Omega.{arith}
use mathlib.Core.Bool.{Bool, cond}
use mathlib.Core.List.{List, ◌++◌}
use mathlib.Core.Path.{◌≡◌, sym, ap, subst, ◌∙◌}
use mathlib.Core.Logic.{⊎_elim}
use lib.ListN.{length, get_or, take, drop, get_or-append}
use lib.Dec.{leb, ltb}
use borrow.Author.Tests.{leb-true, leb-false, lt-ltb, le-ltb}
use Rattle.reader.specs.Family.{Family, family_of, region_count, region}
use Rattle.reader.specs.Nesting.{parent, parents}
use Rattle.reader.specs.Causes.{first_cause, file_causes, Accepted}
use Rattle.std.specs.Prelude.{Err}
use Rattle.reader.specs.declared.refusal.Refusal.TheVariants.{Room}
use Rattle.reader.specs.Calls.{sizes, counts, answer, written, checked, short, parents_causes, ParentsAnswers, ParentsWrites}
use Rattle.reader.specs.WellFormed.{Ordered, NestedBelow, IsParent, ParentsBelow}
use Rattle.reader.proofs.Bools.{test}
use Rattle.reader.proofs.Below.{below_suc}
use Rattle.reader.proofs.Lists.{length_tabulate, get_d_tabulate}
use Rattle.reader.proofs.Climbing.{parent_is, parents_written, nested_if_clear}
use Rattle.reader.proofs.First.{join_clear, join_holds, clear_left, writes, leaves_unchanged, same_first, none_or_some}
use Rattle.reader.proofs.Refusals.{lacks_joined, says_err}
use Rattle.reader.proofs.Accepting.{ordered_if_clear, file_numbered, file_lacks, accepted_header, accepted_family, few_regions}

-- c is the number of the last of the first n regions that ends with the k-th one or later
record Reaching (F : Family) (k n c : ℕ) : Type 0 where
  most : c ≤ n
  ends : (j : ℕ) → c ≡ suc j → (region F k).last ≤ (region F j).last
  later : (i : ℕ) → c ≤ i → i < n → (region F i).last < (region F k).last

reaching : (F : Family) (k n : ℕ) → (c : ℕ) × Reaching F k n c
reaching F k zero = (zero, record { most = omega arith; ends = λ j e. absurd (omega arith); later = λ i l u. absurd (omega arith) })
reaching F k (suc n) =
    ⊎_elim
    (λ t. (
      suc n,
      record {
        most = omega arith;
        ends = λ j e. subst (λ (i : ℕ). (region F k).last ≤ (region F i).last) (omega arith) (leb-true (region F k).last (region F n).last t);
        later = λ i l u. absurd (omega arith);
      },
    ))
    (λ f.
    let below = reaching F k n in
    let r = below.1 in (
      below.0,
      record {
        most = omega (arith, r.most);
        ends = r.ends;
        later = λ i l u. ⊎_elim (λ e. rw e (leb-false (region F k).last (region F n).last f)) (λ d. r.later i l d) (below_suc u);
      },
    ))
    (test (leb (region F k).last (region F n).last))

module _ (F : Family) (o : Ordered F) (nested : NestedBelow F (region_count F)) where
  -- the last region before the k-th one that ends with it or later is the one just around it
  reaching_parent : (k c : ℕ) → k < region_count F → Reaching F k k c → IsParent F k c
  reaching_parent k c lk r = record { earlier = r.most; around = r.ends; innermost = λ i l h. (inside i l h, ends i l h) }
    where
      inside : (i : ℕ) → i < k → (region F k).last ≤ (region F i).last → i < c
      inside i l h =
          ⊎_elim
          (λ t. absurd (omega (arith, r.later i (leb-true c i t) l)))
          (λ f. leb-false c i f)
          (test (leb c i))

      ends : (i : ℕ) → i < k → (region F k).last ≤ (region F i).last → (region F (c - 1)).last ≤ (region F i).last
      ends i l h =
          let before = inside i l h in
          let up : i ≤ c - 1 = omega arith in
          let lc : c - 1 < k = omega (arith, r.most) in
          ⊎_elim
          (λ e. rw e (omega arith))
          (λ d.
          ⊎_elim
          (λ a. absurd (omega (arith, o.rising (c - 1) k lc lk, o.first_last k lk)))
          (λ b. b)
          (nested i (c - 1) d (omega arith)))
          (eq-or-lt_of_le up)

  -- every region has its parent in the list of parents
  pub parent_known : (k : ℕ) → k < region_count F → IsParent F k (parent F k)
  parent_known k lk =
      let r = reaching F k k in
      let p = reaching_parent k r.0 lk r.1 in
      subst (IsParent F k) (sym (parent_is F o nested k r.0 lk p)) p

  pub parents_known : ParentsBelow F (parents F) (region_count F)
  unfolding parents
  parents_known k lk = subst (IsParent F k) (sym (get_d_tabulate (region_count F) (parent F) 0 k lk)) (parent_known k lk)

-- What `parents` answers and writes.

module _ (s out : List ℕ) where
  parents_file : (first_cause (file_causes s) ≡ 0 → ⊥) → first_cause (parents_causes s out) ≡ first_cause (file_causes s)
  unfolding parents_causes
  parents_file h = join_holds (file_causes s) _ h

  parents_room : Accepted s → first_cause (parents_causes s out) ≡ cond (ltb (length out) (region_count (family_of s))) 16 0
  unfolding parents_causes short first_cause
  parents_room h = join_clear (file_causes s) _ (file_numbered s) h

  -- with room for K places no cause holds but those of the file
  pub parents_first : (Accepted s → region_count (family_of s) ≤ length out) → first_cause (parents_causes s out) ≡ first_cause (file_causes s)
  parents_first room =
      ⊎_elim
      (λ h. parents_room h ∙ ap (λ (b : Bool). cond b 16 0) (le-ltb (length out) (region_count (family_of s)) (room h)) ∙ sym h)
      (λ h. parents_file h)
      (none_or_some (file_causes s))

  pub parents_unwritten : (first_cause (file_causes s) ≡ 0 → ⊥) → ParentsWrites s out out
  parents_unwritten h = sym (leaves_unchanged (parents_causes s out) (λ z. h (sym (parents_file h) ∙ z)) _ out)

  pub parents_short : Accepted s → length out < region_count (family_of s) → ParentsAnswers s out (Err Room) × ParentsWrites s out out
  unfolding parents_causes
  parents_short h l =
      let e : first_cause (parents_causes s out) ≡ 16 = parents_room h ∙ ap (λ (b : Bool). cond b 16 0) (lt-ltb (length out) (region_count (family_of s)) l) in
      let some : first_cause (parents_causes s out) ≡ 0 → ⊥ = λ z. omega arith in
      (says_err sizes (parents_causes s out) _ Room (lacks_joined 13 (file_causes s) _ (file_lacks s) (omega arith)) (sym e), sym (leaves_unchanged (parents_causes s out) some _ out))

  pub parents_checked : (Accepted s → region_count (family_of s) ≤ length out) → answer (parents_causes s out) (counts (family_of s)) ≡ checked s
  unfolding checked
  parents_checked room = same_first (parents_causes s out) (file_causes s) (parents_first room) _

  pub parents_start : first_cause (parents_causes s out) ≡ 0 → written (parents_causes s out) (parents (family_of s)) out ≡ parents (family_of s) ++ drop (region_count (family_of s)) out
  unfolding parents
  parents_start h =
      let F : Family = family_of s in
      writes (parents_causes s out) h (parents F) out ∙ ap (λ (n : ℕ). parents F ++ drop n out) (length_tabulate (region_count F) (parent F))

  -- the parents that are known, copied to the start of the lent list
  pub parents_accepted :
      Accepted s → region_count (family_of s) ≤ length out
      → (P : List ℕ) (k : ℕ) → k ≡ region_count (family_of s) → ParentsBelow (family_of s) P (region_count (family_of s)) → region_count (family_of s) ≤ length P
      → ParentsWrites s out (take k P ++ drop k out)
  parents_accepted h room P k e known fits =
      let F : Family = family_of s in
      let clear = accepted_family s h in
      let o = ordered_if_clear F clear.no7 clear.no8 in
      rw (e, parents_written F o (nested_if_clear F o clear.no9) P known fits) (sym (parents_start (parents_first (λ a. room) ∙ h)))

  -- 8,191 places are enough for any accepted file
  module _ (enough : 8191 ≤ length out) where
    pub enough_room : Accepted s → region_count (family_of s) ≤ length out
    enough_room h = omega (arith, few_regions s (accepted_header s h))

    pub enough_first : first_cause (parents_causes s out) ≡ first_cause (file_causes s)
    enough_first = parents_first enough_room

    pub enough_checked : answer (parents_causes s out) (counts (family_of s)) ≡ checked s
    enough_checked = parents_checked enough_room

-- Where no cause of `parents` holds, the list that it leaves has the region just around each region.
pub parents_given :
    (s out : List ℕ) → first_cause (parents_causes s out) ≡ 0 → (new : List ℕ) → ParentsWrites s out new
    → ParentsBelow (family_of s) new (region_count (family_of s))
unfolding parents_causes parents
parents_given s out none new e k lk =
    let F : Family = family_of s in
    let clear = accepted_family s (clear_left (file_causes s) _ (file_numbered s) none) in
    let o = ordered_if_clear F clear.no7 clear.no8 in
    subst (IsParent F k)
    (sym (ap (λ (l : List ℕ). get_or l k 0) (e ∙ parents_start s out none) ∙ get_or-append (parents F) (drop (region_count F) out) 0 k (omega (arith, length_tabulate (region_count F) (parent F)))))
    (parents_known F o (nested_if_clear F o clear.no9) k lk)
