-- What a call with a list of selections answers and writes, from what its causes say.
use Prim.Native.Nat.{ℕ, ◌+◌, ◌*◌, ◌≤◌}
use mathlib.Core.Bool.{true, false, cond}
use mathlib.Core.List.{List, ◌++◌}
use mathlib.Core.Path.{◌≡◌, refl, sym, ap, ◌∙◌}
use native.Mathlib.Omega.{arith}
use lib.Dec.{ltb}
use lib.ListN.{length, drop}
use borrow.Author.Tests.{ltb-false, le-ltb, ne_eqb}
use Rattle.reader.specs.Family.{family_of, region_count}
use Rattle.reader.specs.Causes.{Cause, first_cause, file_causes, Accepted}
use Rattle.reader.specs.Calls.{written, short}
use Rattle.reader.proofs.First.{head_clear, join_clear, clear_left, clear_right, writes}
use Rattle.reader.proofs.Accepting.{file_numbered}
use Rattle.reader.proofs.Lists.{length_tabulate}
use Rattle.bounds.specs.SelectionLists.{list_bounds, list_cause14, cause24}
use Rattle.bounds.specs.Tally.{charge_of, added, cause25}
use Rattle.bounds.specs.Calls.{list_inputs, list_causes, charged, listed}
use Rattle.bounds.proofs.Calls.Selecting.{right_length}

-- The first cause, in the order in which they are tried.

pub inputs_judged : (m K : ℕ) (selections : List ℕ) (count tally room : ℕ)
    → first_cause (list_inputs m K selections count tally room)
    ≡ cond (list_cause14 m selections count) 14
    (cond (ltb room count) 16 (cond (ltb 32 count) 24 (cond (ltb 4294967295 (tally + charge_of K count)) 25 0)))
unfolding list_inputs short cause24 cause25 added first_cause
inputs_judged m K selections count tally room = refl

module _ (file selections : List ℕ) (count tally room : ℕ) where
  pub list_of_accepted : Accepted file
      → first_cause (list_causes file selections count tally room)
      ≡ first_cause (list_inputs (family_of file).peptides (region_count (family_of file)) selections count tally room)
  unfolding list_causes
  list_of_accepted a = join_clear (file_causes file) _ (file_numbered file) a

  pub list_declines : Accepted file → list_cause14 (family_of file).peptides selections count ≡ true
      → first_cause (list_causes file selections count tally room) ≡ 14
  list_declines a h = list_of_accepted a ∙ inputs_judged _ _ selections count tally room ∙ rw h

  pub list_clear : Accepted file → list_cause14 (family_of file).peptides selections count ≡ false → count ≤ room → count ≤ 32
      → tally + charge_of (region_count (family_of file)) count ≤ 4294967295 → first_cause (list_causes file selections count tally room) ≡ 0
  list_clear a h r f t =
      list_of_accepted a
      ∙ inputs_judged _ _ selections count tally room
      ∙ rw (h, le-ltb room count r, le-ltb 32 count f, le-ltb 4294967295 (tally + charge_of (region_count (family_of file)) count) t)

  -- Where none holds, the file is accepted, the buffer has all the bytes, and there is room for the values and for the charge.
  pub no_list_cause : first_cause (list_causes file selections count tally room) ≡ 0
      → record {
        accepted : Accepted file;
        whole : length selections ≡ count * (family_of file).peptides;
        room : count ≤ room;
        fits : tally + charge_of (region_count (family_of file)) count ≤ 4294967295;
      }
  unfolding list_causes list_inputs short cause24 cause25 added
  no_list_cause h =
      let rest = clear_right (file_causes file) _ (file_numbered file) h in
      let a = head_clear _ _ (omega arith) rest in
      let b = head_clear _ _ (omega arith) a.1 in
      let d = head_clear _ _ (omega arith) b.1 in
      let e = head_clear _ _ (omega arith) d.1 in
      record {
        accepted = clear_left (file_causes file) _ (file_numbered file) h;
        whole = right_length (count * (family_of file).peptides) selections a.0;
        room = ltb-false room count b.0;
        fits = ltb-false 4294967295 (tally + charge_of (region_count (family_of file)) count) e.0;
      }

module _ (cs : List Cause) (charge tally : ℕ) where
  -- The answers.

  pub charged_all : first_cause cs ≡ 0 → charged cs charge ≡ charge
  unfolding charged
  charged_all h = rw h

  pub charged_nothing : (first_cause cs ≡ 0 → ⊥) → charged cs charge ≡ 0
  unfolding charged
  charged_nothing h = rw (ne_eqb (first_cause cs) 0 h)

  pub charges_nothing : (n : ℕ) → n ≡ first_cause cs → (n ≡ 0 → ⊥) → record { number = n; charge = 0; tally = tally } ≡ listed cs charge tally
  unfolding listed added
  charges_nothing n e h =
      let none : tally ≡ tally + 0 = omega arith in
      rw (charged_nothing (λ z. h (e ∙ z)), e) (ap (λ (t : ℕ). record { number = first_cause cs; charge = 0; tally = t }) none)

  pub charges : first_cause cs ≡ 0 → record { number = 0; charge = charge; tally = tally + charge } ≡ listed cs charge tally
  unfolding listed added
  charges h = rw (charged_all h, h)

module _ (file selections values : List ℕ) (count tally : ℕ) where
  abbrev causes : List Cause
  causes = list_causes file selections count tally (length values)

  -- The values.

  pub list_written : (after : List ℕ) → first_cause causes ≡ 0
      → after ≡ list_bounds (family_of file) selections count ++ drop count values
      → after ≡ written causes (list_bounds (family_of file) selections count) values
  unfolding list_bounds
  list_written after h w =
      w
      ∙ sym (writes causes h (list_bounds (family_of file) selections count) values
      ∙ ap (λ (n : ℕ). list_bounds (family_of file) selections count ++ drop n values) (length_tabulate count _))
