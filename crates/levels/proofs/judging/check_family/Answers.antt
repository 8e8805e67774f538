-- The regions in file order without repeats, then 9 and 10, then what the level counts say.
use Prim.Native.Nat.{ℕ, ◌≤◌, ◌-◌}
use native.Mathlib.Omega.{arith}
use native.Mathlib.Nat.{sub-zero}
use mathlib.Core.List.{List}
use mathlib.Core.Path.{sym, subst, ◌∙◌}
use lib.ListN.{length, take}
use Rattle.reader.proofs.Refusals.{number_some, handed_on}
use Rattle.levels.specs.Private.Judging.{Distinct, Plain}
use Rattle.levels.proofs.Files.Listed.{header_few}
use Rattle.levels.proofs.Calls.Judging.{order_few}
use Rattle.levels.proofs.judging.check_family.Goals as goal
use Rattle.levels.proofs.judging.check_family.Goals.{After-order_distinct-distinct}

-- the order as it is lent
abbrev lent : After-order_distinct-distinct → List ℕ
lent c = take (c.order_distinct-distinct.result - 0) c.order_distinct-distinct.new.order

distinct-lent : (c : After-order_distinct-distinct) → Distinct c.args.list.now.file.now (lent c)
distinct-lent c =
    record {
      headed = c.args.list.now.headed;
      sound = c.args.list.now.sound;
      order_is = rw (sub-zero c.order_distinct-distinct.result) c.order_distinct-distinct.ensures.order_after;
    }

fits : (c : After-order_distinct-distinct) → c.order_distinct-distinct.result ≤ length c.order_distinct-distinct.new.order
fits c =
    omega (arith, c.order_distinct-distinct.ensures.value, order_few c.args.list.now.file.now c.args.list.now.sound, header_few c.args.list.now.file.now c.args.list.now.headed)

pub slice_bounds-check_nesting-end : goal.slice_bounds-check_nesting-end
slice_bounds-check_nesting-end c =
    fits (goal.at.slice_bounds-check_nesting-end c).After-order_distinct-distinct

pub check_nesting-requires : goal.check_nesting-requires
check_nesting-requires c =
    distinct-lent (goal.at.check_nesting-requires c).After-order_distinct-distinct

pub returns-in_err-check_nesting : goal.returns-in_err-check_nesting
returns-in_err-check_nesting c =
    let refusal = c.in_err-check_nesting.field-0.0 in
    let nested = c.in_err-check_nesting.ensures.nested in
    rw (handed_on c.from_residual.result refusal c.from_residual.ensures.1)
    (record {
      first_nesting = λ h. nested.first;
      first_place = λ z. absurd (number_some refusal (nested.first ∙ z));
      written = λ z. absurd (number_some refusal z);
    })

pub slice_bounds-check_places-end : goal.slice_bounds-check_places-end
slice_bounds-check_places-end c =
    fits (goal.at.slice_bounds-check_places-end c).After-order_distinct-distinct

pub check_places-requires : goal.check_places-requires
check_places-requires c =
    record { distinct = distinct-lent (goal.at.check_places-requires c).After-order_distinct-distinct; nested = c.in_ok-check_nesting.ensures.nested }

pub returns : goal.returns
returns c =
    let s = c.args.list.now.file.now in
    let nested = c.in_ok-check_nesting.ensures in
    record {
      first_nesting = λ h. absurd (h (sym nested.nested.first));
      first_place = λ z. c.check_places.ensures;
      written = λ z. subst (λ (o : List ℕ). Plain s o c.check_nesting.new.plain) (distinct-lent (goal.at.returns c).After-order_distinct-distinct).order_is nested.plain;
    }
