-- The list of the reduced ranges gives the borders, and from both the parts of the file are written one after the other.
use Rattle.std.proofs.Common.{◌≡◌, ◌+◌, ◌*◌, ℕ, List, length, take, ap, ◌∙◌, arith}
use Rattle.std.proofs.lemmas.List.{length-take-le}
use Rattle.reader.specs.Bytes.{IsBytes, with_numbers}
use Rattle.reader.specs.Family.{mark}
use Rattle.bounds.specs.Ranges.{card}
use Rattle.reduction.specs.Reduction.{leaf_lengths}
use Rattle.reduction.specs.Private.Writing.{OnLine, ends_at, Marks, marked_in, region_numbers}
use Rattle.reduction.proofs.Writing.LeafEnds.{none_marked, count_all}
use Rattle.reduction.proofs.Writing.WholeFile.{Room, listed_front, listed_length, ranges_listed, has_room, wrote, line_longer}
use Rattle.reduction.proofs.write.write_reduced.Goals as goal
use Rattle.reduction.proofs.write.write_reduced.Goals.{After-borders_between-leaves, After-mark_borders, After-peptide_count-m}

-- the part of the list with the ranges is as long as they are many
many : (c : After-peptide_count-m) → length (take c.args.n c.args.from.now) ≡ c.args.n
many c = length-take-le c.args.n c.args.from.now (listed_length c.args.file.now c.args.n c.args.from.now c.args.to.now c.args.bounds.now c.requires.listed).0

on_line : (c : After-peptide_count-m) → IsBytes c.args.file.now → OnLine c.peptide_count-m.result c.args.n (take c.args.n c.args.from.now) (take c.args.n c.args.to.now)
on_line c bytes =
    let a = c.args in
    ranges_listed a.file.now bytes c.requires.accepted a.n _ _ _ (listed_front a.file.now a.n a.from.now a.to.now a.bounds.now c.requires.listed) c.peptide_count-m.result c.peptide_count-m.ensures

marks : (c : After-mark_borders) → length (take c.args.n c.args.from.now) ≡ c.args.n
    → Marks c.mark_borders.new.borders (ends_at c.peptide_count-m.result c.args.n (take c.args.n c.args.from.now) (take c.args.n c.args.to.now))
marks c e = rw e at c.mark_borders.ensures

-- the number of leaves
counted : (c : After-borders_between-leaves)
    → c.borders_between-leaves.result ≡ card c.peptide_count-m.result (marked_in c.mark_borders.new.borders)
counted c = count_all (marked_in c.mark_borders.new.borders) c.peptide_count-m.result c.borders_between-leaves.result c.borders_between-leaves.ensures

-- what is known once the leaves are counted
room : (c : After-borders_between-leaves) → IsBytes c.args.file.now
    → Marks c.mark_borders.new.borders (ends_at c.peptide_count-m.result c.args.n (take c.args.n c.args.from.now) (take c.args.n c.args.to.now))
    → Room c.peptide_count-m.result c.args.n c.borders_between-leaves.result c.mark_borders.new.borders (length c.args.out.now)
room c bytes marked =
    let a = c.args in
    has_room a.file.now bytes c.requires.accepted a.n _ _ _ (listed_front a.file.now a.n a.from.now a.to.now a.bounds.now c.requires.listed) c.peptide_count-m.result c.peptide_count-m.ensures
    c.mark_borders.new.borders marked c.borders_between-leaves.result (counted c) (length a.out.now) c.requires.file_in_bounds

pub mark_borders-requires : goal.mark_borders-requires
mark_borders-requires c =
    let p = (goal.at.mark_borders-requires c).After-peptide_count-m in record {
      on_line = rw (many p) (on_line p (λ i. omega (arith, c.type_inv.file i)));
      unmarked = λ q. none_marked 4097 q;
    }

pub borders_between-leaves-requires : goal.borders_between-leaves-requires
borders_between-leaves-requires c =
    let p = (goal.at.borders_between-leaves-requires c).After-peptide_count-m in record {
      after_le_upto = omega arith;
      on_line = (on_line p (λ i. omega (arith, c.type_inv.file i))).line;
    }

pub write_header-total-requires : goal.write_header-total-requires
write_header-total-requires c =
    let a = goal.at.write_header-total-requires c in
    let r = room a.After-borders_between-leaves (λ i. omega (arith, c.type_inv.file i)) (marks a.After-mark_borders (many a.After-peptide_count-m)) in
    record { leaves_bound = r.few_leaves; regions_bound = r.few_regions; lengths_at_bound = omega arith; room = omega (arith, r.enough) }

pub write_lengths-requires : goal.write_lengths-requires
write_lengths-requires c = (on_line (goal.at.write_lengths-requires c).After-peptide_count-m (λ i. omega (arith, c.type_inv.file i))).line

pub write_regions-requires : goal.write_regions-requires
write_regions-requires c =
    let a = goal.at.write_regions-requires c in
    let p = a.After-peptide_count-m in
    let bytes : IsBytes c.args.file.now = λ i. omega (arith, c.type_inv.file i) in
    let long = (listed_length c.args.file.now c.args.n c.args.from.now c.args.to.now c.args.bounds.now c.requires.listed).2 in
    let r = room a.After-borders_between-leaves bytes (marks a.After-mark_borders (many p)) in
    record {
      on_line = rw (many p) (line_longer (on_line p bytes));
      bounds = omega (arith, many p, length-take-le c.args.n c.args.bounds.now long);
      room = omega (arith, many p, r.enough, c.write_header-total.auto.out, c.write_lengths.auto.out);
    }

pub returns : goal.returns
unfolding mark
returns c =
    let a = c.args in
    let at = goal.at.returns c in
    let e = many at.After-peptide_count-m in
    let bytes : IsBytes a.file.now = λ i. omega (arith, c.type_inv.file i) in
    let m = c.peptide_count-m.result in
    let N = c.borders_between-leaves.result in
    let E = c.mark_borders.new.borders in
    let lengths = leaf_lengths m (marked_in E) in
    let regions = region_numbers a.n (marked_in E) (take a.n a.from.now) (take a.n a.to.now) (take a.n a.bounds.now) in
    let parts =
    (rw e at c.write_regions.ensures)
    ∙ ap (λ (l : List ℕ). with_numbers l (16 + 2 * N) regions)
    (c.write_lengths.ensures ∙ ap (λ (l : List ℕ). with_numbers l 16 lengths) c.write_header-total.ensures.written) in
    rw parts
    (wrote a.file.now bytes c.requires.accepted a.n _ _ _ (listed_front a.file.now a.n a.from.now a.to.now a.bounds.now c.requires.listed) m c.peptide_count-m.ensures E
    (marks at.After-mark_borders e) N (counted at.After-borders_between-leaves) a.out.now c.write_header-total.result c.requires.file_in_bounds c.write_header-total.ensures.total)
