use Prim.Native.Nat.{ℕ, ◌+◌, ◌*◌, ◌≤◌}
use native.Mathlib.Omega.{arith}
use mathlib.Core.List.{List, ◌++◌}
use mathlib.Core.Path.{◌≡◌, refl, sym, ap, ◌∙◌}
use lib.ListN.{length, take, drop}
use lib.Seq.{length-take-le}
use Rattle.reader.specs.Bytes.{with_numbers}
use Rattle.reader.specs.Family.{family_of, leaves, region_count, total_length}
use Rattle.reader.specs.Causes.{Accepted}
use Rattle.reader.proofs.Lists.{copied_whole}
use Rattle.reader.proofs.Parsed.{held_first, held_last}
use Rattle.reader.proofs.Accepting.{accepted_header, whole_length}
use Rattle.reader.proofs.Files.{accepted_written_back}
use Rattle.pvalues.specs.Private.Climbing.{z_of_each}
use Rattle.pvalues.proofs.Finding.Regions.{z_read}
use Rattle.pvalues.proofs.NewFile.{first_fields, none_put, region_put, all_put}
use Rattle.pvalues.proofs.writing.write_family.Goals as goal
use Rattle.pvalues.proofs.writing.write_family.Goals.{After-leaf_count}

-- the file is as long as its counts say, so that what comes before the regions lies in it, and in the output
whole : (file : List ℕ) → Accepted file → length file ≡ total_length (leaves (family_of file)) (region_count (family_of file))
whole file a = whole_length _ (accepted_header _ a)

front : (c : After-leaf_count) → (16 + 2 * c.leaf_count.result ≤ length c.args.file.now) × (16 + 2 * c.leaf_count.result ≤ length c.args.out.now)
front c =
    let long = whole c.args.file.now c.requires.accepted in
    (omega (arith, long, c.leaf_count.ensures), omega (arith, long, c.leaf_count.ensures, c.requires.file_fits))

pub slice_bounds-copy_bytes-end : goal.slice_bounds-copy_bytes-end
slice_bounds-copy_bytes-end c =
    sym (length-take-le _ _ (front (goal.at.slice_bounds-copy_bytes-end c).After-leaf_count).0)

pub slice_bounds-copy_bytes-end-2 : goal.slice_bounds-copy_bytes-end-2
slice_bounds-copy_bytes-end-2 c =
    (front (goal.at.slice_bounds-copy_bytes-end-2 c).After-leaf_count).1

pub slice_bounds-copy_bytes-end-3 : goal.slice_bounds-copy_bytes-end-3
slice_bounds-copy_bytes-end-3 c =
    sym (length-take-le _ _ (front (goal.at.slice_bounds-copy_bytes-end-3 c).After-leaf_count).1)

pub loop-k-init : goal.loop-k-init
loop-k-init c =
    none_put (family_of c.args.file.now) (z_of_each c.args.regions.now) _ _

pub loop-k-preserved : goal.loop-k-preserved
loop-k-preserved c =
    let k = c.loop-k.k in
    let r = c.region_of-given.ensures in
    c.put_region.ensures
    ∙ rw (sym (z_read c.args.regions.now k)) (region_put (family_of c.args.file.now) (z_of_each c.args.regions.now) _ _ _ _ k _ _ (omega arith) c.loop-k.invariant refl (held_first _ _ r) (held_last _ _ r))

pub returns : goal.returns
returns c =
    let s = c.args.file.now in
    let start : ℕ = 16 + 2 * c.leaf_count.result in
    let fits = front (goal.at.returns c).After-leaf_count in
    let as_long : length (take start s) ≡ length (take start c.args.out.now) = length-take-le start s fits.0 ∙ sym (length-take-le start c.args.out.now fits.1) in
    all_put (family_of s) (z_of_each c.args.regions.now) s c.args.out.now _ start c.loop-k.k
    (sym (accepted_written_back s (λ i. omega (arith, c.type_inv.file i)) c.requires.accepted)) c.requires.file_fits (omega (arith, c.leaf_count.ensures)) (omega arith)
    (c.loop-k.invariant ∙ ap (λ (l : List ℕ). with_numbers (l ++ drop start c.args.out.now) start (first_fields (family_of s) (z_of_each c.args.regions.now) c.loop-k.k)) (c.copy_bytes.ensures ∙ copied_whole (take start s) (take start c.args.out.now) as_long))
