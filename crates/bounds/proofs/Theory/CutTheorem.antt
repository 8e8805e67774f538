-- The cut is the largest t at which entry t times b is at most a times t; at t = 0 it is, since entry 0 is 0.
use Prim.Native.Nat.{ℕ, zero, suc, ◌*◌, ◌≤◌}
use mathlib.Core.Bool.{Bool, true}
use mathlib.Core.List.{List}
use mathlib.Core.Logic.{⊎_elim}
use mathlib.Core.Path.{◌≡◌, ap, ◌∙◌}
use native.Mathlib.Nat.{eq-or-lt_of_le}
use native.Mathlib.Omega.{arith}
use lib.ListN.{length}
use lib.Dec.{leb}
use borrow.Author.Tests.{leb-true, le-leb}
use Rattle.reader.specs.Bytes.{IsBytes}
use Rattle.reader.specs.Family.{family_of}
use Rattle.reader.specs.Causes.{Accepted}
use Rattle.reader.proofs.Accepting.{well_formed_lem}
use Rattle.reader.proofs.Bools.{test, clash}
use Rattle.bounds.specs.Curves.{entry, largest_up_to, cut_of, IsCut}
use Rattle.bounds.specs.Calls.{IsPath}
use Rattle.bounds.proofs.Calls.PathLaws.{accepted_path}
use Rattle.bounds.proofs.Theory.Marks.{entry_start}

pub largest_most : (n : ℕ) (p : ℕ → Bool) → largest_up_to n p ≤ n
unfolding largest_up_to
largest_most zero p = omega arith
largest_most (suc n) p = ⊎_elim (λ y. rw y (omega arith)) (λ no. rw no (omega (arith, largest_most n p))) (test (p (suc n)))

pub largest_passes : (n : ℕ) (p : ℕ → Bool) → p 0 ≡ true → p (largest_up_to n p) ≡ true
unfolding largest_up_to
largest_passes zero p h = h
largest_passes (suc n) p h = ⊎_elim (λ y. rw y y) (λ no. rw no (largest_passes n p h)) (test (p (suc n)))

pub largest_is : (n : ℕ) (p : ℕ → Bool) (u : ℕ) → u ≤ n → p u ≡ true → u ≤ largest_up_to n p
unfolding largest_up_to
largest_is zero p u l h = l
largest_is (suc n) p u l h =
    ⊎_elim
    (λ y. rw y l)
    (λ no. rw no (⊎_elim (λ e. absurd (clash h (ap p e ∙ no))) (λ d. largest_is n p u (omega arith) h) (eq-or-lt_of_le l)))
    (test (p (suc n)))

pub cut_theorem : (s : List ℕ) → IsBytes s → Accepted s → (path : List ℕ) → IsPath (family_of s).peptides path
    → (a b : ℕ) → IsCut (family_of s) path a b (cut_of (family_of s) path a b)
unfolding cut_of
cut_theorem s bytes accepted path is a b =
    let F = family_of s in
    let pass : ℕ → Bool = λ t. leb (entry F path t * b) (a * t) in
    let zero-passes : entry F path 0 * b ≤ a * 0 = rw (entry_start (well_formed_lem s bytes accepted) (accepted_path F.peptides path is)) (omega arith) in
    record {
      most = largest_most (length path) pass;
      passes = leb-true _ _ (largest_passes (length path) pass (le-leb _ _ zero-passes));
      largest = λ u l h. largest_is (length path) pass u l (le-leb _ _ h);
    }
