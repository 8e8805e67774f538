-- What the functions that read the two files promise.
use Rattle.std.specs.Prelude.{ℕ, ◌/◌, List, ◌≡◌, length, take, Result, Ok, Err}
use Rattle.curve.specs.Program.{path_of}

-- how many bytes of a file count after a read that brought none: those before it, but none if it failed, which an error says
abbrev pub counted : {E : Type 0} → ℕ → Result ℕ E → ℕ
counted done (Ok k) = done
counted done (Err e) = 0

-- the first n numbers are the path
pub record Decoded (bytes numbers : List ℕ) (n : ℕ) : Type 0 where
  pub count : n ≡ length bytes / 2
  pub path : take n numbers ≡ path_of bytes
