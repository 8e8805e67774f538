-- What the private functions that read the file in place ask of each other and promise.
use Rattle.std.specs.Prelude.{ℕ, ◌≤◌, List, length}
use Rattle.reader.specs.Family.{leaves, region_count, total_length, family_of}

-- the file has all the lengths and regions that its header counts
abbrev pub Whole : List ℕ → Type 0
Whole s = total_length (leaves (family_of s)) (region_count (family_of s)) ≤ length s
