-- The peptides marked along a path.
use Rattle.std.specs.Prelude.{ℕ, ◌&&◌, List, get_or, eqb}
use Rattle.reader.specs.Lists.{some_below}
use Rattle.bounds.specs.Ranges.{Peptides}

-- the peptides marked among the first t: each stands at one of the first t places, and the mark there is 1
unfoldable pub marked : List ℕ → List ℕ → ℕ → Peptides
marked path marks t p = some_below t (λ i. eqb (get_or path i 0) p && eqb (get_or marks i 0) 1)
