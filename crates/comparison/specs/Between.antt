-- Two inputs compared from one position up to another. Assumes nothing.
use Rattle.std.specs.Prelude.{Bool, not, ◌&&◌, List, ℕ, ltb}
use Rattle.kept.specs.Differs.{bytes_differ}
use Rattle.kept.specs.Some.{some}

-- Two inputs differ at a position from one up to another, that one left out.
abbrev pub differs_between : List ℕ → List ℕ → ℕ → ℕ → Bool
differs_between s s' from to = some to (λ p. not (ltb p from) && bytes_differ s s' p)
