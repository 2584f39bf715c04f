-- Ranges of which none has a byte in common with another. Assumes nothing.
use Rattle.std.specs.Prelude.{cond, ◌&&◌, List, [], ◌∷◌, ℕ, suc, ◌≤◌, leb}
use Rattle.classes.specs.Class.{Range, range}

-- How many of the ranges a byte lies in.
unfoldable pub holding : List Range → ℕ → ℕ
holding [] b = 0
holding (range low high class ∷ rs) b = cond (leb low b && leb b high) (suc (holding rs b)) (holding rs b)

-- No byte lies in two of the ranges.
abbrev pub Disjoint : List Range → Type 0
Disjoint rs = (b : ℕ) → b ≤ 255 → holding rs b ≤ 1
