-- A grammar whose rules call its own variables, as those of every accepted sheet do. Assumes nothing.
use Rattle.std.specs.Prelude.{◌≡◌, ℕ, ◌≤◌}
use Rattle.grammar.specs.Rule.{Rule, call}

-- One of the v variables.
abbrev pub Variable : ℕ → ℕ → Type 0
Variable v A = (1 ≤ A) × (A ≤ v)

-- Whatever a rule calls is one of the v variables.
abbrev pub ClosedRule : ℕ → Rule → Type 0
ClosedRule v r = (B C D : ℕ) → r ≡ call B C D → Variable v B × Variable v C × Variable v D

-- A grammar of such rules.
abbrev pub Closed : ℕ → (ℕ → Rule) → Type 0
Closed v rule = (A : ℕ) → ClosedRule v (rule A)
