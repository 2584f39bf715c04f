-- Document 02, orders 4 and 8: the cells that a call newly decides. Assumes nothing.
use Rattle.std.specs.Prelude.{List, ◌≡◌, ℕ}
use Rattle.grammar.specs.Rule.{Rule}
use Rattle.schema.specs.Derivation.{Pair}
use Rattle.schema.specs.Reached.{Reached}

-- "The count is then of cells newly decided", order 8: "one for each pair reached whose cell the call found blank or has blanked". By `start`,
-- what the cells hold once the call has blanked its own.
abbrev pub New : (ℕ → Rule) → List ℕ → Pair → (Pair → ℕ × ℕ) → Pair → Type 0
New rule s x start y = Reached rule s x y × ((start y).0 ≡ 0)
