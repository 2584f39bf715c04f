-- What asking asks, once the refusals are tested. Assumes nothing.
use Rattle.std.specs.Prelude.{List, ℕ, ◌*◌, ◌≤◌, length}
use Rattle.grammar.specs.Rule.{Rule}
use Rattle.schema.specs.Closed.{Closed}
use Rattle.schema.specs.Table.{Within, cells}

-- The rules, the input, the pair and the slices.
pub record AskReady (rule : ℕ → Rule) (input : List ℕ) (v A p : ℕ) (table work : List ℕ) : Type 0 where
  pub few : v ≤ 256
  pub short : length input ≤ 4096
  pub closed : Closed v rule
  pub within : Within v (length input) A p
  pub room : 2 * cells v (length input) ≤ length table
  pub work_room : cells v (length input) ≤ length work
