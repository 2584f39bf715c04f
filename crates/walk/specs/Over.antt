-- Asking over the table as it is, nothing blanked: what is asked, and what is promised. Assumes nothing.
use Rattle.std.specs.Prelude.{List, ◌≡◌, ℕ, ◌+◌, ◌-◌, ◌*◌, ◌≤◌, ◌<◌, length, drop}
use Rattle.grammar.specs.Rule.{Rule}
use Rattle.schema.specs.Cells.{held_at}
use Rattle.schema.specs.Closed.{Closed}
use Rattle.schema.specs.Derivation.{Pair, Outcome, Has}
use Rattle.schema.specs.Reached.{Named}
use Rattle.schema.specs.Table.{Within, cells, code, decided, contents, Table}
use Rattle.finish.specs.Reply.{Reply, reply, outcome_of, count_of}
use Rattle.walk.specs.Walk.{Counts, RightTable}

-- What asking over a table is handed: codes of at most 5 + n, whatever else they say.
pub record OverReady (rule : ℕ → Rule) (input : List ℕ) (v A p : ℕ) (table work : List ℕ) : Type 0 where
  pub few : v ≤ 256
  pub short : length input ≤ 4096
  pub closed : Closed v rule
  pub within : Within v (length input) A p
  pub room : 2 * cells v (length input) ≤ length table
  pub work_room : cells v (length input) ≤ length work
  pub in_range : (i : ℕ) → i < cells v (length input) → held_at table i ≤ 5 + length input

-- From a right table: the count is of newly decided cells.
pub record OverAnswers (rule : ℕ → Rule) (v : ℕ) (input : List ℕ) (x : Pair) (table table' : List ℕ) (r : Reply) : Type 0 where
  pub outcome : Outcome
  pub named : Pair
  pub has : Has rule input x outcome
  pub names : Named rule input x outcome named
  pub says : r ≡ reply outcome named (decided (cells v (length input)) table' - decided (cells v (length input)) table)
  pub leaves : Table rule input v x (contents (length input) table) table table'

-- From any table: a reply, whose count is of newly decided cells and whose outcome has a code of at most 5 + n, and nothing changed beyond the first
-- cells.
pub record Over (rule : ℕ → Rule) (v : ℕ) (input : List ℕ) (x : Pair) (table table' work work' : List ℕ) (r : Reply) : Type 0 where
  pub later : drop (2 * cells v (length input)) table' ≡ drop (2 * cells v (length input)) table
  pub size : length table' ≡ length table
  pub beyond : drop (cells v (length input)) work' ≡ drop (cells v (length input)) work
  pub work_size : length work' ≡ length work
  pub counts : Counts (cells v (length input)) table table' (count_of r)
  pub small : code (outcome_of r) ≤ 5 + length input
  pub from_right : RightTable rule input v table → OverAnswers rule v input x table table' r
