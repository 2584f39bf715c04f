-- Document 02, orders 4, 6 and 8: what is promised of a call over a table that may hold anything, and more if it was kept. Assumes nothing.
use Rattle.std.specs.Prelude.{List, ◌≢◌, ◌≡◌, ℕ, ◌+◌, ◌*◌, ◌≤◌, length, drop, Result}
use Rattle.grammar.specs.Refusal.{Checked, refused, accepted}
use Rattle.grammar.specs.Rule.{Rule}
use Rattle.grammar.specs.Sheet.{Grammar}
use Rattle.schema.specs.Derivation.{Pair, ◌at◌, Outcome, Has}
use Rattle.schema.specs.Reached.{Named, Number}
use Rattle.schema.specs.Table.{Within, cells, code, held, Holds, Table}
use Rattle.finish.specs.Reply.{Reply, reply, outcome_of, SaysSame, told}
use Rattle.grammar.specs.declared.refusal.Refusal.{Refusal}
use Rattle.finish.specs.declared.Answer.{Answer}
use Rattle.kept.specs.Kept.{KeptTable}
use Rattle.kept.specs.New.{New}

-- Order 4, of a table that was kept: "the answer is the one a fresh table gives; non-blank afterwards are the retained non-blank cells and those of the
-- pairs reached, each holding its pair's outcome. The count is then of cells newly decided." By `start`, what the cells hold once the call has blanked
-- its own.
pub record KeptAnswers (rule : ℕ → Rule) (v : ℕ) (input : List ℕ) (x : Pair) (start : Pair → ℕ × ℕ) (table table' : List ℕ) (r : Reply) : Type 0 where
  pub outcome : Outcome
  pub named : Pair
  pub count : ℕ
  pub has : Has rule input x outcome
  pub names : Named rule input x outcome named
  pub counts : Number (New rule input x start) count
  pub says : r ≡ reply outcome named count
  -- The cells of the pairs reached hold their outcomes, any other holds what it held at the start,
  pub leaves : Table rule input v x start table table'
  -- and each that is not blank holds its pair's outcome.
  pub right : (A p : ℕ) → Within v (length input) A p → held (length input) table' (A at p) ≢ 0 → Holds rule input table' (A at p)

-- Order 4: "From any other table the call still ends within its slices, but outcome, named pair, count and the first V times (n + 1) cells are free": a
-- reply, with the code of a cell, and nothing changed beyond the first cells. `Kept` says that the table was kept.
pub record KeptCall (rule : ℕ → Rule) (v : ℕ) (input : List ℕ) (x : Pair) (Kept : Type 0) (start : Pair → ℕ × ℕ) (table table' work work' : List ℕ) (r : Checked Reply)
    : Type 0 where
  pub replies : Reply
  pub accepts : r ≡ accepted replies
  pub small : code (outcome_of replies) ≤ 5 + length input
  pub later : drop (2 * cells v (length input)) table' ≡ drop (2 * cells v (length input)) table
  pub size : length table' ≡ length table
  pub beyond : drop (cells v (length input)) work' ≡ drop (cells v (length input)) work
  pub work_size : length work' ≡ length work
  pub from_kept : Kept → KeptAnswers rule v input x start table table' replies

-- "A kept table is, for one sheet and entry, ..".
abbrev pub KeptOf : List ℕ → List ℕ → Grammar → Type 0
KeptOf input table g = KeptTable g.rule g.variables input table

-- The first refusal, with both slices as they were, or such a call.
abbrev pub Replies : Checked Grammar → List ℕ → Pair → (Grammar → Type 0) → (Pair → ℕ × ℕ) → List ℕ → List ℕ → List ℕ → List ℕ → Checked Reply → Type 0
Replies (refused number line) input x Kept start table table' work work' r = (r ≡ refused number line) × (table' ≡ table) × (work' ≡ work)
Replies (accepted g) input x Kept start table table' work work' r = KeptCall g.rule g.variables input x (Kept g) start table table' work work' r

-- Two answers that are no refusals, with one outcome, a success with the same end, and one named pair; their counts may differ.
pub record Alike (r t : Result Answer Refusal) : Type 0 where
  pub one : Reply
  pub other : Reply
  pub says : told r ≡ accepted one
  pub says_too : told t ≡ accepted other
  pub same : SaysSame one other
