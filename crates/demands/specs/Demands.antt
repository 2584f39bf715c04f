-- Document 00, sentence by sentence, of any results that meet the contracts of the calls. Assumes nothing.
use Rattle.std.specs.Prelude.{List, ◌⊎◌, ◌≢◌, ◌↔◌, ◌≡◌, ℕ, ◌≤◌, length, Result as Results, Ok}
use Rattle.grammar.specs.Numbers.{checked_as}
use Rattle.grammar.specs.Refusal.{Checked, accepted}
use Rattle.grammar.specs.Sheet.{Grammar}
use Rattle.grammar.specs.declared.refusal.Refusal.{Refusal}
use Rattle.schema.specs.Derivation.{Pair, ◌at◌, success, failure, Outcome, result, Has}
use Rattle.schema.specs.Machine.{says, ran, machine}
use Rattle.schema.specs.Reached.{Reached, Number}
use Rattle.schema.specs.Table.{Within, cells, decided, held, Holds}
use Rattle.finish.specs.Reply.{Reply, outcome_of, count_of}
use Rattle.verdict.specs.Verdict.{numbers}
use Rattle.verdict.specs.declared.Judgement.{Judgement}
use Rattle.backtrack.specs.Run as run
use Rattle.backtrack.specs.declared.Ending.{Ending}
use Rattle.checker.specs.Checker.{Claimed, succeeds, fails, Checks, told}
use Rattle.checker.specs.declared.Claim.{Claim}
use Rattle.checker.specs.declared.Rejection.{Rejection}
use Rattle.kept.specs.New.{New}

-- ---- Demand 1.

-- A refusal with its number and line, or the numbers of a verdict.
abbrev pub verdict_told : Results Judgement Refusal → Checked (List ℕ)
verdict_told = checked_as (λ j. numbers (Ok j))

-- ---- Demand 3.

-- The outcome that a passed reading claims.
abbrev pub claimed_outcome : Claimed → Outcome
claimed_outcome (succeeds q) = result (success q)
claimed_outcome (fails q) = result failure

-- Demand 3, "any question (sheet, entry, variable, place) that the table engine does not refuse", of the grammar g that it reads, the table that it
-- leaves and its reply. `Counted`, the pairs that the count is of, is what differs from call to call.
pub record Demand3 (sheet input : List ℕ) (x : Pair) (g : Grammar) (Counted : Pair → Type 0) (table : List ℕ) (a : Reply) : Type 0 where
  -- "The engine says failure, a missing rule, .. or success with a certain end, exactly when a finite derivation gives just that.
  -- It says loop exactly when none gives any of these"; order 11: "over three endings and loop".
  pub outcome_exactly : (o : Outcome) → (outcome_of a ≡ o) ↔ Has g.rule input x o
  -- "If the machine, moving as document 01 says and lent any moves and frames for the same question, names one of the"
  -- three, "that is the engine's answer, a success with the same end."
  pub machine_agrees : (budget room : ℕ) (o : Outcome) (moves : ℕ) → machine g.rule input x budget room ≡ ran (says o) moves → outcome_of a ≡ o
  pub run_agrees : (frames frames' : List ℕ) (budget : ℕ) (r : Results Ending Refusal) → run.Runs sheet input x frames frames' budget r
      → (o : Outcome) (moves : ℕ) → run.told r ≡ accepted (ran (says o) moves) → outcome_of a ≡ o
  -- "If the checker, passing exactly what demand 2 says, passes any reading handed in for the same question, the engine's answer is the one the
  -- reading claims, a success with the same end."
  pub checker_agrees : (reading : List ℕ) (r : Results Claim Rejection) → Checks sheet input x reading r → (c : Claimed) → told r ≡ accepted c → outcome_of a ≡ claimed_outcome c
  -- "Each pair the question reaches has its outcome in its cell, as document 01 writes it;"
  pub cells_hold : (y : Pair) → Reached g.rule input x y → Holds g.rule input table y
  -- "the count of decided cells that the engine reports equals the number of these pairs, and is never more than variables times (bytes + 1)."
  pub counts : Number Counted (count_of a)
  pub count_most : count_of a ≤ cells g.variables (length input)

-- Of a question, "whatever its table and work slice held before": it counts the pairs that it reaches.
pub record Demand3Question (sheet input : List ℕ) (x : Pair) (g : Grammar) (table : List ℕ) (a : Reply) : Type 0 where
  pub demand : Demand3 sheet input x g (Reached g.rule input x) table a
  -- Document 01: "a cell is non-blank exactly if its pair is reached".
  pub cells_reached : (A p : ℕ) → Within g.variables (length input) A p → held (length input) table (A at p) ≢ 0 → Reached g.rule input x (A at p)
  -- Document 01: "the count of decided (non-blank) cells among the first V times (n + 1)".
  pub count_decided : count_of a ≡ decided (cells g.variables (length input)) table

-- Of a further question or a correction from a kept table, document 02, order 8: "the count is then of newly decided cells, one for each pair reached
-- whose cell the call found blank or has blanked." By `start`, what the cells hold once the call has blanked its own.
pub record Demand3Kept (sheet input : List ℕ) (x : Pair) (g : Grammar) (start : Pair → ℕ × ℕ) (table : List ℕ) (a : Reply) : Type 0 where
  pub demand : Demand3 sheet input x g (New g.rule input x start) table a
  -- Order 4: "non-blank afterwards are the retained non-blank cells and those of the pairs reached, each holding its pair's outcome".
  pub cells_filled : (A p : ℕ) → Within g.variables (length input) A p
      → (held (length input) table (A at p) ≢ 0) ↔ (((start (A at p)).0 ≢ 0) ⊎ Reached g.rule input x (A at p))
  pub cells_right : (A p : ℕ) → Within g.variables (length input) A p → held (length input) table (A at p) ≢ 0 → Holds g.rule input table (A at p)
