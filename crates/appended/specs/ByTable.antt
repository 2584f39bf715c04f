-- Document 02, order 11: whether an outcome comes again is read off the table that the question left. Assumes nothing.
use Rattle.std.specs.Prelude.{List, ◌++◌, ◌↔◌, ◌≡◌, ℕ, ◌≤◌, length, Result as Results}
use Rattle.grammar.specs.Refusal.{accepted}
use Rattle.grammar.specs.Sheet.{Grammar}
use Rattle.grammar.specs.declared.refusal.Refusal.{Refusal}
use Rattle.schema.specs.Derivation.{◌at◌, Result, result}
use Rattle.schema.specs.Table.{Within, reach}
use Rattle.finish.specs.Reply.{Reply, outcome_of, SaysSame, told}
use Rattle.finish.specs.declared.Answer.{Answer}
use Rattle.memo.specs.Answer.{QuestionPromise}
use Rattle.appended.specs.Appended.{Lasting}

-- No cell of v variables on n bytes holds a reach above n.
abbrev pub NoCellPast : ℕ → ℕ → List ℕ → Type 0
NoCellPast v n T = (A p : ℕ) → Within v n A p → reach n T (A at p) ≤ n

-- Of the grammar g, the reply a to a question about A at p, and the table that it left.
pub record ByTable (sheet input : List ℕ) (A p : ℕ) (g : Grammar) (a : Reply) (table : List ℕ) : Type 0 where
  -- Every outcome: exactly if no cell looked past the input.
  pub by_cells : Lasting g.rule input (A at p) (outcome_of a) ↔ NoCellPast g.variables (length input) table
  -- Success and failure: exactly if their own cell did not.
  pub by_own_cell : (t : Result) → outcome_of a ≡ result t → Lasting g.rule input (A at p) (outcome_of a) ↔ (reach (length input) table (A at p) ≤ length input)
  -- If no cell did, the question says the same of the input with any bytes appended.
  pub repeats : NoCellPast g.variables (length input) table → (added table₂ table₂' work₂ work₂' : List ℕ) (r₂ : Results Answer Refusal)
      → QuestionPromise sheet (input ++ added) A p table₂ table₂' work₂ work₂' r₂ → (b : Reply) → told r₂ ≡ accepted b → SaysSame a b
