-- Document 01, "The table engine": the promise of a question. Assumes nothing.
use Rattle.std.specs.Prelude.{List, ◌≡◌, ℕ, length, drop, Result}
use Rattle.grammar.specs.Refusal.{Checked, refused, accepted}
use Rattle.grammar.specs.Rule.{Rule}
use Rattle.grammar.specs.Sheet.{Grammar}
use Rattle.grammar.specs.declared.refusal.Refusal.{Refusal}
use Rattle.schema.specs.Derivation.{Pair, ◌at◌, Outcome, Has}
use Rattle.schema.specs.Reached.{Named}
use Rattle.schema.specs.Table.{cells, decided, blanked, Table}
use Rattle.schema.specs.Handed.{handed, question_of}
use Rattle.finish.specs.Reply.{Reply, reply, told}
use Rattle.finish.specs.declared.Answer.{Answer}

-- The reply to a question about x, of v variables, that is not refused, with the table and the work slice before and after it.
pub record Answers (rule : ℕ → Rule) (v : ℕ) (input : List ℕ) (x : Pair) (table table' work work' : List ℕ) (r : Reply) : Type 0 where
  pub outcome : Outcome
  pub named : Pair
  pub has : Has rule input x outcome
  pub names : Named rule input x outcome named
  pub says : r ≡ reply outcome named (decided (cells v (length input)) table')
  pub leaves : Table rule input v x blanked table table'
  -- "The work slice is left free within its first V times (n + 1) numbers and unchanged beyond."
  pub beyond : drop (cells v (length input)) work' ≡ drop (cells v (length input)) work
  pub size : length work' ≡ length work

-- A reply, and not a refusal, that answers.
abbrev pub Says : (ℕ → Rule) → ℕ → List ℕ → Pair → List ℕ → List ℕ → List ℕ → List ℕ → Checked Reply → Type 0
Says rule v input x table table' work work' r = (a : Reply) × (r ≡ accepted a) × Answers rule v input x table table' work work' a

-- The first refusal, with both slices as they were, or an answer.
abbrev pub Replies : Checked Grammar → List ℕ → Pair → List ℕ → List ℕ → List ℕ → List ℕ → Checked Reply → Type 0
Replies (refused number line) input x table table' work work' r = (r ≡ refused number line) × (table' ≡ table) × (work' ≡ work)
Replies (accepted g) input x table table' work work' r = Says g.rule g.variables input x table table' work work' r

-- The promise of a question.
abbrev pub QuestionPromise : List ℕ → List ℕ → ℕ → ℕ → List ℕ → List ℕ → List ℕ → List ℕ → Result Answer Refusal → Type 0
QuestionPromise sheet input A p table table' work work' r =
    Replies (handed sheet (question_of input (A at p) (length table) (length work))) input (A at p) table table' work work' (told r)
