-- Document 02, orders 3 and 11, "Text added at the end": what the calls say again, of any results that meet their contracts. Assumes nothing.
use Rattle.std.specs.Prelude.{List, ◌++◌, ◌≡◌, ℕ, ◌*◌, ◌≤◌, length, Result as Results}
use Rattle.grammar.specs.Refusal.{accepted}
use Rattle.grammar.specs.Sheet.{Grammar}
use Rattle.grammar.specs.declared.refusal.Refusal.{Refusal}
use Rattle.schema.specs.Derivation.{◌at◌, Outcome}
use Rattle.schema.specs.Handed.{handed, asked, question_of}
use Rattle.schema.specs.Machine.{says, ran}
use Rattle.schema.specs.Table.{cells}
use Rattle.finish.specs.Reply.{Reply, outcome_of, SaysSame, told}
use Rattle.finish.specs.declared.Answer.{Answer}
use Rattle.memo.specs.Answer.{QuestionPromise}
use Rattle.backtrack.specs.Run as run
use Rattle.backtrack.specs.declared.Ending.{Ending}
use Rattle.appended.specs.Appended.{Lasting}

-- Over results: the same sheet and the same pair A at p, on the input and on the input with bytes appended, with any slices.
pub record AnsweredAgain (sheet input added : List ℕ) (A p : ℕ) : Type 0 where
  -- "For every accepted sheet, pair and appended bytes within the limit": where the first question is not refused, and the longer input has no more
  -- than 4,096 bytes and slices that are long enough for it, the second is not refused either.
  pub not_refused : (table work table₂ work₂ : ℕ) (g : Grammar) → handed sheet (question_of input (A at p) table work) ≡ accepted g
      → length (input ++ added) ≤ 4096 → 2 * cells g.variables (length (input ++ added)) ≤ table₂ → cells g.variables (length (input ++ added)) ≤ work₂
      → handed sheet (question_of (input ++ added) (A at p) table₂ work₂) ≡ accepted g
  -- Where the engine replies to both, and the first outcome is covered, it says the same again. The count of decided cells is not promised, nor is the
  -- table: the number of a pair's cell changes with n.
  pub question_repeats : (table table' work work' : List ℕ) (r : Results Answer Refusal) → QuestionPromise sheet input A p table table' work work' r
      → (table₂ table₂' work₂ work₂' : List ℕ) (r₂ : Results Answer Refusal) → QuestionPromise sheet (input ++ added) A p table₂ table₂' work₂ work₂' r₂
      → (g : Grammar) → handed sheet (question_of input (A at p) (length table) (length work)) ≡ accepted g
      → (a b : Reply) → told r ≡ accepted a → told r₂ ≡ accepted b → Lasting g.rule input (A at p) (outcome_of a) → SaysSame a b
  -- What the machine names on the input, if it is covered, the engine answers on the longer one.
  pub run_repeats : (frames frames' : List ℕ) (budget : ℕ) (r : Results Ending Refusal) → run.Runs sheet input (A at p) frames frames' budget r
      → (table table' work work' : List ℕ) (r₂ : Results Answer Refusal) → QuestionPromise sheet (input ++ added) A p table table' work work' r₂
      → (g : Grammar) → handed sheet (asked input (A at p)) ≡ accepted g
      → (o : Outcome) (moves : ℕ) (b : Reply) → run.told r ≡ accepted (ran (says o) moves) → told r₂ ≡ accepted b → Lasting g.rule input (A at p) o
      → outcome_of b ≡ o
