-- Document 02, order 8, "Two societies on one page": what is so of further questions over one kept table, of any results that meet the contracts of the
-- calls. Assumes nothing.
use Rattle.std.specs.Prelude.{List, ◌⊎◌, ◌≡◌, ℕ, ◌+◌, length, Result}
use Rattle.grammar.specs.Refusal.{accepted}
use Rattle.grammar.specs.Sheet.{Grammar}
use Rattle.schema.specs.Derivation.{◌at◌}
use Rattle.schema.specs.Handed.{handed, question_of}
use Rattle.schema.specs.Reached.{Reached, Number}
use Rattle.finish.specs.Reply.{Reply, count_of, told}
use Rattle.grammar.specs.declared.refusal.Refusal.{Refusal}
use Rattle.finish.specs.declared.Answer.{Answer}
use Rattle.memo.specs.Answer.{QuestionPromise}
use Rattle.kept.specs.Kept.{Blank, KeptTable}
use Rattle.correction.specs.Call.{Alike}
use Rattle.correction.specs.Further.{FurtherPromise}
use Rattle.correction.specs.Refusals.{askable}

-- A question about A at p with slices of so many numbers is not refused, and g is what its sheet says.
abbrev pub Askable : List ℕ → List ℕ → Grammar → ℕ → ℕ → List ℕ → List ℕ → Type 0
Askable sheet input g A p table work = handed sheet (question_of input (A at p) (length table) (length work)) ≡ accepted g

-- "Two societies put questions about one entry to one sheet and table, from different variables": a further question about A at p and then one about B at
-- q, with what they leave and what they say. Each is lent a work slice of its own.
pub record InTurn (sheet input : List ℕ) (g : Grammar) (A p B q : ℕ) (table : List ℕ) : Type 0 where
  pub between : List ℕ
  pub after : List ℕ
  pub work₁ : List ℕ
  pub work₁' : List ℕ
  pub work₂ : List ℕ
  pub work₂' : List ℕ
  pub one : Result Answer Refusal
  pub other : Result Answer Refusal
  pub asks_one : FurtherPromise sheet input A p table between work₁ work₁' one
  pub asks_other : FurtherPromise sheet input B q between after work₂ work₂' other
  pub askable_one : Askable sheet input g A p table work₁
  pub askable_other : Askable sheet input g B q table work₂

-- Order 8, sentence by sentence, of a sheet with the grammar g and an input.
pub record SharedTable (sheet input : List ℕ) (g : Grammar) : Type 0 where
  -- "Any other table falls under 19": a kept one never does.
  pub kept_accepted : (A p : ℕ) (table work : List ℕ) → KeptTable g.rule g.variables input table → Askable sheet input g A p table work
      → askable sheet input (A at p) table (length work) ≡ accepted g
  -- "From it each society hears the outcome and named pair it would have heard alone": from a question about the same, over any slices.
  pub heard_alone : (A p : ℕ) (table table' work work' : List ℕ) (r : Result Answer Refusal) → KeptTable g.rule g.variables input table → Askable sheet input g A p table work
      → FurtherPromise sheet input A p table table' work work' r
      → (table₀ table₀' work₀ work₀' : List ℕ) (r₀ : Result Answer Refusal) → Askable sheet input g A p table₀ work₀ → QuestionPromise sheet input A p table₀ table₀' work₀ work₀' r₀
      → Alike r r₀
  -- "Asked in either order from the same kept table, the two outcomes, the named pairs and all cells come out alike."
  pub either_order : (A p B q : ℕ) (table : List ℕ) → KeptTable g.rule g.variables input table
      → (turn : InTurn sheet input g A p B q table) (back : InTurn sheet input g B q A p table)
      → Alike turn.one back.other × Alike turn.other back.one × (turn.after ≡ back.after)
  -- "From a blank table the two counts of newly decided cells add up to the number of pairs reached from either."
  pub counts_add : (A p B q : ℕ) (table : List ℕ) → Blank g.variables (length input) table → (turn : InTurn sheet input g A p B q table)
      → (a b : Reply) → told turn.one ≡ accepted a → told turn.other ≡ accepted b
      → Number (λ z. Reached g.rule input (A at p) z ⊎ Reached g.rule input (B at q) z) (count_of a + count_of b)
  -- "A kept table is .. one left by a further question .. from a kept table".
  pub kept_again : (A p : ℕ) (table table' work work' : List ℕ) (r : Result Answer Refusal) → KeptTable g.rule g.variables input table → Askable sheet input g A p table work
      → FurtherPromise sheet input A p table table' work work' r → KeptTable g.rule g.variables input table'
