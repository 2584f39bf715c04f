-- Document 02, order 1: the sheet that a text becomes. Assumes nothing.
use Rattle.std.specs.Prelude.{true, List, ◌↔◌, ◌≡◌, ℕ, ◌≤◌, length}
use Rattle.grammar.specs.Refusal.{accepted}
use Rattle.grammar.specs.Sheet.{Grammar, sheet}
use Rattle.schema.specs.Derivation.{◌at◌, Outcome, Has}
use Rattle.notation.specs.Text.{Line, letters, among, number_of, allowance}
use Rattle.notation.specs.Direct.{Directly}

-- "Each text becomes a sheet": these bytes are a sheet of the lines.
pub record SheetOf (ls : List Line) (s : List ℕ) : Type 0 where
  pub grammar : Grammar
  pub read : sheet s ≡ accepted grammar
  -- "start 1, endmarker 46"
  pub start_is : grammar.start ≡ 1
  pub endmarker_is : grammar.endmarker ≡ 46
  -- "letters numbered by first appearance, helpers after them": every letter is a variable, one without a line too.
  pub letters_in : length (letters ls) ≤ grammar.variables
  -- "Which helpers are taken is free within this allowance". A helper is a variable that is no letter.
  pub within : grammar.variables ≤ allowance ls
  -- "Every letter has the outcome, loop included, that its line has when read directly": each letter of the text, on any input, at any position.
  pub same : (A : ℕ) → among A (letters ls) ≡ true → (input : List ℕ) (p : ℕ) (o : Outcome)
      → Directly ls input A p o ↔ Has grammar.rule input (number_of ls A at p) o
