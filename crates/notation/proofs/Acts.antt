-- Which variable of a grammar acts as which piece of a text. Assumes nothing.
use mathlib.Core.List.{List}
use mathlib.Core.Option.{none, some}
use mathlib.Core.Path.{◌≡◌}
use Prim.Native.Nat.{ℕ}
use Rattle.grammar.specs.Rule.{Rule, absent, always, never, byte, call}
use Rattle.schema.specs.Derivation.{Pair, Outcome, result, stopped, loop, Derives, Stops}
use Rattle.notation.specs.Text.{round, square, Item, letter, quoted, fails, inside, Row, empty, next, Choice, only, or, Line, line_of}
use Rattle.notation.specs.Direct.{Piece, item, row, choice}

-- A piece of the text, or the refusal of a choice: it fails where the choice succeeds, and succeeds, taking nothing, where the choice fails.
pub data Thing : Type 0 where
  of : Piece → Thing
  not : Choice → Thing

-- The rules of a grammar, the variable of a letter, a variable that always succeeds and one that always fails; of which letters it is said.
module _ (rule : ℕ → Rule) (number : ℕ → ℕ) (E F : ℕ) (Known : ℕ → Type 0) where
  -- The variable v acts as the thing.
  pub data Acts : Thing → ℕ → Type 0 where
    letter_at : {A v : ℕ} → v ≡ number A → Known A → Acts (of (item (letter A))) v
    quoted_at : {b v : ℕ} → rule v ≡ byte b → Acts (of (item (quoted b))) v
    fails_at : {v : ℕ} → v ≡ F → Acts (of (item fails)) v
    round_at : {c : Choice} {v : ℕ} → Acts (of (choice c)) v → Acts (of (item (inside round c))) v
    not_at : {c : Choice} {y v : ℕ} → Acts (of (choice c)) y → rule v ≡ call y F E → Acts (not c) v
    square_at : {c : Choice} {n v : ℕ} → Acts (not c) n → rule v ≡ call n F E → Acts (of (item (inside square c))) v
    empty_at : {v : ℕ} → v ≡ E → Acts (of (row empty)) v
    alone_at : {r : Row} {i : Item} {v : ℕ} → Acts (of (row r)) E → Acts (of (item i)) v → Acts (of (row (next r i))) v
    next_at : {r : Row} {i : Item} {x y v : ℕ} → Acts (of (row r)) x → Acts (of (item i)) y → rule v ≡ call x y F → Acts (of (row (next r i))) v
    only_at : {r : Row} {v : ℕ} → Acts (of (row r)) v → Acts (of (choice (only r))) v
    or_at : {c : Choice} {r : Row} {x y v : ℕ} → Acts (of (choice c)) x → Acts (of (row r)) y → rule v ≡ call x E y → Acts (of (choice (or c r))) v

  -- The grammar is that of the lines.
  pub record Translates (ls : List Line) : Type 0 where
    pub always_at : rule E ≡ always
    pub never_at : rule F ≡ never
    pub line_at_law : (A : ℕ) (c : Choice) → line_of ls A ≡ some c → (y : ℕ) × Acts (of (choice c)) y × (rule (number A) ≡ call y E F)
    pub absent_at : (A : ℕ) → Known A → line_of ls A ≡ none → rule (number A) ≡ absent

-- The pair has the outcome by a finite derivation.
abbrev pub Gets : (ℕ → Rule) → List ℕ → Pair → Outcome → Type 0
Gets rule s x (result r) = (k : ℕ) × (h : ℕ) × Derives rule s x r k h
Gets rule s x (stopped w) = Stops rule s w x
Gets rule s x loop = ⊥
