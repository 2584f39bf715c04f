-- Document 02, order 1: the form of a text. Assumes nothing.
use Rattle.std.specs.Prelude.{true, List, [], ◌∷◌, ◌≡◌, ℕ, ◌≤◌, get_or}
use Rattle.std.proofs.Math.Option.{none}
use Rattle.notation.specs.Text.{Item, letter, quoted, fails, inside, Row, empty, next, Choice, only, or, Line, line, choice_depth, line_of, capital}

-- Each number of the list is a byte.
abbrev pub Bytes : List ℕ → Type 0
Bytes s = (i : ℕ) → get_or s i 0 ≤ 255

-- "An item is a capital, a byte between single quotes": a letter is a capital, and what is quoted is a byte.
abbrev mutual
  pub ItemForm : Item → Type 0
  ItemForm (letter A) = capital A ≡ true
  ItemForm (quoted b) = b ≤ 255
  ItemForm fails = Unit {0}
  ItemForm (inside k c) = ChoiceForm c

  pub RowForm : Row → Type 0
  RowForm empty = Unit {0}
  RowForm (next r i) = RowForm r × ItemForm i

  pub ChoiceForm : Choice → Type 0
  ChoiceForm (only r) = RowForm r
  ChoiceForm (or c r) = ChoiceForm c × RowForm r

-- "a capital letter (65-90)", and "Brackets nest to 16", in each line.
abbrev pub EachForm : List Line → Type 0
EachForm [] = Unit {0}
EachForm (line A c ∷ ls) = (capital A ≡ true) × ChoiceForm c × (choice_depth c ≤ 16) × EachForm ls

-- A text "with a letter defined twice" is refused: each letter has at most one line.
abbrev pub Once : List Line → Type 0
Once [] = Unit {0}
Once (line A c ∷ ls) = (line_of ls A ≡ none) × Once ls

-- The lines of a text of the form: at least one, for "text empty" is refused.
pub record LinesForm (ls : List Line) : Type 0 where
  pub some_line : ls ≡ [] → ⊥
  pub each_line : EachForm ls
  pub once : Once ls
