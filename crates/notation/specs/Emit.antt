-- The rules that the steps of a translation store: a word for each variable, from the first helper on. Assumes nothing.
use Rattle.std.specs.Prelude.{cond, List, [], ◌∷◌, ℕ, ◌+◌, eqb, length}
use Rattle.grammar.specs.Rule.{Rule, absent, always, never, byte, call}
use Rattle.notation.specs.Text.{Bracket, round, square, Item, letter, quoted, fails, inside, Row, empty, next, Choice, only, or, Line, line, letters, number_of}

-- The rules so far and the number of the last variable that is taken.
pub data Rules : Type 0 where
  rules : (ℕ → Rule) → ℕ → Rules

-- The rules after a step, and the variable that acts as what was read.
pub data Made : Type 0 where
  made : ℕ → Rules → Made

-- Another rule for one variable.
unfoldable pub with : (ℕ → Rule) → ℕ → Rule → ℕ → Rule
with f v r A = cond (eqb A v) r (f A)

-- A rule for the next variable.
abbrev pub put : Rules → Rule → Made
put (rules f n) r = made (n + 1) (rules (with f (n + 1) r) (n + 1))

-- What follows a step.
abbrev pub upon : Made → (ℕ → Rules → Made) → Made
upon (made v z) k = k v z

-- The variable of a letter, the one that always succeeds, the one that always fails.
module _ (number : ℕ → ℕ) (E F : ℕ) where
  -- An item after the row that x acts as; alone where that row always succeeds.
  abbrev pub joined : ℕ → ℕ → Rules → Made
  joined x y z = cond (eqb x E) (made y z) (put z (call x y F))

  -- A choice in brackets that y acts as: "must succeed, takes nothing" by two refusals.
  abbrev pub bracketed : Bracket → ℕ → Rules → Made
  bracketed round y z = made y z
  bracketed square y z = upon (put z (call y F E)) (λ n w. put w (call n F E))

  unfoldable mutual
    pub item_rules : Item → Rules → Made
    item_rules (letter A) z = made (number A) z
    item_rules (quoted b) z = put z (byte b)
    item_rules fails z = made F z
    item_rules (inside k c) z = upon (choice_rules c z) (bracketed k)

    pub row_rules : Row → Rules → Made
    row_rules empty z = made E z
    row_rules (next r i) z = upon (row_rules r z) (λ x w. upon (item_rules i w) (λ y u. joined x y u))

    pub choice_rules : Choice → Rules → Made
    choice_rules (only r) z = row_rules r z
    choice_rules (or c r) z = upon (choice_rules c z) (λ x w. upon (row_rules r w) (λ y u. put u (call x E y)))

  -- The rule of a line's letter.
  abbrev pub ruled : ℕ → Made → Rules
  ruled A (made y (rules f n)) = rules (with f (number A) (call y E F)) n

  unfoldable pub line_rules : List Line → Rules → Rules
  line_rules [] z = z
  line_rules (line A c ∷ ls) z = line_rules ls (ruled A (choice_rules c z))

-- The start: no rule but those of E and F, behind v letters.
abbrev pub at_first : ℕ → Rules
at_first v = rules (with (with (λ A. absent) (v + 1) always) (v + 2) never) (v + 2)

-- What the lines of a text store: behind its letters a variable that always succeeds, one that always fails, and the other helpers.
abbrev pub stored : List Line → Rules
stored ls = let v = length (letters ls) in line_rules (number_of ls) (v + 1) (v + 2) ls (at_first v)
