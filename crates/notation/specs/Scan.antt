-- Document 02, order 1: a text read from left to right; refusals 15 and 16. Assumes nothing.
use Rattle.std.specs.Prelude.{Bool, cond, ◌||◌, List, [], ◌∷◌, ◌++◌, ℕ, eqb, length}
use Rattle.std.proofs.Math.Option.{Option, none, some}
use Rattle.grammar.specs.Refusal.{Checked, refused, accepted}
use Rattle.notation.specs.Text.{Bracket, round, square, closer, Item, letter, quoted, fails, inside, Row, empty, next, Choice, only, or, Line, line, capital}

-- The rows of a choice that are closed by `/`, if any, and the row that is being read.
pub data Part : Type 0 where
  part : Option Choice → Row → Part

-- The part with one more item in its row.
abbrev pub with_item : Part → Item → Part
with_item (part c r) i = part c (next r i)

-- The choice that ends here.
abbrev pub whole : Part → Choice
whole (part none r) = only r
whole (part (some c) r) = or c r

-- The rows of a choice, before its end is met.
abbrev pub part_of : Choice → Part
part_of (only r) = part none r
part_of (or c r) = part (some c) r

-- An open bracket, and what stands before it in its choice.
pub data Open : Type 0 where
  opened : Bracket → Part → Open

-- Where the reading stands: before a line, behind its letter, in a choice, behind an opening quote, behind the quoted byte.
-- With it: the lines so far, the line's letter, the open brackets (the innermost first), the choice so far.
pub data State : Type 0 where
  before : List Line → State
  named : List Line → ℕ → State
  choosing : List Line → ℕ → List Open → Part → State
  quoting : List Line → ℕ → List Open → Part → State
  unquoting : List Line → ℕ → List Open → Part → ℕ → State

-- After a byte: a state, or a refusal's number.
pub data Step : Type 0 where
  goes : State → Step
  faults : ℕ → Step

-- Is this the letter of one of these lines?
abbrev pub defined : List Line → ℕ → Bool
defined [] A = Bool.false
defined (line B c ∷ ls) A = eqb A B || defined ls A

-- "Brackets nest to 16."
abbrev pub opens : List Line → ℕ → List Open → Part → Bracket → Step
opens ls A os x k = cond (eqb (length os) 16) (faults 16) (goes (choosing ls A (opened k x ∷ os) (part none empty)))

-- A byte that ends a choice: byte 10 outside all brackets, else the bracket that closes the innermost one.
abbrev pub ends : List Line → ℕ → List Open → Part → ℕ → Step
ends ls A [] x b = cond (eqb b 10) (goes (before (ls ++ line A (whole x) ∷ []))) (faults 15)
ends ls A (opened k y ∷ os) x b = cond (eqb b (closer k)) (goes (choosing ls A os (with_item y (inside k (whole x))))) (faults 15)

-- A byte in a choice.
unfoldable pub chooses : List Line → ℕ → List Open → Part → ℕ → Step
chooses ls A os x b =
    cond (capital b) (goes (choosing ls A os (with_item x (letter b))))
    (cond (eqb b 37) (goes (choosing ls A os (with_item x fails)))
    (cond (eqb b 39) (goes (quoting ls A os x))
    (cond (eqb b 47) (goes (choosing ls A os (part (some (whole x)) empty)))
    (cond (eqb b 40) (opens ls A os x round)
    (cond (eqb b 91) (opens ls A os x square)
    (ends ls A os x b))))))

-- One byte. "with a letter defined twice": at the letter, before anything behind it.
unfoldable pub step : State → ℕ → Step
step (before ls) b = cond (capital b) (cond (defined ls b) (faults 15) (goes (named ls b))) (faults 15)
step (named ls A) b = cond (eqb b 61) (goes (choosing ls A [] (part none empty))) (faults 15)
step (choosing ls A os x) b = chooses ls A os x b
step (quoting ls A os x) b = goes (unquoting ls A os x b)
step (unquoting ls A os x q) b = cond (eqb b 39) (goes (choosing ls A os (with_item x (quoted q)))) (faults 15)

-- The end of the text: "text empty", or in the middle of a line.
abbrev pub finish : State → Checked (List Line)
finish (before []) = refused 15 0
finish (before (l ∷ ls)) = accepted (l ∷ ls)
finish (named ls A) = refused 15 0
finish (choosing ls A os x) = refused 15 0
finish (quoting ls A os x) = refused 15 0
finish (unquoting ls A os x q) = refused 15 0

-- What follows a byte.
abbrev pub after : Step → (State → Checked (List Line)) → Checked (List Line)
after (goes z) rest = rest z
after (faults x) rest = refused x 0

-- "15 .., 16 .., whichever comes first in the text": the rest of a text, read from a state.
unfoldable pub scan : List ℕ → State → Checked (List Line)
scan [] z = finish z
scan (b ∷ s) z = after (step z b) (λ y. scan s y)

-- The lines of a text, or its first refusal.
abbrev pub lines_of : List ℕ → Checked (List Line)
lines_of s = scan s (before [])
