-- Document 02, order 1: a text read directly. Assumes nothing.
use Rattle.std.specs.Prelude.{List, ◌≡◌, ℕ}
use Rattle.std.proofs.Math.Option.{none, some}
use Rattle.grammar.specs.Rule.{byte}
use Rattle.schema.specs.Derivation.{Result, success, failure, missing, gives, act_of, Outcome, result, stopped, loop}
use Rattle.notation.specs.Text.{round, square, Item, letter, quoted, fails, inside, Row, empty, next, Choice, only, or, Line, line_of}

-- What is read at a place of the entry.
pub data Piece : Type 0 where
  item : Item → Piece
  row : Row → Piece
  choice : Choice → Piece

-- An outcome that ends a row: all but success.
abbrev pub Broken : Outcome → Type 0
Broken (result (success q)) = ⊥
Broken (result failure) = Unit {0}
Broken (stopped w) = Unit {0}
Broken loop = ⊥

-- An outcome that ends a choice: all but failure.
abbrev pub Counts : Outcome → Type 0
Counts (result (success q)) = Unit {0}
Counts (result failure) = ⊥
Counts (stopped w) = Unit {0}
Counts loop = ⊥

-- Reads ls s x p o: of these lines, the piece x has at position p of the entry s the outcome o, by a finite derivation.
pub data Reads (ls : List Line) (s : List ℕ) : Piece → ℕ → Outcome → Type 0 where
  -- "the items of a row follow one another": no item takes nothing; one more is read where those before it end,
  none_yet : {p : ℕ} → Reads ls s (row empty) p (result (success p))
  then : {r : Row} {i : Item} {p q : ℕ} {o : Outcome} → Reads ls s (row r) p (result (success q)) → Reads ls s (item i) q o → Reads ls s (row (next r i)) p o
  -- and is not read where they fail; "missing .., once met, is the line's outcome".
  breaks : {r : Row} {i : Item} {p : ℕ} {o : Outcome} → Broken o → Reads ls s (row r) p o → Reads ls s (row (next r i)) p o
  -- "the first row that succeeds counts, and a choice fails when all its rows fail"
  first : {r : Row} {p : ℕ} {o : Outcome} → Reads ls s (row r) p o → Reads ls s (choice (only r)) p o
  counts : {c : Choice} {r : Row} {p : ℕ} {o : Outcome} → Counts o → Reads ls s (choice c) p o → Reads ls s (choice (or c r)) p o
  else : {c : Choice} {r : Row} {p : ℕ} {o : Outcome} → Reads ls s (choice c) p (result failure) → Reads ls s (row r) p o → Reads ls s (choice (or c r)) p o
  -- a letter is its line; "a letter without a line is a missing rule"
  by_line : {A p : ℕ} {c : Choice} {o : Outcome} → line_of ls A ≡ some c → Reads ls s (choice c) p o → Reads ls s (item (letter A)) p o
  no_line : {A p : ℕ} → line_of ls A ≡ none → Reads ls s (item (letter A)) p (stopped missing)
  -- "a byte acts as in kind 2", and so fails at the entry's end
  byte_gives : {b p : ℕ} {r : Result} → act_of (byte b) s p ≡ gives r → Reads ls s (item (quoted b)) p (result r)
  -- "`%` (always fails)"
  fails_always : {p : ℕ} → Reads ls s (item fails) p (result failure)
  -- "a choice in round brackets"
  in_round : {c : Choice} {p : ℕ} {o : Outcome} → Reads ls s (choice c) p o → Reads ls s (item (inside round c)) p o
  -- "a choice in square brackets (must succeed, takes nothing)"
  takes_nothing : {c : Choice} {p q : ℕ} → Reads ls s (choice c) p (result (success q)) → Reads ls s (item (inside square c)) p (result (success p))
  must_succeed : {c : Choice} {p : ℕ} {o : Outcome} → Broken o → Reads ls s (choice c) p o → Reads ls s (item (inside square c)) p o

-- The outcome of a letter, read directly; loop where no finite derivation gives any other.
abbrev pub Directly : List Line → List ℕ → ℕ → ℕ → Outcome → Type 0
Directly ls s A p (result r) = Reads ls s (item (letter A)) p (result r)
Directly ls s A p (stopped w) = Reads ls s (item (letter A)) p (stopped w)
Directly ls s A p loop = (o : Outcome) → Reads ls s (item (letter A)) p o → ⊥
