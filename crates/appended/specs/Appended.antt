-- Document 02, orders 3 and 11, "Text added at the end": which outcomes of a pair come again where bytes are appended to the input. Assumes nothing.
use Rattle.std.specs.Prelude.{List, ◌++◌, ℕ, ◌≤◌, length}
use Rattle.grammar.specs.Rule.{Rule}
use Rattle.schema.specs.Derivation.{Pair, Result, Outcome, result, stopped, loop, Has}
use Rattle.schema.specs.Examined.{Examines}
use Rattle.schema.specs.Reached.{Reached, Named}

-- "no finished pair they reach looked past n": a pair that has a result is finished, and it looked as far as its reach.
abbrev pub NonePastEnd : (ℕ → Rule) → List ℕ → Pair → Type 0
NonePastEnd rule input x = (y : Pair) (r : Result) (m : ℕ) → Reached rule input x y → Examines rule input y r m → m ≤ length input

-- "The appended text of order 3 is covered for success and failure whose reach is at most n, and for loop and missing when no finished pair they reach
-- looked past n."
abbrev pub Lasting : (ℕ → Rule) → List ℕ → Pair → Outcome → Type 0
Lasting rule input x (result r) = (m : ℕ) × Examines rule input x r m × (m ≤ length input)
Lasting rule input x (stopped w) = NonePastEnd rule input x
Lasting rule input x loop = NonePastEnd rule input x

-- Over derivations, of any rules and any pair, also one beyond the input.
pub record ComesAgain (rule : ℕ → Rule) (input added : List ℕ) (x : Pair) : Type 0 where
  -- "a success or failure already given must come again, with the same end, and so must a loop or a missing rule"
  pub outcome : (o : Outcome) → Lasting rule input x o → Has rule input x o → Has rule (input ++ added) x o
  -- "with its named pair"
  pub named : (o : Outcome) (z : Pair) → Lasting rule input x o → Has rule input x o → Named rule input x o z → Named rule (input ++ added) x o z
