-- The search for the least opening that loops: what its steps ask and promise. Assumes nothing.
use Rattle.std.specs.Prelude.{Bool, true, false, List, ◌≡◌, ℕ, ◌*◌, length, drop}
use Rattle.grammar.specs.Rule.{Rule}
use Rattle.schema.specs.Derivation.{Pair, ◌at◌, Loops}
use Rattle.schema.specs.Table.{cells}
use Rattle.memo.specs.Ask.{AskReady}
use Rattle.opening.specs.Opening.{Shortest, Asked}

-- Whether the pair loops.
abbrev pub SaysLoop : (ℕ → Rule) → List ℕ → Pair → Bool → Type 0
SaysLoop rule input x true = Loops rule input x
SaysLoop rule input x false = Loops rule input x → ⊥

-- A question that only tells whether the pair loops.
abbrev pub AskedLoop : (ℕ → Rule) → ℕ → List ℕ → Pair → List ℕ → List ℕ → List ℕ → List ℕ → Bool → Type 0
AskedLoop rule v input x table table' work work' r = Asked (SaysLoop rule input x r) rule v input x table table' work work'

-- ---- The search.

-- It may be asked on the whole input, where it loops.
pub record SeekReady (rule : ℕ → Rule) (input : List ℕ) (v A : ℕ) (table work : List ℕ) : Type 0 where
  pub ready : AskReady rule input v A 0 table work
  pub loops : Loops rule input (A at 0)

-- Both slices after questions about openings: beyond what a question about the whole input writes they are as they were.
pub record Between (v : ℕ) (input table table' work work' : List ℕ) : Type 0 where
  pub later : drop (2 * cells v (length input)) table' ≡ drop (2 * cells v (length input)) table
  pub same : length table' ≡ length table
  pub beyond : drop (cells v (length input)) work' ≡ drop (cells v (length input)) work
  pub size : length work' ≡ length work

-- The least opening is found.
pub record Found (rule : ℕ → Rule) (v : ℕ) (input : List ℕ) (x : Pair) (table table' work work' : List ℕ) (m : ℕ) : Type 0 where
  pub shortest : Shortest rule input x m
  pub between : Between v input table table' work work'
