-- What the steps of the writer do, once the question is answered: it goes from pair to pair over the finished table and lays their lines down.
-- The work slice holds for each cell 0, a link to the pair that called its pair, or twice the number of its line. Assumes nothing.
use Rattle.std.specs.Prelude.{Bool, true, false, List, [], ◌++◌, ◌⊎◌, ◌≢◌, ◌≡◌, ℕ, ◌+◌, ◌*◌, ◌/◌, ◌%◌, ◌≤◌, ◌<◌, length, get_or, set, take, drop}
use Rattle.grammar.specs.Rule.{Rule}
use Rattle.schema.specs.Derivation.{Pair, ◌at◌, Result, result, stopped, loop, Has}
use Rattle.schema.specs.Line.{Line, line_of, line_bytes, lines_bytes}
use Rattle.schema.specs.Reached.{Reached}
use Rattle.schema.specs.Table.{cell, cells, held}
use Rattle.finish.specs.Reply.{Reply, reply}
use Rattle.memo.specs.Ask.{AskReady}
use Rattle.step.specs.Codes.{Settled, result_of}
use Rattle.lines.specs.Turning.{number_of, link, no_link, Lower, Own, TurnReady}
use Rattle.writer.specs.Writer.{Visits}
use Rattle.lines.specs.declared.Stand.{Stand}
use Rattle.std.specs.declared.ops.ControlFlow.{ControlFlow}
use Rattle.std.specs.declared.ops.ControlFlow.TheVariants.{Continue, Break}

-- ---- A step.

-- The pair of a place.
abbrev pub pair_at : Stand → Pair
pair_at x = x.variable at x.position

-- What a step asks: room for a line more.
pub record StepReady (rule : ℕ → Rule) (s : List ℕ) (v : ℕ) (T W out : List ℕ) (x : Stand) : Type 0 where
  pub turns : TurnReady rule s v x.variable x.position T W
  pub few_lines : x.lines < cells v (length s)
  pub out_room : 49 * cells v (length s) ≤ length out

-- A called pair is next, linked to its caller.
pub record Descends (rule : ℕ → Rule) (s T W out W' out' : List ℕ) (x y : Stand) : Type 0 where
  pub lower : Lower rule s T W (pair_at x) (pair_at y)
  pub work_is : W' ≡ set W (cell (length s) (pair_at y)) (link (pair_at x))
  pub out_same : out' ≡ out
  pub lines_same : y.lines ≡ x.lines

-- The line of the pair is laid down after those already written, and its number noted.
pub record Lays (rule : ℕ → Rule) (s T W out W' out' : List ℕ) (x : Stand) : Type 0 where
  pub first : ℕ
  pub second : ℕ
  pub own : Own rule s T W (pair_at x) first second
  pub line : out' ≡ take (49 * x.lines) out
      ++ (line_bytes (line_of (pair_at x) (result_of (held (length s) T (pair_at x))) first second) ++ drop (49 * x.lines + 49) out)
  pub work_is : W' ≡ set W (cell (length s) (pair_at x)) (2 * (x.lines + 1))

-- The pair of its link is next.
pub record Returns (s W : List ℕ) (x y : Stand) : Type 0 where
  pub linked : number_of (length s) W (pair_at x) ≢ no_link
  pub variable_is : y.variable ≡ number_of (length s) W (pair_at x) / 16384
  pub position_is : y.position ≡ number_of (length s) W (pair_at x) / 2 % 8192
  pub lines_are : y.lines ≡ x.lines + 1

-- One step from x.
abbrev pub Steps : (ℕ → Rule) → List ℕ → List ℕ → List ℕ → List ℕ → List ℕ → List ℕ → Stand → ControlFlow ℕ Stand → Type 0
Steps rule s T W out W' out' x (Continue y) = Descends rule s T W out W' out' x y ⊎ (Lays rule s T W out W' out' x × Returns s W x y)
Steps rule s T W out W' out' x (Break count) =
    Lays rule s T W out W' out' x × (number_of (length s) W (pair_at x) ≡ no_link) × (count ≡ x.lines + 1)

-- ---- The walk.

-- The table holds the results of the pairs that x reaches.
abbrev pub Finished : (ℕ → Rule) → List ℕ → Pair → List ℕ → Type 0
Finished rule s x T = (y : Pair) (r : Result) → Reached rule s x y → Has rule s y (result r) → Settled (length s) (held (length s) T y) r

-- What is asked for the lines of a pair that has a result.
pub record LinesReady (rule : ℕ → Rule) (s : List ℕ) (v A p : ℕ) (T W out : List ℕ) : Type 0 where
  pub ready : AskReady rule s v A p T W
  pub finished : Finished rule s (A at p) T
  pub found : Result
  pub has : Has rule s (A at p) (result found)
  pub out_room : 49 * cells v (length s) ≤ length out

-- The asked pair is the only one with a link, which says that none called it.
pub record WriteReady (rule : ℕ → Rule) (s : List ℕ) (v A p : ℕ) (T W out : List ℕ) : Type 0 where
  pub lines : LinesReady rule s v A p T W out
  pub root : number_of (length s) W (A at p) ≡ no_link
  pub others : (i : ℕ) → i < cells v (length s) → i ≢ cell (length s) (A at p) → get_or W i 0 ≡ 0

-- The lines are written, and the work slice is as it was beyond its cells.
pub record WriteEnds (rule : ℕ → Rule) (s : List ℕ) (v : ℕ) (x : Pair) (U W out out' : List ℕ) (count : ℕ) : Type 0 where
  pub beyond : drop (cells v (length s)) W ≡ drop (cells v (length s)) U
  pub size : length W ≡ length U
  pub lines : List Line
  pub ordered : Visits rule s [] x lines
  pub counted : count ≡ length lines
  pub written : out' ≡ lines_bytes lines ++ drop (49 * length lines) out

-- What asking and writing is handed, once the refusals are tested.
pub record AskWriteReady (rule : ℕ → Rule) (s : List ℕ) (v A p : ℕ) (T W out : List ℕ) : Type 0 where
  pub ready : AskReady rule s v A p T W
  pub out_room : 49 * cells v (length s) ≤ length out

-- The answer is success or failure.
abbrev pub has_result : Reply → Bool
has_result (reply (result r) z count) = true
has_result (reply (stopped w) z count) = false
has_result (reply loop z count) = false
