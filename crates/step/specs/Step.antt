-- What one step of the walk does: it looks a pair up, and then opens it, goes on to the second call, or settles the pair that called. Assumes nothing.
use Rattle.std.specs.Prelude.{true, false, List, ◌⊎◌, ◌≡◌, ℕ, ◌+◌, ◌/◌, ◌%◌, max, ◌≤◌, ◌<◌, eqb, length, get_or, set}
use Rattle.grammar.specs.Rule.{Rule, call}
use Rattle.schema.specs.Cells.{stored, HasCell}
use Rattle.schema.specs.Derivation.{Pair, ◌at◌, Result, Stop, missing, gives, stops, calls, act, second}
use Rattle.schema.specs.Examined.{leaf_reach_of}
use Rattle.schema.specs.Table.{Within, cell, cells, held, reach}
use Rattle.cells.specs.Packed.{entry}
use Rattle.step.specs.Codes.{Code, open_mark, Unsettled, Settled, Called, Walkable, result_of}
use Rattle.cells.specs.declared.Cell.{Cell}
use Rattle.step.specs.declared.State.{State}
use Rattle.std.specs.declared.ops.ControlFlow.{ControlFlow}
use Rattle.std.specs.declared.ops.ControlFlow.TheVariants.{Continue, Break}
use Rattle.step.specs.declared.Walk.{Walk}
use Rattle.step.specs.declared.Walk.TheVariants as walk

-- ---- Looking a pair up.

-- The table once y is known to have the result r: as it was, or with the cell of a leaf settled in it.
pub data LookedUp (rule : ℕ → Rule) (s T : List ℕ) (y : Pair) (r : Result) : List ℕ → Type 0 where
  settled_before : Settled (length s) (held (length s) T y) r → LookedUp rule s T y r T
  leaf_settled : {c m : ℕ} → Unsettled (held (length s) T y) → act rule s y ≡ gives r → Settled (length s) c r → m ≡ leaf_reach_of rule y
      → LookedUp rule s T y r (stored T (cell (length s) y) c m)

-- ---- One step of the walk.

-- The latest open pair,
abbrev pub top_of : State → Pair
top_of x = x.variable at x.position

-- and the pair that it calls.
abbrev pub called_of : State → Pair
called_of x = x.called at x.target

-- What a step asks.
pub record StepReady (rule : ℕ → Rule) (s : List ℕ) (v : ℕ) (T W : List ℕ) (x : State) : Type 0 where
  pub walkable : Walkable rule s v T
  pub within : Within v (length s) x.variable x.position
  pub called : Called rule s T x.second (top_of x) (called_of x)
  pub deep : x.depth < cells v (length s)
  pub work_room : cells v (length s) ≤ length W

-- The first call has its result r: the second is next.
pub record Seconds (rule : ℕ → Rule) (s T W T' W' : List ℕ) (x y : State) : Type 0 where
  pub first_call : x.second ≡ false
  pub r : Result
  pub looked_up : LookedUp rule s T (called_of x) r T'
  pub called : Called rule s T' true (top_of x) (called_of y)
  pub top_same : top_of y ≡ top_of x
  pub second_call : y.second ≡ true
  pub depth_same : y.depth ≡ x.depth
  pub work_same : W' ≡ W

-- The second call has its result r, and so has the pair itself.
pub record Settles (rule : ℕ → Rule) (s T W T' W' : List ℕ) (x : State) (c : ℕ) : Type 0 where
  pub second_call : x.second ≡ true
  pub r : Result
  pub code_is : Settled (length s) c r
  pub T₁ : List ℕ
  pub looked_up : LookedUp rule s T (called_of x) r T₁
  pub m : ℕ
  pub reach_is : (B C D : ℕ) → rule x.variable ≡ call B C D
      → m ≡ max (reach (length s) T₁ (B at x.position)) (reach (length s) T₁ (called_of x))
  pub table_is : T' ≡ stored T₁ (cell (length s) (top_of x)) c m
  pub work_same : W' ≡ W

-- Its caller, the latest in the work slice, is next.
pub record Returns (W : List ℕ) (x y : State) : Type 0 where
  pub depth_is : x.depth ≡ y.depth + 1
  pub variable_is : y.variable ≡ get_or W y.depth 0 / 16384
  pub position_is : y.position ≡ get_or W y.depth 0 / 2 % 8192
  pub second_is : y.second ≡ eqb (get_or W y.depth 0 % 2) 1
  pub called_is : called_of y ≡ top_of x

-- Back to the caller, or the end where there is none.
abbrev pub GoesBack : List ℕ → State → Cell → ControlFlow Walk State → Type 0
GoesBack W x c (Continue y) = Returns W x y
GoesBack W x c (Break (walk.Settled d)) = (d ≡ c.0) × (x.depth ≡ 0)
GoesBack W x c (Break (walk.Loop A p B q d)) = ⊥
GoesBack W x c (Break (walk.Missing A p d)) = ⊥

-- y is x with the second call next: that of C where the first one ended, or of D where the pair stands.
abbrev pub ToSecond : (ℕ → Rule) → State → Cell → State → Type 0
ToSecond rule x c y =
    ((B C D : ℕ) → rule x.variable ≡ call B C D → called_of y ≡ second C D x.position (result_of c.0)) × (top_of y ≡ top_of x)
    × (y.second ≡ true) × (y.depth ≡ x.depth)

-- What settling the latest open pair asks: it calls, and has a cell, and so has the pair that it calls first.
pub record SettleReady (rule : ℕ → Rule) (n : ℕ) (T W : List ℕ) (x : State) : Type 0 where
  pub low : 1 ≤ x.variable
  pub high : x.variable ≤ 256
  pub short : n ≤ 4096
  pub position : x.position ≤ n
  pub top_cell : HasCell T (cell n (top_of x))
  pub B : ℕ
  pub C : ℕ
  pub D : ℕ
  pub rule_is : rule x.variable ≡ call B C D
  pub first_low : 1 ≤ B
  pub first_high : B ≤ 256
  pub first_cell : HasCell T (cell n (B at x.position))
  pub deep : x.depth ≤ length W

-- What going on with a result asks,
pub record ResumeReady (rule : ℕ → Rule) (n : ℕ) (T W : List ℕ) (x : State) (c : ℕ) : Type 0 where
  pub settle : SettleReady rule n T W x
  pub code_is : Code c

-- The reach of the latest open pair, where its second call has the cell c: the greater of its two called pairs'.
abbrev pub Joins : (ℕ → Rule) → ℕ → List ℕ → State → Cell → ℕ → Type 0
Joins rule n T x c m = (B C D : ℕ) → rule x.variable ≡ call B C D → m ≡ max (reach n T (B at x.position)) c.1

-- The latest open pair is settled with it.
abbrev pub SettlesTop : (ℕ → Rule) → ℕ → List ℕ → List ℕ → State → Cell → Type 0
SettlesTop rule n T T' x c = (m : ℕ) × (T' ≡ stored T (cell n (top_of x)) c.0 m) × Joins rule n T x c m

-- and what it does.
abbrev pub Resumes : (ℕ → Rule) → ℕ → List ℕ → List ℕ → List ℕ → State → Cell → ControlFlow Walk State → Type 0
Resumes rule n T W T' x c r =
    ((x.second ≡ true) × SettlesTop rule n T T' x c × GoesBack W x c r)
    ⊎ ((x.second ≡ false) × (T' ≡ T) × ((y : State) × (r ≡ Continue y) × ToSecond rule x c y))

-- The called pair is opened, and its caller noted.
pub record Opens (s T W T' W' : List ℕ) (x : State) : Type 0 where
  pub new : Unsettled (held (length s) T (called_of x))
  pub table_is : T' ≡ stored T (cell (length s) (called_of x)) open_mark 0
  pub work_is : W' ≡ set W x.depth (entry x.second (top_of x))

-- It calls in turn.
pub record Descends (rule : ℕ → Rule) (s : List ℕ) (x y : State) : Type 0 where
  pub C : ℕ
  pub D : ℕ
  pub acts : act rule s (called_of x) ≡ calls y.called C D
  pub top_is : top_of y ≡ called_of x
  pub target_is : y.target ≡ x.target
  pub first_call : y.second ≡ false
  pub depth_is : y.depth ≡ x.depth + 1

-- It has no rule.
pub record Stuck (rule : ℕ → Rule) (s : List ℕ) (x : State) (w : Stop) (y : Pair) (d : ℕ) : Type 0 where
  pub acts : act rule s (called_of x) ≡ stops w
  pub pair_is : y ≡ called_of x
  pub depth_is : d ≡ x.depth + 1

-- It is open already.
pub record Repeats (s T W T' W' : List ℕ) (x : State) (y z : Pair) (d : ℕ) : Type 0 where
  pub opened : held (length s) T (called_of x) ≡ open_mark
  pub pair_is : y ≡ called_of x
  pub caller_is : z ≡ top_of x
  pub depth_is : d ≡ x.depth
  pub table_same : T' ≡ T
  pub work_same : W' ≡ W

-- A step that ends the walk.
abbrev pub StepEnds : (ℕ → Rule) → List ℕ → List ℕ → List ℕ → List ℕ → List ℕ → State → Walk → Type 0
StepEnds rule s T W T' W' x (walk.Settled c) = Settles rule s T W T' W' x c × (x.depth ≡ 0)
StepEnds rule s T W T' W' x (walk.Loop A p B q d) = Repeats s T W T' W' x (A at p) (B at q) d
StepEnds rule s T W T' W' x (walk.Missing A p d) = Opens s T W T' W' x × Stuck rule s x missing (A at p) d

-- One step from x.
abbrev pub Steps : (ℕ → Rule) → List ℕ → List ℕ → List ℕ → List ℕ → List ℕ → State → ControlFlow Walk State → Type 0
Steps rule s T W T' W' x (Continue y) =
    Seconds rule s T W T' W' x y ⊎ (((c : ℕ) × Settles rule s T W T' W' x c × Returns W x y) ⊎ (Opens s T W T' W' x × Descends rule s x y))
Steps rule s T W T' W' x (Break r) = StepEnds rule s T W T' W' x r
