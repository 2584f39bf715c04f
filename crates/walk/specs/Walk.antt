-- What the walk does: what its table and its work slice hold, and how it ends. Assumes nothing.
use mathlib.Core.List.{List, [], ◌∷◌, Memᴰ}
use Rattle.std.specs.Prelude.{◌⊎◌, ◌≢◌, ◌≡◌, ℕ, ◌+◌, ◌*◌, ◌≤◌, ◌<◌, length, drop}
use Rattle.grammar.specs.Rule.{Rule}
use Rattle.schema.specs.Cells.{held_at, stored}
use Rattle.schema.specs.Derivation.{Pair, ◌at◌, Result, calls, act, second, Outcome, result, Has}
use Rattle.schema.specs.Examined.{Examines}
use Rattle.schema.specs.Reached.{Reached, Named}
use Rattle.schema.specs.Table.{Within, cell, cells, decided, held, reach}
use Rattle.step.specs.Codes.{open_mark, Settled, Walkable}
use Rattle.finish.specs.Closing.{Trail, outcome_of, named_of}
use Rattle.step.specs.declared.Walk.{Walk}
use Rattle.step.specs.declared.Walk.TheVariants as walk

-- Beside every result that a table holds stands its reach.
abbrev pub Reaching : (ℕ → Rule) → List ℕ → ℕ → List ℕ → Type 0
Reaching rule s v T = (A p : ℕ) (r : Result) → Within v (length s) A p → Settled (length s) (held (length s) T (A at p)) r
    → Examines rule s (A at p) r (reach (length s) T (A at p))

-- A table to begin with (document 01 blanks it; a kept one serves too): no pair is open, what it holds of results is right, and what a pair with
-- a result calls has its result in it too.
pub record RightTable (rule : ℕ → Rule) (s : List ℕ) (v : ℕ) (O : List ℕ) : Type 0 where
  pub no_open : (i : ℕ) → i < cells v (length s) → held_at O i ≢ open_mark
  pub right : (A p : ℕ) (r : Result) → Within v (length s) A p → Settled (length s) (held (length s) O (A at p)) r → Has rule s (A at p) (result r)
  pub whole : (A B C D p : ℕ) (r : Result) → Within v (length s) A p → Settled (length s) (held (length s) O (A at p)) r → act rule s (A at p) ≡ calls B C D
      → (t : Result) × (u : Result) × Settled (length s) (held (length s) O (B at p)) t × Settled (length s) (held (length s) O (second C D p t)) u
  pub reaching : Reaching rule s v O

-- The table before the asked pair x was opened in it.
abbrev pub before : ℕ → Pair → List ℕ → List ℕ
before n x T = stored T (cell n x) 0 0

-- What the walk asks: the asked pair open in a table, and no other, and room for a caller of each cell. The table may hold anything else.
pub record WalkReady (rule : ℕ → Rule) (s : List ℕ) (v A p : ℕ) (T W : List ℕ) : Type 0 where
  pub walkable : Walkable rule s v T
  pub within : Within v (length s) A p
  pub opened : held (length s) T (A at p) ≡ open_mark
  pub no_open : (i : ℕ) → i < cells v (length s) → held_at (before (length s) (A at p) T) i ≢ open_mark
  pub work_room : cells v (length s) ≤ length W

-- Of the first N cells, so many were given their first number between the tables T and T'.
abbrev pub Counts : ℕ → List ℕ → List ℕ → ℕ → Type 0
Counts N T T' count = decided N T' ≡ decided N T + count

-- How many callers the work slice holds.
abbrev pub depth_of : Walk → ℕ
depth_of (walk.Settled c) = 0
depth_of (walk.Loop A p B q d) = d
depth_of (walk.Missing A p d) = d

-- The open pair where the walk stopped, the last one opened first.
abbrev pub StopsAt : Walk → List Pair → Type 0
StopsAt (walk.Settled c) opens = opens ≡ []
StopsAt (walk.Loop A p B q d) opens = (ps : List Pair) × (opens ≡ (B at q) ∷ ps)
StopsAt (walk.Missing A p d) opens = (ps : List Pair) × (opens ≡ (A at p) ∷ ps)

-- The number of a result is a code.
abbrev pub SettledCode : ℕ → Walk → Type 0
SettledCode n (walk.Settled c) = (r : Result) × Settled n c r
SettledCode n (walk.Loop A p B q d) = Unit {0}
SettledCode n (walk.Missing A p d) = Unit {0}

-- What a cell of a reached pair holds where the walk ends with the outcome o: its result and reach, or it is open and its outcome is o.
abbrev pub HeldAt : (ℕ → Rule) → List ℕ → List ℕ → Outcome → Pair → Type 0
HeldAt rule s T o y =
    ((r : Result) × Has rule s y (result r) × Settled (length s) (held (length s) T y) r × Examines rule s y r (reach (length s) T y))
    ⊎ (Has rule s y o × (held (length s) T y ≡ open_mark))

-- What the table T says where a question about x ends with the outcome o and the named pair: O is the table before x was opened.
pub record TableMeans (rule : ℕ → Rule) (s : List ℕ) (v : ℕ) (x : Pair) (O T : List ℕ) (o : Outcome) (named : Pair) : Type 0 where
  pub has : Has rule s x o
  pub names : Named rule s x o named
  pub reached : (y : Pair) → Reached rule s x y → HeldAt rule s T o y
  pub others : (A p : ℕ) → Within v (length s) A p → held (length s) T (A at p) ≢ held (length s) O (A at p) → Reached rule s x (A at p)
  pub others_reach : (A p : ℕ) → Within v (length s) A p → reach (length s) T (A at p) ≢ reach (length s) O (A at p) → Reached rule s x (A at p)

-- The table T there, and the pairs `opens` that are left open: from a kept table it means what it should, and from any table it is one to close.
pub record TableEnds (rule : ℕ → Rule) (s : List ℕ) (v : ℕ) (x : Pair) (O T : List ℕ) (o : Outcome) (named : Pair) (opens : List Pair) : Type 0 where
  pub means : RightTable rule s v O → TableMeans rule s v x O T o named
  pub asked : held (length s) T x ≢ 0
  pub on_trail : (A p : ℕ) → Within v (length s) A p → held (length s) T (A at p) ≡ open_mark → Memᴰ (A at p) opens
  pub trail_open : (A p : ℕ) → Memᴰ (A at p) opens → Within v (length s) A p × (held (length s) T (A at p) ≡ open_mark)
  pub later : drop (2 * cells v (length s)) T ≡ drop (2 * cells v (length s)) O
  pub size : length T ≡ length O

-- Where the walk for x ends: T and W are the table and the work slice, O and U what they were before x was opened.
pub record WalkEnds (rule : ℕ → Rule) (s : List ℕ) (v : ℕ) (x : Pair) (O T U W : List ℕ) (r : Walk) : Type 0 where
  pub opens : List Pair
  pub table : TableEnds rule s v x O T (outcome_of r) (named_of r) opens
  pub stops_at : StopsAt r opens
  pub settled_code : SettledCode (length s) r
  pub trail : Trail W x (depth_of r) opens
  pub deep : depth_of r ≤ cells v (length s)
  pub work_later : drop (cells v (length s)) W ≡ drop (cells v (length s)) U
  pub work_size : length W ≡ length U
