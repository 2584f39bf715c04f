-- Rows of cells turned into columns: what the passes ask, and what they promise. Assumes nothing.
use Rattle.std.specs.Prelude.{List, ◌≢◌, ◌≡◌, ℕ, ◌+◌, ◌*◌, ◌≤◌, ◌<◌, max, length, drop}
use Rattle.schema.specs.Cells.{cell_at}
use Rattle.schema.specs.Table.{cells}
use Rattle.archive.specs.Archive.{Stored, told, Unless}
use Rattle.archive.specs.Refusals.{movable}

-- ---- In S stand rows of so many columns: few, so that the numbers of cells are small. In T the columns become rows.

pub record TurnReady (rows columns : ℕ) (S T : List ℕ) : Type 0 where
  pub few_rows : rows ≤ 4097
  pub few_columns : columns ≤ 4097
  pub source_room : 2 * (rows * columns) ≤ length S
  pub target_room : 2 * (columns * rows) ≤ length T

-- The columns from `first` on and before `done` are rows now, and no other cell is changed.
pub record Turned (rows columns first done : ℕ) (S T T' : List ℕ) : Type 0 where
  pub turns : (i j : ℕ) → i < rows → first ≤ j → j < done → cell_at T' (j * rows + i) ≡ cell_at S (i * columns + j)
  pub before : (k : ℕ) → k < first * rows → cell_at T' k ≡ cell_at T k
  pub later : drop (2 * (done * rows)) T' ≡ drop (2 * (done * rows)) T
  pub size : length T' ≡ length T

-- ---- Block by block, from a column on, as long as a block of so many columns is left.

pub record BlocksReady (rows columns first width : ℕ) (S T : List ℕ) : Type 0 where
  pub room : TurnReady rows columns S T
  pub inside : first ≤ columns
  pub some : 1 ≤ width
  pub few : width ≤ 4097

pub record BlocksTurned (rows columns first width : ℕ) (S T T' : List ℕ) (left : ℕ) : Type 0 where
  pub inside : left ≤ columns
  pub last : columns < left + width
  pub turned : Turned rows columns first left S T T'

-- ---- One block: `width` columns from one on, which become rows from the cell `start` on.

pub record BlockReady (rows columns column width start : ℕ) (S T : List ℕ) : Type 0 where
  pub few_rows : rows ≤ 4097
  pub few_columns : columns ≤ 4097
  pub inside : column + width ≤ columns
  pub source_room : 2 * (rows * columns) ≤ length S
  pub target_room : 2 * (start + width * rows) ≤ length T

-- Of `done` rows.
pub record BlockTurned (rows columns column width start done : ℕ) (S T T' : List ℕ) : Type 0 where
  pub turns : (k i : ℕ) → k < width → i < done → cell_at T' (start + (k * rows + i)) ≡ cell_at S (i * columns + (column + k))
  pub before : (k : ℕ) → k < start → cell_at T' k ≡ cell_at T k
  pub later : drop (2 * (start + width * rows)) T' ≡ drop (2 * (start + width * rows)) T
  pub size : length T' ≡ length T

-- ---- One row of a block: `width` cells side by side in S from one on; in T they stand one below the other.

pub record AcrossReady (rows width start row from : ℕ) (S T : List ℕ) : Type 0 where
  pub few_rows : rows ≤ 4097
  pub few : width ≤ 4097
  pub inside : row < rows
  pub source_room : 2 * (from + width) ≤ length S
  pub target_room : 2 * (start + width * rows) ≤ length T

-- `done` of them are copied. Cells of other rows of the block, and cells outside of it, are unchanged.
pub record Across (rows width start row from done : ℕ) (S T T' : List ℕ) : Type 0 where
  pub copies : (k : ℕ) → k < done → cell_at T' (start + (k * rows + row)) ≡ cell_at S (from + k)
  pub others : (k i : ℕ) → i < rows → i ≢ row → cell_at T' (start + (k * rows + i)) ≡ cell_at T (start + (k * rows + i))
  pub before : (k : ℕ) → k < start → cell_at T' k ≡ cell_at T k
  pub later : drop (2 * (start + width * rows)) T' ≡ drop (2 * (start + width * rows)) T
  pub size : length T' ≡ length T

-- ---- A whole table, unless it is refused.

-- Rows and columns of v variables on n bytes: as many cells as are due, by variable or by position.
pub record Sides (v n rows columns : ℕ) : Type 0 where
  pub rows_most : rows ≤ max v (n + 1)
  pub columns_most : columns ≤ max v (n + 1)
  pub due : rows * columns ≡ cells v n

-- The first refusal, or all columns are rows now.
abbrev pub TurnPromise : ℕ → ℕ → ℕ → ℕ → List ℕ → List ℕ → List ℕ → Stored → Type 0
TurnPromise v n rows columns S T T' r = Unless (movable v n (length S) (length T)) (Turned rows columns 0 columns S T T') T T' (told r)
