-- A table as its cells, two numbers each: what the cell of a number holds, and a table in which one cell is stored. Assumes nothing.
use Rattle.std.specs.Prelude.{List, ℕ, ◌+◌, ◌*◌, ◌<◌, length, get_or, set}

-- Document 02, order 6: "Each cell becomes two numbers side by side, outcome then reach". The outcome in the cell of the number i; `held` says the
-- same by the pair.
abbrev pub held_at : List ℕ → ℕ → ℕ
held_at T i = get_or T (2 * i) 0

-- Its reach.
abbrev pub reach_at : List ℕ → ℕ → ℕ
reach_at T i = get_or T (2 * i + 1) 0

-- Both.
abbrev pub cell_at : List ℕ → ℕ → ℕ × ℕ
cell_at T i = (held_at T i, reach_at T i)

-- The table T with the outcome c and the reach m in the cell of the number i.
unfoldable pub stored : List ℕ → ℕ → ℕ → ℕ → List ℕ
stored T i c m = set (set T (2 * i) c) (2 * i + 1) m

-- The table has a cell of the number i.
abbrev pub HasCell : List ℕ → ℕ → Type 0
HasCell T i = 2 * i + 1 < length T
