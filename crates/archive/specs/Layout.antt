-- Document 02, order 9: the two orders in which the cells of a table stand. Assumes nothing.
use Rattle.std.specs.Prelude.{ℕ, ◌+◌, ◌-◌, ◌*◌}
use Rattle.schema.specs.Derivation.{Pair, ◌at◌}
use Rattle.schema.specs.Table.{cell}

-- By variable, as the calls that ask leave a table; or by position, "place by place", as the archive stores it.
pub data Layout : Type 0 where
  by_variable : Layout
  by_position : Layout

-- The number of a pair's cell, of v variables on n bytes. Order 9: "the cell of pair (A, p), both its numbers, becomes cell p times V plus A - 1".
abbrev pub cell_in : Layout → ℕ → ℕ → Pair → ℕ
cell_in by_variable v n (A at p) = cell n (A at p)
cell_in by_position v n (A at p) = p * v + (A - 1)
