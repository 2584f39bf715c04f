-- The cells of a row: they lie one behind the other, and each row behind the one before. Assumes nothing.
use mathlib.Core.Path.{◌≡◌, ap, ◌∙◌}
use Prim.Native.Nat.{ℕ, suc, ◌+◌, ◌-◌, ◌*◌, ◌≤◌, ◌<◌}
use native.Mathlib.Nat.{suc-mul, mul-le-mul_right}
use native.Mathlib.Numerals.{add-one}
use native.Mathlib.Omega.{arith}
use Rattle.schema.specs.Derivation.{◌at◌}
use Rattle.schema.specs.Table.{cell, cells}

-- One row more.
pub next_row : (row n : ℕ) → cells (row + 1) n ≡ cells row n + (n + 1)
next_row row n = ap (λ (a : ℕ). a * (n + 1)) (add-one row) ∙ suc-mul row (n + 1)

-- The cells of the variable after so many rows.
pub row_cell : (row n p : ℕ) → cell n (suc row at p) ≡ cells row n + p
row_cell row n p = let e : suc row - 1 ≡ row = omega arith in ap (λ (a : ℕ). a * (n + 1) + p) e

-- A row that is left lies among the cells.
pub row_inside : (v n row : ℕ) → row < v → cells row n + n < cells v n
row_inside v n row l =
    let k = next_row row n in
    let h : cells (row + 1) n ≤ cells v n = mul-le-mul_right (n + 1) (omega arith) in
    omega arith
