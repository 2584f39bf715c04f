-- The numbers of cells are small. Assumes nothing.
use Prim.Native.Nat.{ℕ, ◌+◌, ◌*◌, ◌≤◌}
use native.Mathlib.Omega.{arith}
use native.Mathlib.Nat.{mul-le-mul}
use Rattle.schema.specs.Table.{cells}

-- A row of cells for each of 256 variables, on 4,096 bytes.
pub row_bound : (a m : ℕ) → a ≤ 255 → m ≤ 4097 → a * m ≤ 1044735
row_bound a m h k = mul-le-mul h k

pub cells_small : (v n : ℕ) → v ≤ 256 → n ≤ 4096 → cells v n ≤ 1048832
cells_small v n h k = let m : n + 1 ≤ 4097 = omega arith in mul-le-mul h m
