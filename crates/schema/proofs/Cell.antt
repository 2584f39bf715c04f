-- The numbers of the cells: below V times (n + 1), one for each pair, and a pair for each. Assumes nothing.
use mathlib.Core.List.{List}
use mathlib.Core.Path.{◌≡◌, sym, ap, ap₂, ◌∙◌}
use Prim.Native.Nat.{ℕ, ◌+◌, ◌-◌, ◌*◌, ◌/◌, ◌%◌, ◌≤◌, ◌<◌}
use native.Mathlib.Nat.{suc-mul, mul-le-mul_right, add_comm, add-mul-div_right, add-mul-mod_self_right, div-eq_of_lt, mod-eq_of_lt, mod-lt, div-add-mod', div-lt_iff_lt-mul}
use native.Mathlib.Omega.{arith}
use Rattle.schema.specs.Cells.{held_at}
use Rattle.schema.specs.Derivation.{Pair, ◌at◌}
use Rattle.schema.specs.Table.{Within, cell, cells, held}

-- The pair of a cell number.
abbrev pub pair_of : ℕ → ℕ → Pair
pair_of n i = (i / (n + 1) + 1) at (i % (n + 1))

-- A pair of v variables and n bytes.
abbrev pub PairWithin : ℕ → ℕ → Pair → Type 0
PairWithin v n (A at p) = Within v n A p

-- A row of m cells ends before a later one begins.
pub rows_apart : (a b m : ℕ) → a < b → a * m + m ≤ b * m
rows_apart a b m l = rw (← suc-mul a m) (mul-le-mul_right m l)

-- A cell is below V times (n + 1).
pub cell_below : (v n : ℕ) (x : Pair) → PairWithin v n x → cell n x < cells v n
cell_below v n (A at p) w =
    let l = rows_apart (A - 1) v (n + 1) (omega (arith, w.variable.0, w.variable.1)) in
    omega (arith, w.position)

-- The pair of a pair's cell is the pair.
pub pair_cell : (v n : ℕ) (x : Pair) → PairWithin v n x → pair_of n (cell n x) ≡ x
pair_cell v n (A at p) w =
    let q : p < n + 1 = omega (arith, w.position) in
    let z : 0 < n + 1 = omega arith in
    let c = add_comm ((A - 1) * (n + 1)) p in
    let d = add-mul-div_right p (A - 1) z in
    let d₀ = div-eq_of_lt q in
    let a : ((A - 1) * (n + 1) + p) / (n + 1) + 1 ≡ A = rw c (omega (arith, w.variable.0, d, d₀)) in
    let b : ((A - 1) * (n + 1) + p) % (n + 1) ≡ p = rw c (add-mul-mod_self_right p (A - 1) (n + 1) ∙ mod-eq_of_lt q) in
    ap₂ ◌at◌ a b

-- Different pairs have different cells.
pub cell_one : (v n : ℕ) (x y : Pair) → PairWithin v n x → PairWithin v n y → cell n x ≡ cell n y → x ≡ y
cell_one v n x y w u e = sym (pair_cell v n x w) ∙ ap (pair_of n) e ∙ pair_cell v n y u

-- The cell of a number's pair is the number.
pub cell_pair : (n i : ℕ) → cell n (pair_of n i) ≡ i
cell_pair n i =
    let e : i / (n + 1) + 1 - 1 ≡ i / (n + 1) = omega arith in
    ap (λ (a : ℕ). a * (n + 1) + i % (n + 1)) e ∙ div-add-mod' i (n + 1)

-- What a table holds for a number's pair, the cell of the number holds.
pub held_pair : (n : ℕ) (T : List ℕ) (i : ℕ) → held n T (pair_of n i) ≡ held_at T i
held_pair n T i = ap (λ (k : ℕ). held_at T k) (cell_pair n i)

-- A number below V times (n + 1) is the cell of a pair.
pub pair_within : (v n i : ℕ) → i < cells v n → PairWithin v n (pair_of n i)
pair_within v n i l =
    let d : i / (n + 1) < v = (div-lt_iff_lt-mul {k = n + 1} {x = i} {y = v} (omega arith)).1 l in
    let m = mod-lt i {m = n + 1} (omega arith) in
    record { variable = (omega arith, omega arith); position = omega arith }
