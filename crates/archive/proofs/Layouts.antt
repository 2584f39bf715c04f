-- The two layouts: in each, every number of a cell is that of a pair, and a sum over the cells is one over the pairs. Assumes nothing.
use mathlib.Core.Path.{◌≡◌, ap, ◌∙◌}
use Prim.Native.Nat.{ℕ, ◌+◌, ◌-◌, ◌*◌, ◌/◌, ◌%◌, ◌≤◌, ◌<◌}
use native.Mathlib.Nat.{mul_comm, div-add-mod', mod-lt, div-lt_iff_lt-mul}
use native.Mathlib.Omega.{arith}
use Rattle.calls.proofs.Count.{sum, sum_same}
use Rattle.schema.specs.Derivation.{◌at◌}
use Rattle.schema.specs.Table.{Within, cells}
use Rattle.schema.proofs.Cell.{cell_pair, pair_within}
use Rattle.archive.specs.Layout.{Layout, by_variable, by_position, cell_in}
use Rattle.archive.proofs.Sums.{sum_turned, sum_rows}

-- The pair of a cell's number.
pub pair_in : (layout : Layout) (v n : ℕ) → 1 ≤ v → (k : ℕ) → k < cells v n → (A : ℕ) × (p : ℕ) × Within v n A p × (cell_in layout v n (A at p) ≡ k)
pair_in by_variable v n l k m = (k / (n + 1) + 1, k % (n + 1), pair_within v n k m, cell_pair n k)
pair_in by_position v n l k m =
    let e = mul_comm (n + 1) v in
    let d : k / v < n + 1 = (div-lt_iff_lt-mul {k = v} {x = k} {y = n + 1} (omega arith)).1 (omega arith) in
    let r = mod-lt k {m = v} (omega arith) in
    let z : k % v + 1 - 1 ≡ k % v = omega arith in
    (k % v + 1, k / v, record { variable = (omega arith, omega arith); position = omega arith }, ap (λ (a : ℕ). k / v * v + a) z ∙ div-add-mod' k v)

-- A sum over the cells, pair by pair.
pub sum_pairs : (layout : Layout) (v n : ℕ) (f : ℕ → ℕ) → sum f (cells v n) ≡ sum (λ i. sum (λ p. f (cell_in layout v n (i + 1 at p))) (n + 1)) v
sum_pairs by_variable v n f =
    sum_rows f v (n + 1)
    ∙ sum_same (λ i. sum (λ p. f ((i + 1 - 1) * (n + 1) + p)) (n + 1)) (λ i. sum (λ p. f (i * (n + 1) + p)) (n + 1)) v
    (λ i l. let z : i ≡ i + 1 - 1 = omega arith in ap (λ (a : ℕ). sum (λ p. f (a * (n + 1) + p)) (n + 1)) z)
sum_pairs by_position v n f =
    ap (sum f) (mul_comm v (n + 1)) ∙ sum_rows f (n + 1) v ∙ sum_turned (λ p i. f (p * v + i)) (n + 1) v
    ∙ sum_same (λ i. sum (λ p. f (p * v + (i + 1 - 1))) (n + 1)) (λ i. sum (λ p. f (p * v + i)) (n + 1)) v
    (λ i l. let z : i ≡ i + 1 - 1 = omega arith in ap (λ (a : ℕ). sum (λ p. f (p * v + a)) (n + 1)) z)
