-- Sums over rows and columns. Assumes nothing.
use mathlib.Core.Path.{◌≡◌, refl, sym, ap, ◌∙◌}
use Prim.Native.Nat.{ℕ, zero, suc, ◌+◌, ◌*◌}
use native.Mathlib.Nat.{suc-mul, add_comm}
use native.Mathlib.Omega.{arith}
use Rattle.calls.proofs.Count.{sum}

sum_none : (n : ℕ) → sum (λ i. 0) n ≡ 0
unfolding sum
sum_none zero = refl
sum_none (suc n) = let i = sum_none n in omega arith

sum_add : (f g : ℕ → ℕ) (n : ℕ) → sum (λ i. f i + g i) n ≡ sum f n + sum g n
unfolding sum
sum_add f g zero = refl
sum_add f g (suc n) = let i = sum_add f g n in omega arith

-- Rows and columns exchanged.
pub sum_turned : (g : ℕ → ℕ → ℕ) (m n : ℕ) → sum (λ i. sum (λ j. g i j) n) m ≡ sum (λ j. sum (λ i. g i j) m) n
unfolding sum
sum_turned g zero n = sym (sum_none n)
sum_turned g (suc m) n = ap (λ (k : ℕ). sum (λ j. g m j) n + k) (sum_turned g m n) ∙ sym (sum_add (λ j. g m j) (λ j. sum (λ i. g i j) m) n)

sum_more : (f : ℕ → ℕ) (k n : ℕ) → sum f (n + k) ≡ sum (λ j. f (k + j)) n + sum f k
unfolding sum
sum_more f k zero = let e : 0 + k ≡ k = omega arith in let z = ap (sum f) e in omega arith
sum_more f k (suc n) =
    let i = sum_more f k n in
    let e = ap f (add_comm n k) in
    let s : suc n + k ≡ suc (n + k) = omega arith in
    let z = ap (sum f) s in
    omega arith

-- A sum over m rows of n, row by row.
pub sum_rows : (f : ℕ → ℕ) (m n : ℕ) → sum f (m * n) ≡ sum (λ i. sum (λ j. f (i * n + j)) n) m
unfolding sum
sum_rows f zero n = let e : 0 * n ≡ 0 = omega arith in ap (sum f) e
sum_rows f (suc m) n = ap (sum f) (suc-mul m n ∙ add_comm (m * n) n) ∙ sum_more f (m * n) n ∙ ap (λ (k : ℕ). sum (λ j. f (m * n + j)) n + k) (sum_rows f m n)
