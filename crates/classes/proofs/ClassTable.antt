-- A rule of a table, at each of its entries by one test that antt computes. Assumes nothing.
use mathlib.Core.Bool.{Bool, true, So, ◌&&◌, and-eq-true_iff}
use mathlib.Core.Path.{◌≡◌, subst}
use mathlib.Core.List.{List, [], ◌∷◌}
use Prim.Native.Nat.{ℕ, zero, suc, ◌+◌, ◌<◌}
use native.Mathlib.Omega.{arith}
use lib.ListN.{length, get_or}

-- The test passes at each entry of the list and its place, counted from i.
abbrev pub every : (ℕ → ℕ → Bool) → ℕ → List ℕ → Bool
every test i [] = true
every test i (x ∷ xs) = test i x && every test (suc i) xs

from : (test : ℕ → ℕ → Bool) (xs : List ℕ) (i k : ℕ) → So (every test i xs) → k < length xs → So (test (i + k) (get_or xs k 0))
from test [] i k t h = absurd (omega arith)
from test (x ∷ xs) i zero t h =
    let q : i ≡ i + 0 = omega arith in
    subst (λ (m : ℕ). So (test m x)) q ((and-eq-true_iff (test i x) (every test (suc i) xs)).0 t).0
from test (x ∷ xs) i (suc k) t h =
    let q : suc i + k ≡ i + suc k = omega arith in
    subst
    (λ (m : ℕ). So (test m (get_or xs k 0)))
    q
    (from test xs (suc i) k ((and-eq-true_iff (test i x) (every test (suc i) xs)).0 t).1 (omega arith))

-- A test that passes over a list passes at each of its places.
pub at : (test : ℕ → ℕ → Bool) (xs : List ℕ) (k : ℕ) → So (every test 0 xs) → k < length xs → So (test k (get_or xs k 0))
at test xs k t h =
    let q : 0 + k ≡ k = omega arith in
    subst (λ (m : ℕ). So (test m (get_or xs k 0))) q (from test xs 0 k t h)
