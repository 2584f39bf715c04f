-- Sums over the numbers below n, and how many of them have a property. Assumes nothing.
use mathlib.Core.Path.{◌≡◌, refl, ap, subst}
use mathlib.Core.Logic.{◌⊎◌, inl, inr, ⊎_elim, ◌≢◌, ◌↔◌}
use Prim.Native.Nat.{ℕ, zero, suc, ◌+◌, ◌*◌, ◌<◌, ◌≤◌}
use native.Mathlib.Decide.{ℕ_discrete}
use native.Mathlib.Omega.{arith}

-- f 0 + f 1 + .. below n.
unfoldable pub sum : (ℕ → ℕ) → ℕ → ℕ
sum f zero = 0
sum f (suc n) = f n + sum f n

-- Sums of equal values.
pub sum_same : (f g : ℕ → ℕ) (n : ℕ) → ((y : ℕ) → y < n → g y ≡ f y) → sum g n ≡ sum f n
unfolding sum
sum_same f g zero h = refl
sum_same f g (suc n) h =
    let i = sum_same f g n (λ y l. h y (omega arith)) in
    let j = h n (omega arith) in
    omega arith

-- One value changes, and the sum by as much.
pub sum_put : (f g : ℕ → ℕ) (x n : ℕ) → x < n → ((y : ℕ) → y ≢ x → g y ≡ f y) → sum g n + f x ≡ sum f n + g x
unfolding sum
sum_put f g x zero l h = absurd (omega arith)
sum_put f g x (suc n) l h =
    elim (ℕ_discrete x n) [
      | yes r ↦ let i = sum_same f g n (λ y l. h y (omega arith)) in
          let a = ap f r in
          let b = ap g r in
          omega arith
      | no d ↦ let i = sum_put f g x n (omega arith) h in
          let j = h n (omega arith) in
          omega arith
    ]

-- Values of at most 2 add up to at most twice their number.
pub sum_le : (f : ℕ → ℕ) (n : ℕ) → ((y : ℕ) → f y ≤ 2) → sum f n ≤ n * 2
unfolding sum
sum_le f zero h = omega arith
sum_le f (suc n) h =
    let i = sum_le f n h in
    let j = h n in
    omega arith

-- Count P n c: c of the numbers below n have the property P.
pub data Count (P : ℕ → Type 0) : ℕ → ℕ → Type 0 where
  none : Count P 0 0
  hit : {n c : ℕ} → P n → Count P n c → Count P (suc n) (suc c)
  miss : {n c : ℕ} → ¬ P n → Count P n c → Count P (suc n) c

-- There is one such number.
pub count_one : {P Q : ℕ → Type 0} {n c d : ℕ} → ((x : ℕ) → P x ↔ Q x) → Count P n c → Count Q n d → c ≡ d
count_one e none none = refl
count_one e (hit p i) (hit q j) = ap suc (count_one e i j)
count_one e (hit {n = n} p i) (miss q j) = absurd (q ((e n).0 p))
count_one e (miss {n = n} p i) (hit q j) = absurd (p ((e n).1 q))
count_one e (miss p i) (miss q j) = count_one e i j

-- It is the number of any property with the same numbers.
pub count_map : {P Q : ℕ → Type 0} {n c : ℕ} → ((x : ℕ) → x < n → P x ↔ Q x) → Count P n c → Count Q n c
count_map e none = none
count_map e (hit {n = n} p i) = hit ((e n (omega arith)).0 p) (count_map (λ x l. e x (omega arith)) i)
count_map e (miss {n = n} p i) = miss (λ q. p ((e n (omega arith)).1 q)) (count_map (λ x l. e x (omega arith)) i)

-- It is at most n.
pub count_le : {P : ℕ → Type 0} {n c : ℕ} → Count P n c → c ≤ n
count_le none = omega arith
count_le (hit p i) = let l = count_le i in omega arith
count_le (miss p i) = let l = count_le i in omega arith

-- A test that says 1 or 0 counts.
pub count_sum : (P : ℕ → Type 0) (f : ℕ → ℕ) (n : ℕ) → ((x : ℕ) → x < n → (P x × (f x ≡ 1)) ⊎ ((¬ P x) × (f x ≡ 0))) → Count P n (sum f n)
unfolding sum
count_sum P f zero h = none
count_sum P f (suc n) h =
    let i = count_sum P f n (λ x l. h x (omega arith)) in
    elim (h n (omega arith)) [
      | inl p ↦ subst (Count P (suc n)) (omega arith) (hit p.0 i)
      | inr p ↦ subst (Count P (suc n)) (omega arith) (miss p.0 i)
    ]

-- Those of P, and those of Q that are not of P, are together those of either.
pub count_both : {P Q : ℕ → Type 0} {n c d : ℕ} → Count P n c → Count (λ x. (¬ P x) × Q x) n d → Count (λ x. P x ⊎ Q x) n (c + d)
count_both none none = none
count_both (hit p i) (hit q j) = absurd (q.0 p)
count_both {P} {Q} {d = d} (hit {n = n} {c = c} p i) (miss q j) = subst (Count (λ x. P x ⊎ Q x) (suc n)) (omega arith) (hit (inl p) (count_both i j))
count_both {P} {Q} {c = c} (miss {n = n} p i) (hit {c = d} q j) = subst (Count (λ x. P x ⊎ Q x) (suc n)) (omega arith) (hit (inr q.1) (count_both i j))
count_both (miss p i) (miss q j) = miss (⊎_elim p (λ h. q (p, h))) (count_both i j)
