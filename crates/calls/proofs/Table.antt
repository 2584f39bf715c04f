-- A table of marks, what it is to put a mark into it, what the walk has still to do, and how many cells are new. Assumes nothing.
use mathlib.Core.Bool.{true≢false}
use mathlib.Core.Path.{◌≡◌, refl, ap, ◌∙◌}
use mathlib.Core.Logic.{◌⊎◌, inl, inr, ◌≢◌}
use Prim.Native.Nat.{ℕ, ◌*◌, ◌<◌, ◌≤◌}
use native.Mathlib.Decide.{ℕ_discrete}
use native.Mathlib.Omega.{arith}
use Rattle.calls.proofs.Count.{sum, sum_put, sum_le, Count, count_sum}

-- A cell of the walk: blank, opened and not yet settled, or settled with a value.
pub data Mark (A : Type 0) : Type 0 where
  blank : Mark A
  opened : Mark A
  settled : A → Mark A

module _ {A : Type 0} where
  -- U is T with m at x.
  pub record Put (T : ℕ → Mark A) (x : ℕ) (m : Mark A) (U : ℕ → Mark A) : Type 0 where
    pub there : U x ≡ m
    pub others : (y : ℕ) → y ≢ x → U y ≡ T y

  abbrev choose : {B : Type 0} → Dec B → Mark A → Mark A → Mark A
  choose (yes b) m n = m
  choose (no d) m n = n

  choose_yes : {B : Type 0} (c : Dec B) (m n : Mark A) → B → choose c m n ≡ m
  choose_yes (yes b) m n h = refl
  choose_yes (no d) m n h = absurd (d h)

  choose_no : {B : Type 0} (c : Dec B) (m n : Mark A) → ¬ B → choose c m n ≡ n
  choose_no (yes b) m n h = absurd (h b)
  choose_no (no d) m n h = refl

  -- The table with m at x.
  unfoldable pub put : (ℕ → Mark A) → ℕ → Mark A → ℕ → Mark A
  put T x m y = choose (ℕ_discrete y x) m (T y)

  -- It is what `Put` says.
  pub put_puts : (T : ℕ → Mark A) (x : ℕ) (m : Mark A) → Put T x m (put T x m)
  unfolding put
  put_puts T x m = record { there = choose_yes (ℕ_discrete x x) m (T x) refl; others = λ y d. choose_no (ℕ_discrete y x) m (T y) d }

  -- A cell of U holds m if it is x, and else what T holds.
  pub put_cases : {T U : ℕ → Mark A} {x : ℕ} {m : Mark A} → Put T x m U → (y : ℕ) → ((y ≡ x) × (U y ≡ m)) ⊎ ((y ≢ x) × (U y ≡ T y))
  put_cases {U = U} {x = x} p y = elim (ℕ_discrete y x) [
    | yes r ↦ inl (r, ap U r ∙ p.there)
    | no d ↦ inr (d, p.others y d)
  ]

  -- ---- What the walk has still to do: two steps for a blank cell, one for an open one.

  -- The steps that a mark still costs.
  unfoldable pub cost : Mark A → ℕ
  cost blank = 2
  cost opened = 1
  cost (settled a) = 0

  cost_le : (m : Mark A) → cost m ≤ 2
  unfolding cost
  cost_le blank = omega arith
  cost_le opened = omega arith
  cost_le (settled a) = omega arith

  -- The cost of the first n cells,
  pub weight : (ℕ → Mark A) → ℕ → ℕ
  weight T n = sum (λ x. cost (T x)) n

  -- at most twice their number.
  pub weight_le : (T : ℕ → Mark A) (n : ℕ) → weight T n ≤ n * 2
  unfolding weight
  weight_le T n = sum_le (λ x. cost (T x)) n (λ x. cost_le (T x))

  -- The weight falls where a cell gets a cheaper mark.
  pub weight_falls : {T U : ℕ → Mark A} {x : ℕ} {m : Mark A} (n : ℕ) → x < n → Put T x m U → cost m < cost (T x) → weight U n < weight T n
  unfolding weight
  weight_falls {T = T} {U = U} {x = x} n l p f =
      let i = sum_put (λ y. cost (T y)) (λ y. cost (U y)) x n l (λ y d. ap cost (p.others y d)) in
      let j = ap cost p.there in
      omega arith

  -- ---- How many of the first n cells are blank in T and not in U.

  -- 1 for a cell that is new, else 0.
  unfoldable pub fresh : Mark A → Mark A → ℕ
  fresh blank blank = 0
  fresh blank opened = 1
  fresh blank (settled a) = 1
  fresh opened m = 0
  fresh (settled b) m = 0

  -- How many of the first n cells are new.
  unfoldable pub count_fresh : (ℕ → Mark A) → (ℕ → Mark A) → ℕ → ℕ
  count_fresh T U n = sum (λ x. fresh (T x) (U x)) n

  fresh_test : (l m : Mark A) → (((l ≡ blank) × (m ≢ blank)) × (fresh l m ≡ 1)) ⊎ ((¬ ((l ≡ blank) × (m ≢ blank))) × (fresh l m ≡ 0))
  unfolding fresh
  fresh_test blank blank = inr (λ h. h.1 refl, refl)
  fresh_test blank opened = inl ((refl, λ e. true≢false (cc)), refl)
  fresh_test blank (settled a) = inl ((refl, λ e. true≢false (cc)), refl)
  fresh_test opened m = inr (λ h. let e = h.0 in true≢false (cc), refl)
  fresh_test (settled b) m = inr (λ h. let e = h.0 in true≢false (cc), refl)

  -- It counts them.
  pub count_fresh_counts : (T U : ℕ → Mark A) (n : ℕ) → Count (λ x. (T x ≡ blank) × (U x ≢ blank)) n (count_fresh T U n)
  unfolding count_fresh
  count_fresh_counts T U n = count_sum (λ x. (T x ≡ blank) × (U x ≢ blank)) (λ x. fresh (T x) (U x)) n (λ x l. fresh_test (T x) (U x))
