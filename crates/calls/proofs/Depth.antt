-- A trail is no longer than there are cells, since no pair stands on it twice. Assumes nothing.
use mathlib.Core.Path.{◌≡◌, refl}
use mathlib.Core.Bool.{Bool, true, false, cond}
use mathlib.Core.Logic.{inl, inr}
use mathlib.Core.List.{List, [], ◌∷◌}
use Prim.Native.Nat.{ℕ, zero, suc, ◌+◌, ◌*◌, ◌≤◌, ◌<◌}
use native.Mathlib.Omega.{arith}
use lib.Dec.{eqb}
use lib.ListN.{length}
use borrow.Author.Tests.{eq-eqb, ne_eqb}
use Rattle.calls.proofs.Count.{sum, sum_put, sum_le}
use Rattle.calls.proofs.Follow.{In}
use Rattle.calls.proofs.System.{System}
use Rattle.calls.proofs.Table.{Mark}
use Rattle.calls.proofs.Trail.{Trail, bottom, start, push}

-- 2 for a number of the list, else 0.
unfoldable marks : List ℕ → ℕ → ℕ
marks [] i = 0
marks (y ∷ l) i = cond (eqb i y) 2 (marks l i)

marks_le : (l : List ℕ) (i : ℕ) → marks l i ≤ 2
unfolding marks
marks_le [] i = omega arith
marks_le (y ∷ l) i = go (eqb i y) (marks_le l i)
  where
    go : (b : Bool) → marks l i ≤ 2 → cond b 2 (marks l i) ≤ 2
    go true h = omega arith
    go false h = h

marks_none : (l : List ℕ) (i : ℕ) → ¬ In i l → marks l i ≡ 0
unfolding marks
marks_none [] i n = refl
marks_none (y ∷ l) i n = rw (ne_eqb i y (λ e. n (inl e))) (marks_none l i (λ m. n (inr m)))

sum_none : (n : ℕ) → sum (marks []) n ≡ 0
unfolding sum marks
sum_none zero = refl
sum_none (suc n) = let i = sum_none n in omega arith

-- One number more.
sum_more : (l : List ℕ) (y N : ℕ) → y < N → ¬ In y l → sum (marks (y ∷ l)) N ≡ sum (marks l) N + 2
unfolding marks
sum_more l y N b n =
    let e = sum_put (marks l) (marks (y ∷ l)) y N b (λ i d. rw (ne_eqb i y d)) in
    let z = marks_none l y n in
    let o : marks (y ∷ l) y ≡ 2 = rw (eq-eqb y y refl) in
    omega arith

module _ {A E : Type 0} (σ : System ℕ A E) {T : ℕ → Mark A} {root N : ℕ} where
  trail_sum : {s : List ℕ} → ((x : ℕ) → In x s → x < N) → Trail σ T root s → sum (marks s) N ≡ length s * 2
  trail_sum b bottom = sum_none N
  trail_sum b start = let e = sum_more [] root N (b root (inl refl)) (λ i. i) in let z = sum_none N in omega arith
  trail_sum b (push {x = x} {y = y} {s = s} t n l) =
      let e = sum_more (x ∷ s) y N (b y (inl refl)) n in
      let i = trail_sum (λ z m. b z (inr m)) t in
      omega arith

  pub trail_length : {s : List ℕ} → ((x : ℕ) → In x s → x < N) → Trail σ T root s → length s ≤ N
  trail_length {s} b t = let e = trail_sum b t in let l = sum_le (marks s) N (marks_le s) in omega arith
