-- Whether some number passes a test. Assumes nothing.
use mathlib.Core.Bool.{Bool, true, false, ◌||◌, true≢false}
use mathlib.Core.Path.{◌≡◌, refl, sym, ap, ap₂, ◌∙◌}
use Prim.Native.Nat.{ℕ, zero, suc, ◌+◌, ◌<◌}
use native.Mathlib.Decide.{ℕ_discrete}
use native.Mathlib.Numerals.{add-one}
use native.Mathlib.Omega.{arith}
use Rattle.grammar.proofs.Fitting.{neither_true}
use Rattle.kept.specs.Some.{some}

-- Where none passes the test, `some` is false;
pub some_none : (m : ℕ) (test : ℕ → Bool) → ((i : ℕ) → i < m → test i ≡ false) → some m test ≡ false
unfolding some
some_none zero test none = refl
some_none (suc m) test none = rw (some_none m test (λ i l. none i (omega arith)), none m (omega arith))

-- where it is false, each fails;
pub some_each : (m : ℕ) (test : ℕ → Bool) → some m test ≡ false → (i : ℕ) → i < m → test i ≡ false
unfolding some
some_each zero test e i l = absurd (omega arith)
some_each (suc m) test e i l =
    let both = neither_true (some m test) (test m) e in
    elim (ℕ_discrete i m) [
      | yes z ↦ ap test z ∙ both.1
      | no d ↦ some_each m test both.0 i (omega arith)
    ]

-- with one number more, it is the same or that one passes;
pub some_more : (m : ℕ) (test : ℕ → Bool) → some (m + 1) test ≡ (some m test || test m)
unfolding some
some_more m test = ap (λ (k : ℕ). some k test) (add-one m)

-- tests that are the same everywhere give the same;
pub some_same : (m : ℕ) (test other : ℕ → Bool) → ((i : ℕ) → test i ≡ other i) → some m test ≡ some m other
unfolding some
some_same zero test other same = refl
some_same (suc m) test other same = ap₂ ◌||◌ (some_same m test other same) (same m)

-- where one passes, it is true.
pub some_one : (m : ℕ) (test : ℕ → Bool) (i : ℕ) → i < m → test i ≡ true → some m test ≡ true
some_one m test i l e = go (some m test) refl
  where
    go : (b : Bool) → some m test ≡ b → some m test ≡ true
    go true f = f
    go false f = absurd (true≢false (sym e ∙ some_each m test f i l))
