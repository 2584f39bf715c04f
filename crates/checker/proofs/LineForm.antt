-- Reading a line of a certificate: its end, and its fields. Assumes nothing.
use mathlib.Core.Path.{◌≡◌, refl}
use mathlib.Core.Bool.{Bool, true, false, cond}
use mathlib.Core.List.{List}
use mathlib.Core.Option.{Option, none}
use Prim.Native.Nat.{ℕ, zero, suc, ◌+◌, ◌-◌, ◌*◌, ◌≤◌, ◌<◌}
use native.Mathlib.Omega.{arith}
use lib.Dec.{eqb, ltb}
use lib.ListN.{get_or}
use borrow.Author.Tests.{lt-ltb, le-ltb}
use Rattle.columns.specs.Column.{fields}
use Rattle.schema.specs.Line.{Line}
use Rattle.checker.specs.Checker.{line_from, line_at, earlier_line}

-- The line of a number: that of its fields, if it ends with byte 10.
pub line_form : (s : List ℕ) (n : ℕ) → 1 ≤ n → line_at s n ≡ cond (eqb (get_or s (49 * (n - 1) + 48) 0) 10) (line_from (fields 6 8 s (49 * (n - 1)))) none
unfolding line_at
line_form s zero l = absurd (omega arith)
line_form s (suc k) l = let z : suc k - 1 ≡ k = omega arith in rw z

-- A line of a smaller number is an earlier line; no earlier line has the number n or a greater one, or the number 0.
pub is_earlier : (s : List ℕ) (n i : ℕ) → i < n → earlier_line s n i ≡ line_at s i
is_earlier s n i l = rw (lt-ltb i n l)

pub not_earlier : (s : List ℕ) (n i : ℕ) → n ≤ i → earlier_line s n i ≡ none
not_earlier s n i l = rw (le-ltb i n l)

pub no_line : (s : List ℕ) (n : ℕ) → earlier_line s n 0 ≡ none
unfolding line_at
no_line s n = go (ltb 0 n)
  where
    go : (b : Bool) → ◌≡◌ {A = Option Line} (cond b none none) none
    go true = refl
    go false = refl
