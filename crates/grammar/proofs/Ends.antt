-- The ends of a sheet's lines. Assumes nothing.
use mathlib.Core.Path.{◌≡◌, refl, sym, ◌∙◌}
use mathlib.Core.Bool.{Bool, true, false, ◌||◌, true≢false}
use mathlib.Core.List.{List}
use Prim.Native.Nat.{ℕ, zero, suc, ◌+◌, ◌-◌, ◌*◌, ◌<◌}
use native.Mathlib.Omega.{arith}
use native.Mathlib.Numerals.{add-one}
use lib.Dec.{eqb}
use lib.ListN.{get_or}
use borrow.Author.Tests.{eqb-true, eqb-false, eq-eqb, ne_eqb}
use Rattle.grammar.specs.Sheet.{open_line}

pub no_lines : (s : List ℕ) → open_line s 0 ≡ false
unfolding open_line
no_lines s = refl

-- A line that is ended leaves the rest to be tested.
pub line_ended : (s : List ℕ) (k : ℕ) → open_line s k ≡ false → get_or s (26 * k + 25) 0 ≡ 10 → open_line s (k + 1) ≡ false
unfolding open_line
line_ended s k e f = rw (add-one k, e, eq-eqb (get_or s (26 * k + 25) 0) 10 f)

-- An open line is found among any more lines.
line_open : (s : List ℕ) (k : ℕ) → (get_or s (26 * k + 25) 0 ≡ 10 → ⊥) → open_line s (suc k) ≡ true
unfolding open_line
line_open s k f = rw (ne_eqb (get_or s (26 * k + 25) 0) 10 f) (go (open_line s k))
  where
    go : (b : Bool) → (b || true) ≡ true
    go true = refl
    go false = refl

stays_open : (s : List ℕ) (k j : ℕ) → open_line s k ≡ true → open_line s (j + k) ≡ true
unfolding open_line
stays_open s k zero e = let z : 0 + k ≡ k = omega arith in rw z e
stays_open s k (suc j) e =
    let z : suc j + k ≡ suc (j + k) = omega arith in
    rw (z, stays_open s k j e)

pub open_found : (s : List ℕ) (k count : ℕ) → k < count → (get_or s (26 * k + 25) 0 ≡ 10 → ⊥) → true ≡ open_line s count
open_found s k count h f =
    let z : (count - suc k) + suc k ≡ count = omega arith in
    sym (rw z at (stays_open s (suc k) (count - suc k) (line_open s k f)))

-- Where no line is open, each is ended.
pub all_ended : (s : List ℕ) (k count : ℕ) → k < count → open_line s count ≡ false → get_or s (26 * k + 25) 0 ≡ 10
all_ended s k count h e = go (eqb (get_or s (26 * k + 25) 0) 10) refl
  where
    go : (t : Bool) → eqb (get_or s (26 * k + 25) 0) 10 ≡ t → get_or s (26 * k + 25) 0 ≡ 10
    go true p = eqb-true (get_or s (26 * k + 25) 0) 10 p
    go false p = absurd (true≢false (open_found s k count h (eqb-false (get_or s (26 * k + 25) 0) 10 p) ∙ e))
