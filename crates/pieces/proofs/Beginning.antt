-- The rules before the first line: E and F. Assumes nothing.
use mathlib.Core.List.{List}
use mathlib.Core.Path.{◌≡◌, refl}
use Prim.Native.Nat.{ℕ, ◌+◌, ◌-◌, ◌≤◌}
use native.Mathlib.Omega.{arith}
use lib.ListN.{set}
use Rattle.grammar.specs.Rule.{absent, always, never}
use Rattle.grammar.specs.Words.{word, words}
use Rattle.notation.specs.Emit.{with, at_first}
use Rattle.pieces.specs.Store.{Stored}
use Rattle.pieces.proofs.Storing.{words_with}

-- The words of E and F, behind v letters, where no variable had a rule.
pub first_stored : (v : ℕ) (ws : List ℕ) → v + 2 ≤ 256 → ws ≡ words (λ A. absent) → Stored (at_first v) (v + 2) (set (set ws v (word always)) (v + 1) (word never))
first_stored v ws l is =
    let e : v + 1 - 1 ≡ v = omega arith in
    let f : v + 2 - 1 ≡ v + 1 = omega arith in
    let one = rw e at (words_with (λ A. absent) (v + 1) always ws (word always) (omega arith) (omega arith) refl is) in
    (omega arith, λ few. rw f at (words_with (with (λ A. absent) (v + 1) always) (v + 2) never (set ws v (word always)) (word never) (omega arith) (omega arith) refl one))
