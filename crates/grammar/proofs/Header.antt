-- What the numbers of line 1 make of it. Assumes nothing.
use mathlib.Core.Path.{◌≡◌, ap, sym, ◌∙◌}
use mathlib.Core.Bool.{Bool, true, false, cond, not, ◌&&◌}
use mathlib.Core.List.{List, [], ◌∷◌}
use mathlib.Core.Option.{none, some}
use Prim.Native.Nat.{ℕ, ◌*◌, ◌-◌, ◌≤◌, ◌<◌}
use native.Mathlib.Omega.{arith}
use lib.ListN.{get_or}
use borrow.Author.Tests.{not-true, not-false, le-leb, lt-leb}
use Rattle.columns.specs.Column.{fields}
use Rattle.grammar.specs.Refusal.{Checked, refused, accepted, checked}
use Rattle.grammar.specs.Rule.{within, unused}
use Rattle.grammar.specs.Sheet.{line_at, header_out, condition}
use Rattle.columns.specs.Scan.{held}
use Rattle.grammar.specs.Reading.{header_found}
use Rattle.std.specs.Prelude.{Option as Maybe}

-- The line whose fields were read.
pub line_read : (s : List ℕ) (line : ℕ) {at : ℕ} {r variant : Maybe (List ℕ)} → at ≡ 26 * (line - 1) → held r ≡ fields 5 5 s at → r ≡ variant → line_at s line ≡ held variant
unfolding line_at
line_read s line p e f = sym (ap (fields 5 5 s) p) ∙ sym e ∙ ap held f

-- What a test says of a condition.
pub fails : {r t : Bool} → r ≡ t → not r ≡ true → t ≡ false
fails {r} {t} e n = sym e ∙ not-true r n

pub passes : {r t : Bool} → r ≡ t → not r ≡ false → t ≡ true
passes {r} {t} e n = sym e ∙ not-false r n

pub byte_within : (x : ℕ) → x ≤ 255 → within 0 255 x ≡ true
byte_within x h = rw (le-leb 0 x (omega arith), le-leb x 255 h)

pub byte_without : (x : ℕ) → 255 < x → within 0 255 x ≡ false
byte_without x h = rw (le-leb 0 x (omega arith), lt-leb x 255 h)

-- Line 1 by the tests of its five numbers.
abbrev header_by : (a b c d e : Bool) → List ℕ → Checked (List ℕ)
header_by a b c d e xs = cond (not (a && b && c && d && e)) (refused 3 1) (accepted xs)

pub header_found_law : (s : List ℕ) {xs : List ℕ} {a b c d e : Bool} → line_at s 1 ≡ some xs
    → within 1 256 (get_or xs 0 0) ≡ a → within 1 (get_or xs 0 0) (get_or xs 1 0) ≡ b → within 0 255 (get_or xs 2 0) ≡ c
    → unused (get_or xs 3 0) ≡ d → unused (get_or xs 4 0) ≡ e
    → header_by a b c d e (get_or xs 0 0 ∷ get_or xs 1 0 ∷ get_or xs 2 0 ∷ []) ≡ header_found s
unfolding header_found checked condition header_out
header_found_law s line p q r t u = rw line (rw (p, q, r, t, u))

pub malformed_header : (s : List ℕ) → line_at s 1 ≡ none → refused 2 1 ≡ header_found s
unfolding header_found checked condition
malformed_header s e = rw e
