-- The length of lines of a certificate. Assumes nothing.
use mathlib.Core.List.{List, [], ◌∷◌}
use mathlib.Core.Path.{◌≡◌, refl, ◌∙◌}
use Prim.Native.Nat.{◌*◌}
use native.Mathlib.Omega.{arith}
use lib.ListN.{length, length-append}
use Rattle.columns.proofs.Rows.{row_length}
use Rattle.schema.specs.Line.{Line, line, line_bytes, lines_bytes}

-- A line has 49 bytes.
pub line_length : (l : Line) → length (line_bytes l) ≡ 49
line_length (line A p flag e i j) = row_length 8 (A ∷ p ∷ flag ∷ e ∷ i ∷ j ∷ [])

-- So lines have 49 each.
pub lines_length : (ls : List Line) → length (lines_bytes ls) ≡ 49 * length ls
unfolding lines_bytes
lines_length [] = refl
lines_length (l ∷ ls) = length-append (line_bytes l) (lines_bytes ls) ∙ omega (arith, line_length l, lines_length ls)
