-- Document 02, order 1: the refusals of a text, 15, 16, 17 and 11. Assumes nothing.
use Rattle.std.specs.Prelude.{Bool, false, cond, List, [], ◌∷◌, ℕ, ◌+◌, ◌*◌, ltb, eqb}
use Rattle.grammar.specs.Order.{FirstHolds}
use Rattle.grammar.specs.Refusal.{Checked, refused, accepted, checked}
use Rattle.notation.specs.Text.{Line, allowance}
use Rattle.notation.specs.Scan.{lines_of}

-- "15 text empty, not of this form or with a letter defined twice, 16 nesting over 16, whichever comes first in the text":
-- the text is refused with this number.
abbrev pub refused_with : ℕ → Checked (List Line) → Bool
refused_with number (refused x l) = eqb x number
refused_with number (accepted ls) = false

-- The lines of a text; none where it is refused.
abbrev pub lines_in : Checked (List Line) → List Line
lines_in (refused x l) = []
lines_in (accepted ls) = ls

-- "17 the allowance is over 256"
abbrev pub allowance_over : List Line → Bool
allowance_over ls = ltb 256 (allowance ls)

-- "11 for an output under 26 times (allowance + 1)"
abbrev pub room_short : List Line → ℕ → Bool
room_short ls room = ltb room (26 * (allowance ls + 1))

-- The condition of a refusal by its number, of a text and an output of so many bytes; none of these has a line.
unfoldable pub text_condition : List ℕ → ℕ → ℕ → ℕ → Bool
text_condition s room number line =
    cond (eqb number 15) (refused_with 15 (lines_of s))
    (cond (eqb number 16) (refused_with 16 (lines_of s))
    (cond (eqb number 17) (allowance_over (lines_in (lines_of s)))
    (cond (eqb number 11) (room_short (lines_in (lines_of s)) room)
    false)))

-- "15 .., 16 ..; then 17 ..; then 11 .."
abbrev pub text_order : List (ℕ × ℕ)
text_order = (15, 0) ∷ (16, 0) ∷ (17, 0) ∷ (11, 0) ∷ []

-- The first condition that holds, of a text and an output of so many bytes, is that of the number x at the line l.
abbrev pub TextRefuses : List ℕ → ℕ → ℕ → ℕ → Type 0
TextRefuses s room x l = FirstHolds (text_condition s room) text_order x l

-- The lines of a text, for an output of so many bytes, or the first refusal.
unfoldable pub judged : List ℕ → ℕ → Checked (List Line)
judged s room = checked (text_condition s room) text_order (lines_in (lines_of s))
