-- The number and the line of each refusal of the checker (document 01, "The maker of a reading"). Assumes nothing.
use Rattle.std.specs.Prelude.{ℕ, Result, Ok, Err}
use Rattle.grammar.specs.Numbers as question
use Rattle.grammar.specs.Refusal.{Checked, refused, accepted}
use Rattle.checker.specs.declared.Rejection.{Rejection}
use Rattle.checker.specs.declared.Rejection.TheVariants.{Refused, ReadingForm, ReadingLine, ReadingPair}

-- Those of the question, and "12, length not a multiple of 49 (line 0), or a field or line end not of that form"; "13, a line that doesn't follow";
-- "14, no lines, or the last is another pair".
abbrev pub number_of : Rejection → ℕ
number_of (Refused r) = question.number_of r
number_of (ReadingForm line) = 12
number_of (ReadingLine line) = 13
number_of ReadingPair = 14

-- The line of the sheet or of the certificate that is at fault, or 0.
abbrev pub line_of : Rejection → ℕ
line_of (Refused r) = question.line_of r
line_of (ReadingForm line) = line
line_of (ReadingLine line) = line
line_of ReadingPair = 0

-- What a result says: what is answered, or the number and the line of its refusal.
abbrev pub checked_as : {A B : Type 0} → (A → B) → Result A Rejection → Checked B
checked_as says (Ok a) = accepted (says a)
checked_as says (Err e) = refused (number_of e) (line_of e)
