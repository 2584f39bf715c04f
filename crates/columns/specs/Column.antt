-- Document 01, "The rule sheet": numbers in fixed columns, one definition for every width. Assumes nothing.
use Rattle.std.specs.Prelude as Prelude
use Rattle.std.specs.Prelude.{cond, ◌&&◌, List, [], ◌∷◌, ◌++◌, ℕ, zero, suc, ◌+◌, ◌-◌, ◌*◌, ◌/◌, ◌%◌, leb, eqb, length}
use Rattle.std.proofs.Math.Option.{Option, none, some, map}
use Rattle.std.proofs.Math.Seq.{slice}
use Rattle.columns.specs.declared.Cursor.{Cursor}

-- ---- What a field looks like: "right-justified in fixed columns: blanks (byte 32), then digits, no leading zero, zero written `0`".

-- The columns left of the last: a digit, or a blank where nothing of the number is left.
unfoldable pub leading : ℕ → ℕ → List ℕ
leading zero x = []
leading (suc w) x = leading w (x / 10) ++ cond (eqb x 0) 32 (48 + x % 10) ∷ []

-- The number x in w columns; of a number from 10 ^ w on, its last w digits.
unfoldable pub column : ℕ → ℕ → List ℕ
column zero x = []
column (suc w) x = leading w (x / 10) ++ (48 + x % 10) ∷ []

-- Fields of w columns one after another, and byte 10.
unfoldable pub row : ℕ → List ℕ → List ℕ
row w [] = 10 ∷ []
row w (x ∷ xs) = column w x ++ row w xs

-- ---- What is read: none where the bytes are not of that form.

-- The digits that are left, after those of the number v.
unfoldable pub digits_after : ℕ → List ℕ → Option ℕ
digits_after v [] = some v
digits_after v (b ∷ bs) = cond (leb 48 b && leb b 57) (digits_after (10 * v + (b - 48)) bs) none

-- A zero has no digit behind it.
abbrev pub zero_then : List ℕ → Option ℕ
zero_then [] = some 0
zero_then (b ∷ bs) = none

-- The number that these columns hold.
unfoldable pub number : List ℕ → Option ℕ
number [] = none
number (b ∷ bs) = cond (eqb b 32) (number bs) (cond (eqb b 48) (zero_then bs) (digits_after 0 (b ∷ bs)))

-- The field of w columns at a position; none also where the bytes end before it does.
unfoldable pub field : ℕ → List ℕ → ℕ → Option ℕ
field w s at = cond (leb (at + w) (length s)) (number (slice at (at + w) s)) none

-- A number before other numbers; none where either is none.
abbrev pub cons_to : Option ℕ → Option (List ℕ) → Option (List ℕ)
cons_to none xs = none
cons_to (some x) none = none
cons_to (some x) (some xs) = some (x ∷ xs)

-- k fields of w columns, each at the position after the one before.
unfoldable pub fields : ℕ → ℕ → List ℕ → ℕ → Option (List ℕ)
fields zero w s at = some []
fields (suc k) w s at = cons_to (field w s at) (fields k w s (at + w))

-- "Reading a field yields its number and the position of the next field."
abbrev pub reads : ℕ → List ℕ → ℕ → Option (ℕ × ℕ)
reads w s at = map (λ x. (x, at + w)) (field w s at)

-- What each case of the answer says.
abbrev pub told : Prelude.Option (ℕ × Cursor) → Option (ℕ × ℕ)
told (Prelude.Some (x, next)) = some (x, next.at)
told Prelude.None = none
