-- The number and the line of each refusal (document 01, "Who can bring on which number"; document 02). Assumes nothing.
use Rattle.std.specs.Prelude.{ℕ, Result, Ok, Err}
use Rattle.grammar.specs.Refusal.{Checked, refused, accepted}
use Rattle.grammar.specs.declared.refusal.Refusal.{Refusal}
use Rattle.grammar.specs.declared.refusal.Refusal.TheVariants.{NotLines, Field, Header, Variables, RuleVariable, Rule, LongEntry, Variable, Place, Room, Output, Text, Nesting, Allowance, Corrected, Cell, Tables, Entries}

-- "A refusal returns its number"
abbrev pub number_of : Refusal → ℕ
number_of NotLines = 1
number_of (Field line) = 2
number_of Header = 3
number_of Variables = 3
number_of (RuleVariable line) = 4
number_of (Rule line) = 5
number_of LongEntry = 6
number_of Variable = 8
number_of Place = 9
number_of Room = 10
number_of Output = 11
number_of Text = 15
number_of Nesting = 16
number_of Allowance = 17
number_of Corrected = 18
number_of Cell = 19
number_of Tables = 20
number_of Entries = 21

-- "and a line (counted from 1, the one at fault, for 2 to 5 ..; else, or where no sheet is handed over, 0)"
abbrev pub line_of : Refusal → ℕ
line_of NotLines = 0
line_of (Field line) = line
line_of Header = 1
line_of Variables = 0
line_of (RuleVariable line) = line
line_of (Rule line) = line
line_of LongEntry = 0
line_of Variable = 0
line_of Place = 0
line_of Room = 0
line_of Output = 0
line_of Text = 0
line_of Nesting = 0
line_of Allowance = 0
line_of Corrected = 0
line_of Cell = 0
line_of Tables = 0
line_of Entries = 0

-- What a result says: what is answered, or the number and the line of its refusal.
abbrev pub checked_as : {A B : Type 0} → (A → B) → Result A Refusal → Checked B
checked_as says (Ok a) = accepted (says a)
checked_as says (Err e) = refused (number_of e) (line_of e)
