-- Document 01, "The rule sheet", with refusals 1 to 5. Assumes nothing.
use Rattle.std.specs.Prelude.{Bool, true, false, cond, not, ◌&&◌, ◌||◌, List, [], ◌∷◌, ◌++◌, ℕ, zero, suc, ◌+◌, ◌-◌, ◌*◌, ◌/◌, ◌%◌, ltb, leb, eqb, length, get_or}
use Rattle.std.proofs.Math.Option
use Rattle.std.proofs.Math.Option.{Option, none, some}
use Rattle.columns.specs.Column.{fields}
use Rattle.grammar.specs.Refusal.{Checked, checked}
use Rattle.grammar.specs.Rule.{Rule, absent, within, unused, rule_of}

-- ---- Lines, counted from 1.

-- "A sheet line is five fields of 5 columns and byte 10, so 26 bytes."
abbrev pub lines : List ℕ → ℕ
lines s = length s / 26

-- The five numbers of a line, if its fields are of the form.
unfoldable pub line_at : List ℕ → ℕ → Option (List ℕ)
line_at s line = fields 5 5 s (26 * (line - 1))

-- Nothing is there.
abbrev pub is_none : {A : Type 0} → Option A → Bool
is_none none = true
is_none (some a) = false

-- The number in field i, from 0, of a line; 0 where the line is not of the form.
abbrev pub number_at : List ℕ → ℕ → ℕ → ℕ
number_at s line i = get_or (Option.get_or (line_at s line) []) i 0

-- ---- "Line 1: V, the count of variables (1 to 256); the start variable (1 to V); the endmarker byte (0 to 255); 0; 0."

-- "V, the count of variables"
abbrev pub variables_of : List ℕ → ℕ
variables_of s = number_at s 1 0

-- "the start variable"
abbrev pub start_of : List ℕ → ℕ
start_of s = number_at s 1 1

-- "the endmarker byte"
abbrev pub endmarker_of : List ℕ → ℕ
endmarker_of s = number_at s 1 2

-- ---- "Each further line: variable (rising), kind, three operands."

-- The variable of a line.
abbrev pub variable_at : List ℕ → ℕ → ℕ
variable_at s line = number_at s line 0

-- The variable of the line before. Line 2 comes after line 1, which has none: 0.
abbrev pub variable_before : List ℕ → ℕ → ℕ
variable_before s line = cond (eqb line 2) 0 (variable_at s (line - 1))

-- The rule of a line, if its kind and operands fit.
abbrev pub rule_at : List ℕ → ℕ → Option Rule
rule_at s line = rule_of (variables_of s) (number_at s line 1) (number_at s line 2) (number_at s line 3) (number_at s line 4)

-- The rule of variable A on the first k lines after line 1. "A variable with no line has no rule."
unfoldable pub rule_within : List ℕ → ℕ → ℕ → Rule
rule_within s zero A = absent
rule_within s (suc k) A = cond (eqb A (variable_at s (k + 2))) (Option.get_or (rule_at s (k + 2)) absent) (rule_within s k A)

-- What a sheet says: V, the start variable, the endmarker byte, and the rule of each variable.
pub record Grammar : Type 0 where
  pub variables : ℕ
  pub start : ℕ
  pub endmarker : ℕ
  pub rule : ℕ → Rule

-- What these bytes say, read as a sheet.
abbrev pub grammar_of : List ℕ → Grammar
grammar_of s = record { variables = variables_of s; start = start_of s; endmarker = endmarker_of s; rule = rule_within s (lines s - 1) }

-- ---- The conditions of refusals 1 to 5.

-- "a line without byte 10 at its end", among the first k lines.
unfoldable pub open_line : List ℕ → ℕ → Bool
open_line s zero = false
open_line s (suc k) = open_line s k || not (eqb (get_or s (26 * k + 25) 0) 10)

-- "1, length 0, not a multiple of 26, over 257 lines, or a line without byte 10 at its end"
unfoldable pub not_lines : List ℕ → Bool
not_lines s = eqb (length s) 0 || not (eqb (length s % 26) 0) || ltb 257 (lines s) || open_line s (lines s)

-- "2, a field not as above"
abbrev pub malformed : List ℕ → ℕ → Bool
malformed s line = is_none (line_at s line)

-- "3, line 1 out of range or its last two fields not 0"
unfoldable pub header_out : List ℕ → Bool
header_out s =
    not (within 1 256 (variables_of s) && within 1 (variables_of s) (start_of s) && within 0 255 (endmarker_of s)
    && unused (number_at s 1 3) && unused (number_at s 1 4))

-- "4, variable not in 1 to V or not above the line before"
unfoldable pub variable_out : List ℕ → ℕ → Bool
variable_out s line = not (within 1 (variables_of s) (variable_at s line)) || leb (variable_at s line) (variable_before s line)

-- "5, kind over 4 or operands not fitting"
abbrev pub rule_out : List ℕ → ℕ → Bool
rule_out s line = is_none (rule_at s line)

-- The condition of a refusal by its number, at a line.
unfoldable pub condition : List ℕ → ℕ → ℕ → Bool
condition s number line =
    cond (eqb number 1) (not_lines s)
    (cond (eqb number 2) (malformed s line)
    (cond (eqb number 3) (header_out s)
    (cond (eqb number 4) (variable_out s line)
    (cond (eqb number 5) (rule_out s line)
    false))))

-- ---- "Order: 1 over the sheet; line 1 for 2, 3; each next line for 2, 4, 5": numbers, each with its line.

-- "line 1 for 2, 3"
abbrev pub header_order : List (ℕ × ℕ)
header_order = (2, 1) ∷ (3, 1) ∷ []

-- "each next line for 2, 4, 5"
abbrev pub line_order : ℕ → List (ℕ × ℕ)
line_order line = (2, line) ∷ (4, line) ∷ (5, line) ∷ []

-- k lines from this one on.
unfoldable pub rule_order : ℕ → ℕ → List (ℕ × ℕ)
rule_order line zero = []
rule_order line (suc k) = line_order line ++ rule_order (suc line) k

-- All refusals of a sheet, in their order.
unfoldable pub sheet_order : List ℕ → List (ℕ × ℕ)
sheet_order s = (1, 0) ∷ header_order ++ rule_order 2 (lines s - 1)

-- The grammar that a sheet describes, or its first refusal.
unfoldable pub sheet : List ℕ → Checked Grammar
sheet s = checked (condition s) (sheet_order s) (grammar_of s)
