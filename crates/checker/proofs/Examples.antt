-- Document 01's certificate for case a, and certificates that differ from it in one thing. Assumes nothing.
use mathlib.Core.List.{List, [], ◌∷◌, ◌++◌, map}
use mathlib.Core.Path.{◌≡◌, refl}
use Prim.Native.Nat.{ℕ}
use lib.ListN.{drop}
use Rattle.columns.specs.Column.{leading, column, row, digits_after, number, field, fields}
use Rattle.classes.specs.Class.{class_in, class_of}
use Rattle.grammar.specs.Refusal.{Checked, refused, accepted, checked}
use Rattle.grammar.specs.Rule.{rule_of}
use Rattle.grammar.specs.Sheet.{line_at, rule_within, open_line, not_lines, header_out, variable_out, condition, rule_order, sheet_order}
use Rattle.grammar.specs.Printing.{text}
use Rattle.schema.specs.Cases.{sheet_h, first_pair}
use Rattle.schema.specs.Derivation.{act_of}
use Rattle.schema.specs.Handed.{call_condition, handed_condition, handed_order}
use Rattle.schema.specs.Line.{Line, line, lines_bytes}
use Rattle.checker.specs.Checker.{line_at as certificateLine, follows, line_condition, certificate_condition, check_condition, lines_order, certificate_order, check_order, Claimed, succeeds, check}

-- A certificate's bytes, and what the checker is to make of them for case a.
pub record Example : Type 0 where
  pub bytes : List ℕ
  pub answer : Checked Claimed

abbrev example : List ℕ → Checked Claimed → Example
example bytes answer = record { bytes = bytes; answer = answer }

-- The first lines of document 01's certificate.
abbrev leaves : List Line
leaves = line 2 0 0 1 0 0 ∷ line 4 1 0 2 0 0 ∷ line 5 2 0 3 0 0 ∷ []

unfoldable pub examples : List Example
examples =
    -- Document 01's own.
    example (lines_bytes (leaves ++ line 3 1 0 3 2 3 ∷ line 1 0 0 3 1 4 ∷ [])) (accepted (succeeds 3))
    -- Another order, a line twice, and a line that is not needed.
    ∷ example (lines_bytes (line 5 2 0 3 0 0 ∷ line 4 1 0 2 0 0 ∷ line 6 0 1 0 0 0 ∷ line 3 1 0 3 2 1 ∷ line 3 1 0 3 2 1 ∷ line 2 0 0 1 0 0 ∷ line 1 0 0 3 6 4 ∷ []))
    (accepted (succeeds 3))
    -- A byte too few; a blank for the last line's end; a blank field.
    ∷ example (drop 1 (lines_bytes leaves)) (refused 12 0)
    ∷ example (lines_bytes leaves ++ column 8 3 ++ column 8 1 ++ column 8 0 ++ column 8 3 ++ column 8 2 ++ column 8 3 ++ 32 ∷ []) (refused 12 4)
    ∷ example (lines_bytes leaves ++ 32 ∷ 32 ∷ 32 ∷ 32 ∷ 32 ∷ 32 ∷ 32 ∷ 32 ∷ drop 8 (lines_bytes (line 3 1 0 3 2 3 ∷ []))) (refused 12 4)
    -- A line that refers to itself, to a later line, to none; a third field above 1; a leaf with called lines; no pair; another end.
    ∷ example (lines_bytes (leaves ++ line 3 1 0 3 2 4 ∷ line 1 0 0 3 1 4 ∷ [])) (refused 13 4)
    ∷ example (lines_bytes (leaves ++ line 1 0 0 3 1 5 ∷ line 3 1 0 3 2 3 ∷ [])) (refused 13 4)
    ∷ example (lines_bytes (leaves ++ line 3 1 0 3 2 0 ∷ [])) (refused 13 4)
    ∷ example (lines_bytes (leaves ++ line 6 0 2 0 0 0 ∷ [])) (refused 13 4)
    ∷ example (lines_bytes (leaves ++ line 2 0 0 1 1 0 ∷ [])) (refused 13 4)
    ∷ example (lines_bytes (leaves ++ line 7 0 0 1 0 0 ∷ [])) (refused 13 4)
    ∷ example (lines_bytes (leaves ++ line 3 1 0 2 2 3 ∷ [])) (refused 13 4)
    -- No lines; the last of another pair.
    ∷ example [] (refused 14 0)
    ∷ example (lines_bytes leaves) (refused 14 0)
    ∷ []

-- The definitions give each answer.
pub examples_hold : map (λ (e : Example). check (text sheet_h) (45 ∷ 54 ∷ 46 ∷ []) first_pair e.bytes) examples ≡ map (λ (e : Example). e.answer) examples
unfolding examples text leading column row lines_bytes digits_after number field fields line_at open_line not_lines header_out variable_out condition rule_order sheet_order
    rule_of rule_within call_condition handed_condition handed_order checked class_in class_of act_of certificateLine follows line_condition certificate_condition check_condition
    lines_order certificate_order check_order check
examples_hold = refl
