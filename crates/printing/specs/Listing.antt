-- Document 01, "The rule sheet": how the lines of a sheet are put into an output. Assumes nothing.
use Rattle.std.specs.Prelude.{cond, List, [], ◌++◌, ◌≡◌, ℕ, ◌+◌, ◌*◌, ◌≤◌, length, take, drop, Option, Some, None}
use Rattle.columns.specs.Column.{row}
use Rattle.grammar.specs.Printing.{rule_numbers, printed, is_absent, rules_of}
use Rattle.grammar.specs.Rule.{Rule}

-- The numbers of the line of a variable, where it has a rule.
abbrev pub numbers_of : ℕ → Rule → Option (List ℕ)
numbers_of A r = cond (is_absent r) None (Some (rule_numbers A r))

-- The line of a variable, where it has a rule.
abbrev pub line_of : ℕ → Rule → List ℕ
line_of A r = cond (is_absent r) [] (row 5 (rule_numbers A r))

-- The output with these bytes from a position on, and nothing else changed.
unfoldable pub put : ℕ → List ℕ → List ℕ → List ℕ
put at bytes out = take at out ++ (bytes ++ drop (at + length bytes) out)

-- These bytes were put into the output; r is the position behind them.
pub record Puts (at : ℕ) (bytes out out' : List ℕ) (r : ℕ) : Type 0 where
  pub bytes_are : out' ≡ put at bytes out
  pub end_is : r ≡ at + length bytes

-- What the writer of a sheet asks for: an output with room for line 1 and a line for each variable.
pub record SheetReady (variables : ℕ) (out : List ℕ) : Type 0 where
  pub few : variables ≤ 256
  pub room : 26 * (variables + 1) ≤ length out

-- The sheet that is printed from the rules stands at the front of the output, and behind it what stood there; r is its length.
pub record SheetPut (variables start endmarker : ℕ) (rule : ℕ → Rule) (out out' : List ℕ) (r : ℕ) : Type 0 where
  pub bytes_are : out' ≡ printed variables start endmarker (rules_of variables rule) ++ drop r out
  pub length_is : r ≡ length (printed variables start endmarker (rules_of variables rule))
