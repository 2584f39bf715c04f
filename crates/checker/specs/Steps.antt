-- What the steps of checking a certificate find. Assumes nothing.
use Rattle.std.specs.Prelude.{List, ℕ, ◌*◌, ◌≤◌, length}
use Rattle.std.specs.Prelude as Prelude
use Rattle.std.proofs.Math.Option.{Option, none, some}
use Rattle.grammar.specs.Refusal.{Checked, checked}
use Rattle.grammar.specs.Rule.{Rule}
use Rattle.schema.specs.Derivation.{Result, success, failure}
use Rattle.schema.specs.Line.{Line, line}
use Rattle.checker.specs.Checker.{line_condition, line_order, lines_order}
use Rattle.checker.specs.Rejections.{checked_as}
use Rattle.checker.specs.declared.Line.{Line as Held}
use Rattle.checker.specs.declared.Outcome.{Outcome}
use Rattle.checker.specs.declared.Outcome.TheVariants.{Success, Failure}
use Rattle.checker.specs.declared.Rejection.{Rejection}

-- The line that the code holds.
abbrev pub line_held : Held → Line
line_held l = line l.variable l.start l.outcome l.end l.first l.second

-- The line that was read, if it was of the form.
abbrev pub line_read : Prelude.Option Held → Option Line
line_read Prelude.None = none
line_read (Prelude.Some l) = some (line_held l)

-- The result that is given, if one is.
abbrev pub result_given : Prelude.Option Outcome → Option Result
result_given Prelude.None = none
result_given (Prelude.Some (Success q)) = some (success q)
result_given (Prelude.Some Failure) = some failure

-- What is known before line n is tested: there are few variables, the input is short, and the certificate has n lines.
pub record Sized (v : ℕ) (input s : List ℕ) (n : ℕ) : Type 0 where
  pub variables_few : v ≤ 256
  pub input_short : length input ≤ 4096
  pub lines_there : 49 * n ≤ length s

-- "each line for 12, 13": what the tests of one line, or of the first lines, say.
abbrev pub test_says : Prelude.Result (Unit {0}) Rejection → Checked (Unit {0})
test_says = checked_as (λ _. tt)

-- The first refusal of one line.
unfoldable pub line_found : (ℕ → Rule) → ℕ → List ℕ → List ℕ → ℕ → Checked (Unit {0})
line_found rule v input s n = checked (line_condition rule v input s) (line_order n) tt

-- The first refusal of the first k lines.
unfoldable pub lines_found : (ℕ → Rule) → ℕ → List ℕ → List ℕ → ℕ → Checked (Unit {0})
lines_found rule v input s k = checked (line_condition rule v input s) (lines_order k) tt
