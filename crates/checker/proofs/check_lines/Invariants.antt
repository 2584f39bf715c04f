use mathlib.Core.Path.{◌≡◌}
use Rattle.grammar.specs.Refusal.{accepted}
use Rattle.grammar.specs.Words.{rule_in}
use Rattle.checker.specs.Steps.{lines_found}
use Rattle.checker.proofs.check_lines.Given as goal

-- `check_lines` tests the lines in turn: those before pass. Assumes nothing.
abbrev pub invariant-loop-passed : goal.invariant-loop-passed
invariant-loop-passed l = accepted tt ≡ lines_found (rule_in l.system.rules.now) l.system.variables l.system.input.now l.certificate l.passed
