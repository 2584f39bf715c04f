use native.Mathlib.Omega.{arith}
use Rattle.grammar.specs.Words.{rule_in}
use Rattle.checker.proofs.Progress.{line_tests}
use Rattle.checker.proofs.check_line.Goals as goal

-- `check_line` tests a line for refusals 12 and 13. Assumes nothing.
pub returns-then-not-follows : goal.returns-then-not-follows
returns-then-not-follows c =
    let a = c.args in
    let e = line_tests (rule_in a.system.rules.now) a.system.variables a.system.input.now a.certificate.now a.n (omega arith) in
    rw e (grind arith)

pub returns : goal.returns
returns c =
    let a = c.args in
    let e = line_tests (rule_in a.system.rules.now) a.system.variables a.system.input.now a.certificate.now a.n (omega arith) in
    rw e (grind arith)
