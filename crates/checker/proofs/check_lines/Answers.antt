use native.Mathlib.Omega.{arith}
use Rattle.grammar.specs.Words.{rule_in}
use Rattle.grammar.proofs.HandedOn.{handed_on}
use Rattle.checker.proofs.Progress.{refuses}
use Rattle.checker.proofs.check_lines.Goals as goal

pub returns-in_err-check_line : goal.returns-in_err-check_line
returns-in_err-check_line c =
    let a = c.args in
    let l = c.loop-passed in
    rw (handed_on c.from_residual.ensures.1) (refuses (rule_in a.system.rules.now) a.system.variables a.system.input.now a.certificate.now l.passed a.count _ _ (omega arith) l.invariant c.in_err-check_line.ensures)
