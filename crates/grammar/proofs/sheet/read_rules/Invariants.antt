use Rattle.grammar.proofs.Progress.{Progress}
use Rattle.grammar.proofs.sheet.read_rules.Given as goal

abbrev pub invariant-loop-line : goal.invariant-loop-line
invariant-loop-line l = Progress l.s l.fn.count l.rules l.line l.before
