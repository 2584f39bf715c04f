use Rattle.grammar.specs.Words.{rule_in}
use Rattle.printing.proofs.Putting.{Left}
use Rattle.printing.proofs.put_rules.Given as goal

abbrev pub invariant-loop-variable : goal.invariant-loop-variable
invariant-loop-variable l = Left (rule_in l.rules) l.variables l.initial.out l.out l.at l.variable
