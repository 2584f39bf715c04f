use Rattle.grammar.specs.Words.{rule_in}
use Rattle.schema.specs.Derivation.{◌at◌}
use Rattle.opening.proofs.Sought.{Seeking}
use Rattle.opening.proofs.seek.Given as goal

abbrev pub invariant-loop-m : goal.invariant-loop-m
invariant-loop-m l = Seeking (rule_in l.system.rules.now) l.system.variables l.system.input.now (l.start at 0) l.initial.table l.table l.initial.work l.work l.m
