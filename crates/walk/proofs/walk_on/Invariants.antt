use lib.ListN.{length}
use Rattle.grammar.specs.Words.{rule_in}
use Rattle.schema.specs.Derivation.{◌at◌}
use Rattle.schema.specs.Table.{cells}
use Rattle.walk.specs.Walk.{before}
use Rattle.walk.proofs.Counting.{Counting}
use Rattle.walk.proofs.Stepping.{to_do}
use Rattle.walk.proofs.walk_on.Given as goal

abbrev pub invariant-loop-next : goal.invariant-loop-next
invariant-loop-next l = Counting (rule_in l.system.rules.now) l.system.input.now l.system.variables (l.variable at l.position) (before (length l.system.input.now) (l.variable at l.position) l.initial.table) l.initial.work l.initial.table l.table l.work l.x l.count

abbrev pub decreases-loop-next : goal.decreases-loop-next
decreases-loop-next l = to_do l.table (cells l.system.variables (length l.system.input.now)) l.x
