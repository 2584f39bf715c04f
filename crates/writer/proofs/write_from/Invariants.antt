use lib.ListN.{length}
use Rattle.grammar.specs.Words.{rule_in}
use Rattle.schema.specs.Derivation.{◌at◌}
use Rattle.schema.specs.Table.{cells}
use Rattle.writer.specs.Writing.{pair_at}
use Rattle.writer.proofs.Marked.{to_do}
use Rattle.writer.proofs.Going.{Going}
use Rattle.writer.proofs.write_from.Given as goal

abbrev pub invariant-loop-next : goal.invariant-loop-next
invariant-loop-next l =
    Going (rule_in l.system.rules.now) l.system.input.now l.system.variables (l.variable at l.position) l.initial.work l.initial.out l.work l.out (pair_at l.x) l.x.lines

abbrev pub decreases-loop-next : goal.decreases-loop-next
decreases-loop-next l = to_do l.work (cells l.system.variables (length l.system.input.now))
