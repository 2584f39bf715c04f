use Rattle.passes.specs.Passes.{BlankIf}
use Rattle.passes.proofs.block_blank.Given as goal

abbrev pub invariant-loop-i : goal.invariant-loop-i
invariant-loop-i l = BlankIf l.blank l.table l.start l.i
