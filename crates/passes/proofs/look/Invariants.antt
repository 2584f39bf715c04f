use Rattle.passes.proofs.Looking.{Looking}
use Rattle.passes.proofs.look.Given as goal

abbrev pub invariant-loop-position : goal.invariant-loop-position
invariant-loop-position l = Looking l.n l.limit l.table l.start l.from l.position l.out l.changes
