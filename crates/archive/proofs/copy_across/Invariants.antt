use Rattle.archive.specs.Turn.{Across}
use Rattle.archive.proofs.copy_across.Given as goal

abbrev pub invariant-loop-k : goal.invariant-loop-k
invariant-loop-k l = Across l.rows l.width l.start l.row l.from l.k l.source l.initial.target l.target
