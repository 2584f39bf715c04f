use Rattle.archive.specs.Turn.{BlockTurned}
use Rattle.archive.proofs.turn_block.Given as goal

abbrev pub invariant-loop-row : goal.invariant-loop-row
invariant-loop-row l = BlockTurned l.rows l.columns l.column l.width l.start l.row l.source l.initial.target l.target
