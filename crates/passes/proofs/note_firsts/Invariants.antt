use Rattle.passes.proofs.Looking.{RowsPassing}
use Rattle.passes.proofs.note_firsts.Given as goal

abbrev pub invariant-loop-row : goal.invariant-loop-row
invariant-loop-row l = RowsPassing l.n l.limit l.table l.first-items l.row
