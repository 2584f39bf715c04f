use Rattle.columns.proofs.Parts.{Reading}
use Rattle.columns.proofs.fields.Given as goal

abbrev pub invariant-loop-x : goal.invariant-loop-x
invariant-loop-x g l = Reading g.row.W g.row.N l.line l.x-items l.here l.x-index
