use Rattle.kept.specs.Kept.{retained}
use Rattle.passes.specs.Passes.{Starts}
use Rattle.passes.proofs.retain_rows.Given as goal

abbrev pub invariant-loop-row : goal.invariant-loop-row
invariant-loop-row l = Starts l.row l.n (retained l.limit l.n l.initial.table) l.initial.table l.table
