use Rattle.passes.specs.Passes.{Keeps}
use Rattle.passes.proofs.retain_row.Given as goal

abbrev pub invariant-loop-position : goal.invariant-loop-position
invariant-loop-position l = Keeps l.limit l.start l.position l.initial.table l.table
