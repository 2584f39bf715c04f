use lib.ListN.{length}
use Rattle.finish.proofs.Closing.{Closed}
use Rattle.finish.proofs.close.Given as goal

abbrev pub invariant-loop-word : goal.invariant-loop-word
invariant-loop-word l = Closed l.n l.variables l.outcome.0 l.outcome.1 l.depth l.fn.table l.table l.work (length l.yielded)
