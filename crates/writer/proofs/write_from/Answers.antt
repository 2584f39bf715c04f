use Rattle.writer.proofs.Going.{goes_first, may_step, goes_on, ends}
use Rattle.writer.proofs.write_from.Goals as goal

pub loop-next-init : goal.loop-next-init
loop-next-init c = goes_first c.requires

pub advance-requires : goal.advance-requires
advance-requires c = may_step c.requires c.loop-next.invariant

pub loop-next-smaller : goal.loop-next-smaller
loop-next-smaller c = (goes_on c.requires c.loop-next.invariant _ (rw c.in-Continue.is at c.advance.ensures)).1

pub loop-next-preserved : goal.loop-next-preserved
loop-next-preserved c = (goes_on c.requires c.loop-next.invariant _ (rw c.in-Continue.is at c.advance.ensures)).0

pub returns-in-Break : goal.returns-in-Break
returns-in-Break c = ends c.requires c.loop-next.invariant _ (rw c.in-Break.is at c.advance.ensures)
