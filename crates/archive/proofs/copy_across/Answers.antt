use Rattle.archive.proofs.Turning.{across_goes_on}
use Rattle.archive.proofs.copy_across.Goals as goal

pub loop-k-preserved : goal.loop-k-preserved
loop-k-preserved c = across_goes_on c.requires c.loop-k.invariant c.loop-k-test.true c.copy_cell.ensures
