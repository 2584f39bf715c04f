use native.Mathlib.Omega.{arith}
use Rattle.passes.proofs.Blanking.{keeps_more}
use Rattle.passes.proofs.retain_row.Goals as goal

pub loop-position-preserved : goal.loop-position-preserved
loop-position-preserved c =
    let m = c.requires.1 in
    let t = c.loop-position-test.true in
    keeps_more (omega arith) (omega arith) c.loop-position.invariant c.retain_cell.ensures
