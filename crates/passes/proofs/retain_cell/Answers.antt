use Rattle.passes.proofs.Blanking.{stores_kept}
use Rattle.passes.proofs.retain_cell.Goals as goal

pub returns : goal.returns
returns c =
    let a = c.args in
    stores_kept a.limit a.index a.table.now c.load.ensures.0 c.load.ensures.1 c.kept_cell.ensures c.store.ensures
