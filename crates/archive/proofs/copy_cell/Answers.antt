use Rattle.archive.proofs.Turning.{copies_cell}
use Rattle.archive.proofs.copy_cell.Goals as goal

pub returns : goal.returns
returns c =
    let a = c.args in
    copies_cell a.source.now a.target.now a.from a.to c.load-cell.ensures.0 c.load-cell.ensures.1 c.store.ensures
