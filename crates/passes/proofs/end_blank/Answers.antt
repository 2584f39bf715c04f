use Rattle.passes.proofs.Looking.{end_begins}
use Rattle.passes.proofs.end_blank.Goals as goal

pub returns : goal.returns
returns c =
    let a = c.args in
    end_begins a.table.now a.start a.n c.block_blank.result c.if-n-lt-BLOCK.false c.block_blank.ensures
