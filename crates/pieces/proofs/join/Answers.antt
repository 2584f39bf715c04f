use Rattle.pieces.proofs.Storing.{joined_alone, joined_put}
use Rattle.pieces.proofs.join.Goals as goal

pub returns-then-row-always : goal.returns-then-row-always
returns-then-row-always c number =
    let a = c.args in
    joined_alone number a.always _ a.row.variable a.item a.rules.now c.if-row-always.true c.requires.2

pub returns : goal.returns
returns c number =
    let a = c.args in
    joined_put number a.always _ a.row.variable a.item.variable c.if-row-always.false (c.with_rule.ensures _ c.call_word-code.ensures)
