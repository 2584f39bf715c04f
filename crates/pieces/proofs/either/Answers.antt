use Rattle.pieces.proofs.either.Goals as goal

pub returns : goal.returns
returns c = c.with_rule.ensures _ c.call_word-code.ensures
