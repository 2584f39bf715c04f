use Rattle.memo.proofs.Asked.{may_ask, asked}
use Rattle.memo.proofs.ask.Goals as goal

pub ask_over-requires : goal.ask_over-requires
ask_over-requires c = may_ask c.requires c.blank.ensures

pub returns : goal.returns
returns c = asked c.requires c.blank.ensures c.ask_over.ensures
