use Rattle.opening.proofs.Asked.{asked_other}
use Rattle.opening.proofs.loops.Goals as goal

pub returns-in_default : goal.returns-in_default
returns-in_default c = asked_other c.ask-answer.result c.ask-answer.ensures c.in_default.not-Loop
