use mathlib.Core.Path.{subst}
use Rattle.grammar.specs.Words.{rule_in}
use Rattle.lines.specs.Turning.{Turns}
use Rattle.writer.specs.Writing.{pair_at}
use Rattle.writer.proofs.Placing.{link_ready}
use Rattle.writer.proofs.advance.Goals as goal

pub link_down-requires : goal.link_down-requires
link_down-requires c =
    let a = c.args in
    let turns = subst (Turns (rule_in a.system.rules.now) a.system.input.now a.table.now a.work.now (pair_at a.x)) c.in-Down.is c.turn_at.ensures in
    link_ready c.requires turns
