use mathlib.Core.Path.{sym}
use Rattle.archive.proofs.Moving.{turn_ready}
use Rattle.archive.proofs.turn_table.Goals as goal

pub turn-requires : goal.turn-requires
turn-requires c = turn_ready c.args.variables c.args.n c.args.source.now c.args.target.now c.requires (sym c.in_ok-admit.ensures)
