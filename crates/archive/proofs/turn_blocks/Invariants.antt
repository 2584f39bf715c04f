use Prim.Native.Nat.{◌+◌, ◌*◌}
use Rattle.archive.specs.Turn.{Turned}
use Rattle.archive.proofs.turn_blocks.Given as goal

abbrev pub invariant-loop-block : goal.invariant-loop-block
invariant-loop-block l = Turned l.rows l.columns l.first (l.first + l.block * l.width) l.source l.initial.target l.target
