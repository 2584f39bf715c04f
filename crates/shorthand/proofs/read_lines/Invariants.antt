use Prim.Native.Nat.{◌-◌}
use lib.ListN.{length}
use Rattle.pieces.specs.Store.{number_held}
use Rattle.shorthand.proofs.Going.{Going}
use Rattle.shorthand.proofs.read_lines.Given as goal

abbrev pub invariant-loop-here : goal.invariant-loop-here
invariant-loop-here l = Going (number_held l.source.numbers.now) l.source.always l.source.text.now l.initial.here l.initial.rules l.here l.lines l.rules

abbrev pub decreases-loop-here : goal.decreases-loop-here
decreases-loop-here l = length l.source.text.now - l.here.at
