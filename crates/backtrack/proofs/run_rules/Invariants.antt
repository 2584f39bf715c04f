use Prim.Native.Nat.{◌-◌}
use Rattle.backtrack.proofs.Loop.{Head}
use Rattle.backtrack.proofs.run_rules.Given as goal

-- `run_rules` comes to what the machine comes to. Assumes nothing.
abbrev pub invariant-loop-ending : goal.invariant-loop-ending
invariant-loop-ending l = Head l.system.rules.now l.system.input.now l.variable l.position l.budget l.initial.frames l.frames l.x

abbrev pub decreases-loop-ending : goal.decreases-loop-ending
decreases-loop-ending l = l.budget - l.x.moves
