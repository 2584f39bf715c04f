use mathlib.Core.Path.{refl}
use native.Mathlib.Omega.{arith}
use Rattle.grammar.specs.Words.{rule_in}
use Rattle.backtrack.proofs.Loop.{no_room, begins}
use Rattle.backtrack.proofs.run_rules.Goals as goal

pub returns-then-frames-lt3 : goal.returns-then-frames-lt3
returns-then-frames-lt3 c =
    let a = c.args in
    record {
      answer = no_room (rule_in a.system.rules.now) a.system.input.now a.frames.now a.variable a.position a.budget (omega arith);
      size = refl;
    }

pub loop-ending-init : goal.loop-ending-init
loop-ending-init c =
    let a = c.args in
    let first = c.put_frame in
    let k = first.auto.frames in
    begins a.system.rules.now a.system.input.now a.variable a.position a.budget first.new.frames a.frames.now (omega arith) (omega arith)
    (omega arith) first.ensures
