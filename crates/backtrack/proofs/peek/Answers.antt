use mathlib.Core.Path.{◌∙◌}
use Prim.Native.Nat.{◌-◌, ◌*◌}
use native.Mathlib.Omega.{arith}
use lib.ListN.{get_or}
use Rattle.grammar.specs.Words.{rule_in}
use Rattle.rules.proofs.RuleWords.{second_in_law}
use Rattle.rules.specs.Act.{told}
use Rattle.backtrack.proofs.Plans.{sound_top, right_stage0, right_stage1}
use Rattle.backtrack.proofs.peek.Goals as goal

-- `peek` plans the machine's next step. Assumes nothing.
pub returns-in-0 : goal.returns-in-0
returns-in-0 c =
    let a = c.args in
    right_stage0 (rule_in a.system.rules.now) a.system.input.now a.frames.now a.x.position a.x.moves a.x.depth a.x.flag
    (told c.act_at.result) c.plan_of.result (omega arith) c.in-0.is c.act_at.ensures
    c.plan_of.ensures

pub returns-in-1 : goal.returns-in-1
returns-in-1 c =
    let a = c.args in
    let t = sound_top (rule_in a.system.rules.now) a.frames.now a.x.depth (omega arith) c.requires.1.sound in
    let k = t.called c.in-1.is in
    right_stage1 (rule_in a.system.rules.now) a.system.input.now a.frames.now a.x.position a.x.moves a.x.depth a.x.flag
    c.second_of-called.result c.back-position.result (omega arith) c.in-1.is k
    (c.second_of-called.ensures ∙ second_in_law a.system.rules.now (get_or a.frames.now ((a.x.depth - 1) * 3) 0) k.0 k.1 k.2 a.x.flag k.3) c.back-position.ensures
