use Rattle.std.proofs.Common.{◌+◌, arith}
use Rattle.grammar.specs.Words.{rule_in}
use Rattle.printing.proofs.Putting.{begins, goes_on_there, ends}
use Rattle.printing.proofs.put_rules.Goals as goal

pub loop-variable-init : goal.loop-variable-init
loop-variable-init c = begins (rule_in c.args.rules.now) c.args.variables c.args.out.now c.requires.room

pub put_rule-at-requires : goal.put_rule-at-requires
put_rule-at-requires c = let i = c.loop-variable.invariant in let r = i.room in let e = i.rest_is in omega arith

pub loop-variable-preserved : goal.loop-variable-preserved
loop-variable-preserved c =
    let a = c.args in
    let l = c.loop-variable in
    goes_on_there a.rules.now a.variables a.out.now l.out _ l.at _ l.variable c.loop-variable-test.true l.invariant c.put_rule-at.ensures

pub returns : goal.returns
returns c =
    let a = c.args in
    let l = c.loop-variable in
    ends (rule_in a.rules.now) a.variables a.out.now l.out l.at l.variable c.loop-variable-test.false l.invariant

pub returns-2 : goal.returns-2
returns-2 c =
    let a = c.args in
    let l = c.loop-variable in
    ends (rule_in a.rules.now) a.variables a.out.now c.put_rule-at.new.out c.put_rule-at.result (l.variable + 1) (omega arith)
    (goes_on_there a.rules.now a.variables a.out.now l.out _ l.at _ l.variable c.loop-variable-test.true l.invariant c.put_rule-at.ensures)
