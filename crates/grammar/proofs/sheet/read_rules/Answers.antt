use mathlib.Core.Path.{◌≡◌, sym, ◌∙◌, ap}
use Prim.Native.Nat.{suc, ◌+◌, ◌-◌}
use native.Mathlib.Omega.{arith}
use Rattle.grammar.specs.Reading.{rules_say}
use Rattle.grammar.proofs.HandedOn.{handed_on}
use Rattle.grammar.proofs.Progress.{Accepted, remaining, line_accepted, line_refused, begins, goes_on, ends}
use Rattle.grammar.proofs.sheet.read_rules.Goals as goal

pub loop-line-init : goal.loop-line-init
loop-line-init c =
    let a = c.args in
    begins a.s.now a.variables a.count a.rules.now c.requires

pub returns-in_err-variable-clause-result_value : goal.returns-in_err-variable-clause-result_value
returns-in_err-variable-clause-result_value c =
    let l = c.loop-line in
    let a = c.args in
    let k : a.count + 1 - l.line ≡ suc (a.count - l.line) = omega arith in
    ap rules_say (handed_on c.from_residual.ensures.1)
    ∙ line_refused a.s.now l.line _ _ (a.count - l.line) c.in_err-variable.ensures
    ∙ ap (remaining a.s.now l.line) (sym k) ∙ l.invariant.rest

pub overflow_sub-rules : goal.overflow_sub-rules
overflow_sub-rules c =
    let l = c.loop-line in
    let a = c.args in
    let d : Accepted a.s.now l.line c.in_ok-variable.variable c.in_ok-variable.word = line_accepted a.s.now l.line _ _ c.in_ok-variable.ensures in
    let i = d.variable_in in
    omega arith

pub bounds-rules-variable : goal.bounds-rules-variable
bounds-rules-variable c =
    let l = c.loop-line in
    let r = c.requires in
    let a = c.args in
    let d : Accepted a.s.now l.line c.in_ok-variable.variable c.in_ok-variable.word = line_accepted a.s.now l.line _ _ c.in_ok-variable.ensures in
    let i = d.variable_in in
    omega (arith, r.variables_are, r.variables_few)

pub loop-line-preserved : goal.loop-line-preserved
loop-line-preserved c =
    let l = c.loop-line in
    let r = c.requires in
    let a = c.args in
    let d : Accepted a.s.now l.line c.in_ok-variable.variable c.in_ok-variable.word = line_accepted a.s.now l.line _ _ c.in_ok-variable.ensures in
    goes_on a.s.now a.count l.rules l.line l.before _ _ (omega (arith, r.variables_are, r.variables_few)) (omega arith) l.invariant d

pub returns-clause-result_value : goal.returns-clause-result_value
returns-clause-result_value c =
    let l = c.loop-line in
    (ends c.args.s.now c.args.count l.rules l.line l.before c.requires.count_is (omega arith) l.invariant).0
