use Prim.Native.Nat.{◌+◌}
use Rattle.grammar.specs.Rule.{call}
use native.Mathlib.Omega.{arith}
use mathlib.Core.Path.{sym, ◌∙◌}
use Rattle.pieces.proofs.Storing.{in_round, in_square}
use Rattle.pieces.proofs.in_brackets.Goals as goal

pub returns-then-closing-eq41 : goal.returns-then-closing-eq41
returns-then-closing-eq41 c number k e =
    let a = c.args in
    in_round number a.always _ a.at k a.choice a.rules.now (sym c.if-closing-eq41.true ∙ e) c.requires.1

pub call_word-again-requires : goal.call_word-again-requires
call_word-again-requires c =
    let a = c.args in
    let m = c.with_rule-refused.ensures (call a.choice.variable (a.always + 1) a.always) c.call_word-code.ensures in
    let f = m.few.variable_few in
    omega arith

pub with_rule-requires : goal.with_rule-requires
with_rule-requires c =
    let a = c.args in
    (c.with_rule-refused.ensures (call a.choice.variable (a.always + 1) a.always) c.call_word-code.ensures).few

pub returns : goal.returns
returns c number k e =
    let a = c.args in
    in_square number a.always _ a.at k a.choice c.with_rule-refused.result _ a.rules.now _ _ (λ o. c.if-closing-eq41.false (e ∙ sym o))
    (c.with_rule-refused.ensures _ c.call_word-code.ensures) (c.with_rule.ensures _ c.call_word-again.ensures)
