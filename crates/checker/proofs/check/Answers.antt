use mathlib.Core.Path.{◌∙◌}
use native.Mathlib.Omega.{arith}
use Rattle.grammar.proofs.HandedOn.{handed_on}
use Rattle.schema.specs.Derivation.{◌at◌}
use Rattle.rules.proofs.Admitted.{admitted, not_admitted}
use Rattle.checker.proofs.Certificate.{check_refused, check_judged}
use Rattle.checker.proofs.check.Goals as goal

-- `check` claims or refuses as the definitions say. Assumes nothing.
pub returns-in_err-grammar : goal.returns-in_err-grammar
returns-in_err-grammar c =
    let a = c.args in
    rw (handed_on c.from_residual.ensures.1)
    (check_refused a.sheet.now a.input.now (a.variable at a.position) a.certificate.now _ _
    (not_admitted _ _ _ _ _ _ _ c.admit.ensures _ c.in_err-grammar.was))

pub judge-requires : goal.judge-requires
judge-requires c =
    let t = admitted _ _ _ _ _ _ _ c.admit.ensures _ c.in_ok-grammar.was in
    let few = t.variables_few in
    let same = t.variables_are in
    (omega arith, t.input_short)

pub returns : goal.returns
returns c =
    let a = c.args in
    let t = admitted _ _ _ _ _ _ _ c.admit.ensures _ c.in_ok-grammar.was in
    c.judge.ensures
    ∙ check_judged a.sheet.now a.input.now (a.variable at a.position) a.certificate.now t.grammar t.rules_are t.variables_are t.accepts
