use mathlib.Core.Path.{refl}
use native.Mathlib.Omega.{arith}
use Rattle.grammar.proofs.HandedOn.{handed_on}
use Rattle.rules.proofs.Admitted.{admitted, not_admitted}
use Rattle.backtrack.proofs.run.Goals as goal

-- `run` answers or refuses as the definitions say. Assumes nothing.
pub returns-in_err-grammar : goal.returns-in_err-grammar
returns-in_err-grammar c =
    rw (handed_on c.from_residual.ensures.1, not_admitted _ _ _ _ _ _ _ c.admit.ensures _ c.in_err-grammar.was) (refl, refl)

pub run_rules-requires : goal.run_rules-requires
run_rules-requires c =
    let t = admitted _ _ _ _ _ _ _ c.admit.ensures _ c.in_ok-grammar.was in
    let w = t.pair_within in
    let few = t.variables_few in
    (w.variable.0, omega arith, t.input_short)

pub returns : goal.returns
returns c =
    let t = admitted _ _ _ _ _ _ _ c.admit.ensures _ c.in_ok-grammar.was in
    rw (t.accepts, ← t.rules_are) c.run_rules.ensures
