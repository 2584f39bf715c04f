use mathlib.Core.Bool.{true, false}
use mathlib.Core.Path.{refl, ◌∙◌}
use Rattle.rules.proofs.RuleWords.{second_in_law}
use Rattle.step.proofs.Calls.{after_failure, after_success}
use Rattle.step.proofs.to_second.Goals as goal

pub returns-then-first : goal.returns-then-first
returns-then-first c =
    let a = c.args in
    (λ B C D e. after_failure C D _ _ _ c.if-first.true (c.second_of.ensures ∙ second_in_law a.rules.now a.x.variable B C D false e), refl, refl, refl)

pub returns : goal.returns
returns c =
    let a = c.args in
    (λ B C D e. after_success C D _ _ _ c.if-first.false (c.second_of-2.ensures ∙ second_in_law a.rules.now a.x.variable B C D true e), refl, refl, refl)
