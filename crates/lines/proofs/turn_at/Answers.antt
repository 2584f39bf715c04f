use mathlib.Core.Path.{sym, ap, ◌∙◌}
use Rattle.rules.specs.Act.{told}
use Rattle.lines.specs.Turning.{of_leaf}
use Rattle.lines.proofs.Turning.{not_calls, calls_ready, turns_calls}
use Rattle.lines.proofs.turn_at.Goals as goal

pub returns-in_default : goal.returns-in_default
returns-in_default c = of_leaf (λ B C D e. not_calls c.act_at.result c.in_default.not-Calls B C D (c.act_at.ensures ∙ e))

pub turn_calls-requires : goal.turn_calls-requires
turn_calls-requires c =
    calls_ready c.requires (sym c.act_at.ensures ∙ ap told c.in-Calls.is)

pub returns : goal.returns
returns c =
    turns_calls c.requires (sym c.act_at.ensures ∙ ap told c.in-Calls.is) c.turn_calls.result c.turn_calls.ensures
