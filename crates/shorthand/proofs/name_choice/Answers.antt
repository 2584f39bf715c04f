use native.Mathlib.Omega.{arith}
use Rattle.shorthand.proofs.Lining.{names_one, names_none}
use Rattle.shorthand.proofs.name_choice.Goals as goal

pub returns-in-Some : goal.returns-in-Some
returns-in-Some c = names_one _ _ _ _ _ _ c.in-Some.ensures c.requires.0 c.call_word.ensures

pub returns-in_default : goal.returns-in_default
returns-in_default c = names_none _ _ _ _ (omega arith)
