use mathlib.Core.Path.{refl}
use Rattle.schema.specs.Derivation.{missing, stopped}
use Rattle.backtrack.proofs.plan_of.Goals as goal

-- `plan_of` plans what comes next at stage 0. Assumes nothing.
pub returns-in-Missing : goal.returns-in-Missing
returns-in-Missing c = λ X i stack. (stopped missing, rw c.in-Missing.is, refl)
