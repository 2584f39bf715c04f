use mathlib.Core.Path.{refl}
use Rattle.cells.proofs.Cell.success.Goals as goal

pub returns : goal.returns
returns c = (refl, refl)
