use mathlib.Core.Path.{refl}
use Rattle.cells.proofs.Cell.load.Goals as goal

pub returns : goal.returns
returns c = (refl, refl)
