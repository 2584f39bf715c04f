use mathlib.Core.Path.{refl}
use Rattle.schema.specs.Cells.{stored}
use Rattle.cells.proofs.Cell.store.Goals as goal

pub returns : goal.returns
unfolding stored
returns c = refl
