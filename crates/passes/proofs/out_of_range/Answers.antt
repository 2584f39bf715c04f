use mathlib.Core.Bool.{Bool, ◌&&◌, ◌||◌}
use mathlib.Core.Path.{ap₂}
use lib.Dec.{ltb}
use Rattle.passes.proofs.Looking.{four_below_success}
use Rattle.passes.proofs.out_of_range.Goals as goal

pub returns : goal.returns
returns c =
    let a = c.args in
    ap₂ (λ (b d : Bool). b || (d && ltb a.cell.1 a.position)) (four_below_success a.n a.position a.cell.0) c.is_result.ensures
