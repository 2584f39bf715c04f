use mathlib.Core.Path.{subst}
use Rattle.schema.specs.Exported.{Fits}
use Rattle.backtrack.specs.Run.{told}
use Rattle.test_calls.specs.Numbers.{ran_code}
use Rattle.test_calls.proofs.Fitting.{run_fits}
use Rattle.test_calls.proofs.test_run.Goals as goal

pub map-requires : goal.map-requires
map-requires c =
    let a = c.args in
    let k = c.run-found in
    λ x e. subst (λ r. Fits ran_code (told r)) e
    (run_fits a.sheet.now a.input.now a.variable a.position a.frames.now k.new.frames a.budget k.result k.ensures)
