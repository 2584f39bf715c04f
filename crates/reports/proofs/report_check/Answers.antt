use mathlib.Core.Path.{subst}
use Rattle.schema.specs.Exported.{Fits}
use Rattle.checker.specs.Checker.{told}
use Rattle.reports.specs.Numbers.{claim_code}
use Rattle.reports.proofs.Fitting.{check_fits}
use Rattle.reports.proofs.report_check.Goals as goal

pub map-requires : goal.map-requires
map-requires c = λ x e. subst (λ r. Fits claim_code (told r)) e (check_fits _ _ _ _ _ c.check-found.result c.check-found.ensures)
