use mathlib.Core.Path.{subst}
use Rattle.schema.specs.Exported.{Fits}
use Rattle.writer.specs.Writer.{told}
use Rattle.reports.specs.Numbers.{reply_code}
use Rattle.reports.proofs.Fitting.{writer_fits}
use Rattle.reports.proofs.report_write.Goals as goal

pub map-requires : goal.map-requires
map-requires c =
    let a = c.args in
    let k = c.write-written in
    λ x e. subst (λ r. Fits reply_code (told r)) e
    (writer_fits a.sheet.now a.input.now a.variable a.position a.table.now k.new.table a.work.now k.new.work a.out.now k.new.out k.result k.ensures)
