use mathlib.Core.Path.{subst}
use Rattle.schema.specs.Exported.{Fits}
use Rattle.finish.specs.Reply.{told}
use Rattle.reports.specs.Numbers.{reply_code}
use Rattle.entryreader.proofs.Reported.{correction_fits}
use Rattle.entryreader.proofs.entryreader_correct.Goals as goal

pub map-requires : goal.map-requires
map-requires c =
    let a = c.args in
    let q = c.correct-found in
    λ x e. subst (λ r. Fits reply_code (told r)) e (correction_fits a.sheet.now a.old.now a.input.now a.variable a.position a.c a.table.now q.new.table a.work.now q.new.work q.result q.ensures)
