use mathlib.Core.Path.{subst}
use Rattle.schema.specs.Exported.{Fits}
use Rattle.finish.specs.Reply.{told}
use Rattle.reports.specs.Numbers.{reply_code}
use Rattle.entryreader.proofs.Reported.{answer_fits}
use Rattle.entryreader.proofs.entryreader_question.Goals as goal

pub map-requires : goal.map-requires
map-requires c =
    let a = c.args in
    let q = c.question-found in
    λ x e. subst (λ r. Fits reply_code (told r)) e (answer_fits a.sheet.now a.input.now a.variable a.position a.table.now q.new.table a.work.now q.new.work q.result q.ensures)
