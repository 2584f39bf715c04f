use mathlib.Core.Path.{sym, ap, ◌∙◌}
use Rattle.grammar.proofs.HandedOn.{handed_on}
use Rattle.finish.specs.Reply.{told}
use Rattle.correction.proofs.AskedFurther.{refused_first, passes, refused_range, asks, replies}
use Rattle.correction.proofs.unchanged.further.Goals as goal

pub returns-in_err-grammar : goal.returns-in_err-grammar
returns-in_err-grammar c =
    let a = c.args in
    refused_first a.sheet.now a.input.now a.variable a.position a.table.now a.work.now c.admit_question.ensures c.in_err-grammar.was
    (ap told (handed_on c.from_residual.ensures.1))

pub cells_out-requires : goal.cells_out-requires
cells_out-requires c =
    let a = c.args in
    passes a.sheet.now a.input.now a.variable a.position a.table.now a.work.now c.admit_question.ensures c.in_ok-grammar.was

pub returns-then-cells_out : goal.returns-then-cells_out
returns-then-cells_out c =
    let a = c.args in
    refused_range a.sheet.now a.input.now a.variable a.position a.table.now a.work.now c.admit_question.ensures c.in_ok-grammar.was
    (sym c.cells_out.ensures ∙ c.if-cells_out.true)

pub ask_over-requires : goal.ask_over-requires
ask_over-requires c =
    let a = c.args in
    asks a.sheet.now a.input.now a.variable a.position a.table.now a.work.now c.admit_question.ensures c.in_ok-grammar.was
    (sym c.cells_out.ensures ∙ c.if-cells_out.false)

pub returns : goal.returns
returns c =
    let a = c.args in
    replies a.sheet.now a.input.now a.variable a.position a.table.now a.work.now c.admit_question.ensures c.in_ok-grammar.was
    (sym c.cells_out.ensures ∙ c.if-cells_out.false) c.ask_over.ensures
