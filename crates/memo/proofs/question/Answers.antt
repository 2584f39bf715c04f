use mathlib.Core.Path.{ap}
use Rattle.grammar.proofs.HandedOn.{handed_on}
use Rattle.finish.specs.Reply.{told}
use Rattle.memo.proofs.Questioned.{refused_question, ask_ready, replies}
use Rattle.memo.proofs.question.Goals as goal

pub ask-requires : goal.ask-requires
ask-requires c =
    let a = c.args in
    ask_ready a.sheet.now a.input.now a.variable a.position a.table.now a.work.now c.admit_question.ensures c.in_ok-grammar.was

pub returns-in_err-grammar : goal.returns-in_err-grammar
returns-in_err-grammar c =
    let a = c.args in
    refused_question a.sheet.now a.input.now a.variable a.position a.table.now a.work.now c.admit_question.ensures c.in_err-grammar.was (ap told (handed_on c.from_residual.ensures.1))

pub returns : goal.returns
returns c =
    let a = c.args in
    replies a.sheet.now a.input.now a.variable a.position a.table.now a.work.now c.admit_question.ensures c.in_ok-grammar.was c.ask.ensures
