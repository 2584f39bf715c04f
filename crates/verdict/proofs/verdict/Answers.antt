use mathlib.Core.Path.{ap}
use Rattle.grammar.proofs.HandedOn.{handed_on}
use Rattle.verdict.specs.Verdict.{numbers}
use Rattle.verdict.proofs.Judged.{ask_ready, refused_verdict, judges}
use Rattle.verdict.proofs.verdict.Goals as goal

pub ask-answer-requires : goal.ask-answer-requires
ask-answer-requires c =
    let a = c.args in
    ask_ready a.sheet.now a.input.now a.table.now a.work.now c.admit_verdict.ensures c.in_ok-grammar.was

pub returns-in_err-grammar : goal.returns-in_err-grammar
returns-in_err-grammar c =
    let a = c.args in
    refused_verdict a.sheet.now a.input.now a.table.now a.work.now c.admit_verdict.ensures c.in_err-grammar.was (ap numbers (handed_on c.from_residual.ensures.1))

pub returns : goal.returns
returns c =
    let a = c.args in
    judges a.sheet.now a.input.now a.table.now a.work.now c.admit_verdict.ensures c.in_ok-grammar.was
    c.ask-answer.ensures c.judge.ensures
