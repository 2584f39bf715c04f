use mathlib.Core.Path.{ap}
use Rattle.grammar.proofs.HandedOn.{handed_on}
use Rattle.memo.proofs.Ready.{few_short}
use Rattle.schema.specs.Derivation.{◌at◌}
use Rattle.schema.specs.Handed.{question_of}
use lib.ListN.{length}
use Rattle.writer.specs.Writer.{told, lines_in}
use Rattle.writer.proofs.WriterQuestioned.{writer_refused, writer_output, write_ready, writer_replies}
use Rattle.writer.proofs.write.Goals as goal

pub output_too_small-requires : goal.output_too_small-requires
output_too_small-requires c =
    let a = c.args in
    few_short a.sheet.now (question_of a.input.now (a.variable at a.position) (length a.table.now) (length a.work.now)) c.admit_question.ensures c.in_ok-grammar.was

pub returns-then-output_too_small : goal.returns-then-output_too_small
returns-then-output_too_small c =
    let a = c.args in
    writer_output a.sheet.now a.input.now a.variable a.position a.table.now a.work.now a.out.now c.admit_question.ensures c.in_ok-grammar.was c.output_too_small.ensures c.if-output_too_small.true

pub ask_and_write-requires : goal.ask_and_write-requires
ask_and_write-requires c =
    let a = c.args in
    write_ready a.sheet.now a.input.now a.variable a.position a.table.now a.work.now a.out.now c.admit_question.ensures c.in_ok-grammar.was c.output_too_small.ensures c.if-output_too_small.false

pub returns-in_err-grammar : goal.returns-in_err-grammar
returns-in_err-grammar c =
    let a = c.args in
    let e = handed_on c.from_residual.ensures.1 in
    writer_refused a.sheet.now a.input.now a.variable a.position a.table.now a.work.now a.out.now c.admit_question.ensures c.in_err-grammar.was (ap told e) (ap lines_in e)

pub returns : goal.returns
returns c =
    let a = c.args in
    writer_replies a.sheet.now a.input.now a.variable a.position a.table.now a.work.now a.out.now c.admit_question.ensures c.in_ok-grammar.was c.output_too_small.ensures c.if-output_too_small.false
    c.ask_and_write.ensures.answers c.ask_and_write.ensures.writes
