use mathlib.Core.Path.{sym, ap, ◌∙◌}
use native.Mathlib.Omega.{arith}
use Rattle.std.specs.Prelude.{Err}
use Rattle.grammar.proofs.HandedOn.{handed_on}
use Rattle.finish.specs.Reply.{told}
use Rattle.passes.proofs.Refusing.{out_refused, in_range}
use Rattle.correction.proofs.Asked.{refused_first, refused_position, refused_elsewhere, passes, refused_range, asks, replies}
use Rattle.correction.proofs.correct.Goals as goal

pub returns-in_err-grammar : goal.returns-in_err-grammar
returns-in_err-grammar c =
    let a = c.args in
    refused_first a.sheet.now a.old.now a.input.now a.variable a.position a.c a.table.now a.work.now c.admit_question.ensures c.in_err-grammar.was
    (ap told (handed_on c.from_residual.ensures.1))

pub returns-then-input-c : goal.returns-then-input-c
returns-then-input-c c =
    let a = c.args in
    refused_position a.sheet.now a.old.now a.input.now a.variable a.position a.c a.table.now a.work.now c.admit_question.ensures c.in_ok-grammar.was (omega arith)

pub returns-then-differs_elsewhere : goal.returns-then-differs_elsewhere
returns-then-differs_elsewhere c =
    let a = c.args in
    refused_elsewhere a.sheet.now a.old.now a.input.now a.variable a.position a.c a.table.now a.work.now c.admit_question.ensures c.in_ok-grammar.was (omega arith)
    (sym c.differs_elsewhere.ensures ∙ c.if-differs_elsewhere.true)

pub retain-requires : goal.retain-requires
retain-requires c =
    let a = c.args in
    passes a.sheet.now a.old.now a.input.now a.variable a.position a.c a.table.now a.work.now c.admit_question.ensures c.in_ok-grammar.was (omega arith)

pub overflow_add-c : goal.overflow_add-c
overflow_add-c c =
    let a = c.args in
    let r = passes a.sheet.now a.old.now a.input.now a.variable a.position a.c a.table.now a.work.now c.admit_question.ensures c.in_ok-grammar.was (omega arith) in
    omega (arith, r.inside, r.short)

pub returns-in_err-retain : goal.returns-in_err-retain
returns-in_err-retain c =
    let a = c.args in
    let out = out_refused _ (sym c.in_err-retain.was ∙ c.retain.ensures.refuses) in
    refused_range a.sheet.now a.old.now a.input.now a.variable a.position a.c a.table.now a.work.now c.admit_question.ensures c.in_ok-grammar.was (omega arith)
    (sym c.differs_elsewhere.ensures ∙ c.if-differs_elsewhere.false) c.retain.new.table c.retain.ensures.retains out.0
    (ap told (handed_on c.from_residual-in_err-retain.ensures.1) ∙ ap told (ap Err out.1))

pub ask_over-requires : goal.ask_over-requires
ask_over-requires c =
    let a = c.args in
    asks a.sheet.now a.old.now a.input.now a.variable a.position a.c a.table.now a.work.now c.admit_question.ensures c.in_ok-grammar.was (omega arith)
    (sym c.differs_elsewhere.ensures ∙ c.if-differs_elsewhere.false) c.retain.new.table c.retain.ensures.retains (in_range _ (sym c.in_ok-retain.was ∙ c.retain.ensures.refuses))

pub returns : goal.returns
returns c =
    let a = c.args in
    replies a.sheet.now a.old.now a.input.now a.variable a.position a.c a.table.now a.work.now c.admit_question.ensures c.in_ok-grammar.was (omega arith)
    (sym c.differs_elsewhere.ensures ∙ c.if-differs_elsewhere.false) c.retain.new.table c.retain.ensures.retains (in_range _ (sym c.in_ok-retain.was ∙ c.retain.ensures.refuses))
    c.ask_over.ensures
