use mathlib.Core.Path.{ap}
use Rattle.grammar.proofs.HandedOn.{handed_on}
use Rattle.verdict.proofs.Judged.{ask_ready}
use Rattle.opening.specs.Opening.{told}
use Rattle.opening.proofs.Answered.{finds_refused, finds}
use Rattle.opening.proofs.opening.Goals as goal

pub shortest-requires : goal.shortest-requires
shortest-requires c =
    let a = c.args in
    ask_ready a.sheet.now a.input.now a.table.now a.work.now c.admit_verdict.ensures c.in_ok-grammar.was

pub returns-in_err-grammar : goal.returns-in_err-grammar
returns-in_err-grammar c =
    let a = c.args in
    finds_refused a.sheet.now a.input.now a.table.now a.work.now c.admit_verdict.ensures c.in_err-grammar.was (ap told (handed_on c.from_residual.ensures.1))

pub returns : goal.returns
returns c =
    let a = c.args in
    finds a.sheet.now a.input.now a.table.now a.work.now c.admit_verdict.ensures c.in_ok-grammar.was c.shortest.ensures
