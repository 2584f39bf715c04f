use mathlib.Core.Path.{refl, sym, ◌∙◌}
use native.Mathlib.Omega.{arith}
use lib.ListN.{length}
use borrow.Author.Tests.{lt-ltb, le-ltb}
use Rattle.grammar.proofs.HandedOn.{handed_on}
use Rattle.verdict.proofs.Judged.{refused_sheet, few, refused_then, admitted_then}
use Rattle.verdict.proofs.admit_verdict.Goals as goal

pub returns-then-input-gt4096 : goal.returns-then-input-gt4096
returns-then-input-gt4096 c =
    let a = c.args in
    let p = c.read_sheet.ensures in
    refused_then p a.input.now a.table a.work c.in_ok-grammar.was (lt-ltb 4096 (length a.input.now) (omega arith)) refl (λ g. refl)

pub too_small-requires : goal.too_small-requires
too_small-requires c =
    let a = c.args in
    let p = c.read_sheet.ensures in
    (few p a.input.now a.table a.work c.in_ok-grammar.was, omega arith)

pub returns-then-too_small : goal.returns-then-too_small
returns-then-too_small c =
    let a = c.args in
    let p = c.read_sheet.ensures in
    refused_then p a.input.now a.table a.work c.in_ok-grammar.was (le-ltb 4096 (length a.input.now) (omega arith))
    (sym c.if-too_small.true ∙ c.too_small.ensures) (λ g. refl)

pub returns-in_err-grammar : goal.returns-in_err-grammar
returns-in_err-grammar c =
    let a = c.args in
    refused_sheet c.read_sheet.ensures a.input.now a.table a.work c.in_err-grammar.was (handed_on c.from_residual.ensures.1)

pub returns : goal.returns
returns c =
    let a = c.args in
    let p = c.read_sheet.ensures in
    admitted_then p a.input.now a.table a.work c.in_ok-grammar.was (le-ltb 4096 (length a.input.now) (omega arith))
    (sym c.if-too_small.false ∙ c.too_small.ensures) (λ g. refl)
