use mathlib.Core.Path.{refl, sym, ◌∙◌}
use native.Mathlib.Omega.{arith}
use lib.ListN.{length}
use Rattle.grammar.proofs.HandedOn.{handed_on}
use Rattle.memo.proofs.Questioned.{refused_first, few_short, longer_enough, shorter_few, refused_small, admitted_then}
use Rattle.memo.proofs.admit_question.Goals as goal

pub too_small-requires : goal.too_small-requires
too_small-requires c = few_short c.admit.ensures c.args.table c.args.work c.in_ok-grammar.was

pub returns-then-too_small : goal.returns-then-too_small
returns-then-too_small c =
    let a = c.args in
    let l = c.in_ok-grammar.grammar in
    let few = shorter_few l.variables (length a.input.now) a.table a.work (sym c.if-too_small.true ∙ c.too_small.ensures) (omega arith) (omega arith) in
    refused_small c.admit.ensures a.table a.work c.in_ok-grammar.was few refl

pub returns-in_err-grammar : goal.returns-in_err-grammar
returns-in_err-grammar c = refused_first c.admit.ensures c.args.table c.args.work c.in_err-grammar.was (handed_on c.from_residual.ensures.1)

pub returns : goal.returns
returns c =
    let a = c.args in
    let l = c.in_ok-grammar.grammar in
    let enough = longer_enough l.variables (length a.input.now) a.table a.work (sym c.if-too_small.false ∙ c.too_small.ensures) (omega arith) (omega arith) in
    admitted_then c.admit.ensures a.table a.work c.in_ok-grammar.was enough refl
