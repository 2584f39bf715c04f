use mathlib.Core.Bool.{true, false}
use mathlib.Core.Path.{refl, sym, ◌∙◌}
use native.Mathlib.Omega.{arith}
use borrow.Author.Tests.{lt-ltb, le-ltb}
use Rattle.archive.proofs.Refusing.{movable_by}
use Rattle.archive.proofs.admit.Goals as goal

pub returns-then-variables_out : goal.returns-then-variables_out
returns-then-variables_out c =
    let a = c.args in
    sym (movable_by a.variables a.n a.source a.target true _ _ (sym c.variables_out.ensures ∙ c.if-variables_out.true) refl refl)

pub returns-then-n-gt4096 : goal.returns-then-n-gt4096
returns-then-n-gt4096 c =
    let a = c.args in
    sym (movable_by a.variables a.n a.source a.target false true _ (sym c.variables_out.ensures ∙ c.if-variables_out.false) (lt-ltb 4096 a.n (omega arith)) refl)

pub returns-then-too_short : goal.returns-then-too_short
returns-then-too_short c =
    let a = c.args in
    sym (movable_by a.variables a.n a.source a.target false false true (sym c.variables_out.ensures ∙ c.if-variables_out.false) (le-ltb 4096 a.n (omega arith))
    (sym c.too_short.ensures ∙ c.if-too_short.true))

pub returns : goal.returns
returns c =
    let a = c.args in
    sym (movable_by a.variables a.n a.source a.target false false false (sym c.variables_out.ensures ∙ c.if-variables_out.false) (le-ltb 4096 a.n (omega arith))
    (sym c.too_short.ensures ∙ c.if-too_short.false))
