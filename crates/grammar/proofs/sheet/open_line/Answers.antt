use mathlib.Core.Path.{◌≡◌, sym, ◌∙◌, ap}
use native.Mathlib.Omega.{arith}
use Rattle.grammar.specs.Sheet.{open_line}
use Rattle.grammar.proofs.Ends.{no_lines, line_ended, open_found}
use Rattle.grammar.proofs.sheet.open_line.Goals as goal

pub loop-k-init : goal.loop-k-init
loop-k-init c = (omega arith, no_lines c.args.s.now)

pub returns-then-s-k-ne10 : goal.returns-then-s-k-ne10
returns-then-s-k-ne10 c =
    let l = c.loop-k in
    let a = c.args in
    open_found a.s.now l.k a.count (omega arith) (λ e. c.if-s-k-ne10.true (omega arith))

pub loop-k-preserved : goal.loop-k-preserved
loop-k-preserved c =
    let l = c.loop-k in
    let a = c.args in
    (omega arith, line_ended a.s.now l.k l.invariant.1 (omega arith))

pub returns : goal.returns
returns c =
    let l = c.loop-k in
    let a = c.args in
    let e : l.k ≡ a.count = omega arith in
    sym l.invariant.1 ∙ ap (open_line a.s.now) e
